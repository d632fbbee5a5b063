use Rattle.std.proofs.Common.{◌≡◌}
use Rattle.table.specs.Table.{entries, found, rest}
use Rattle.table.specs.declared.Mark.TheVariants as mark
use Rattle.items.specs.Rules.{notices}
use Rattle.level.specs.Level.{Unless}
use Rattle.level.specs.Laws.{OnlyNotices}
use Rattle.level.proofs.notices.Given as goal

abbrev pub invariant-loop-r : goal.invariant-loop-r
invariant-loop-r l =
    (rest l.r-iterator ≡ found mark.Notice l.table l.at l.n) × (notices (entries mark.Notice l.table 0 0) l.s l.e ≡ notices (entries mark.Notice l.table l.at l.n) l.s l.e) × Unless l.others (OnlyNotices l.table l.at l.n)
