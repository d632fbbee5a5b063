use Rattle.std.proofs.Common.{◌≡◌, ℕ}
use Rattle.table.specs.Table.{entries, found, rest}
use Rattle.items.specs.Rules.{first_custom}
use Rattle.items.proofs.first_custom.Given as goal

abbrev pub invariant-loop-r : goal.invariant-loop-r
invariant-loop-r l =
    (at : ℕ) × (n : ℕ) × (rest l.r-iterator ≡ found l.fn.mark l.table at n) × (first_custom (entries l.fn.mark l.table 0 0) l.s l.e ≡ first_custom (entries l.fn.mark l.table at n) l.s l.e)
