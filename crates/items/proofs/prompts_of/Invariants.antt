use Rattle.std.proofs.Common.{◌≡◌, ℕ}
use Rattle.table.specs.Table.{entries, found, rest}
use Rattle.table.specs.declared.Mark.TheVariants as mark
use Rattle.items.specs.Rules.{custom_prompts}
use Rattle.items.proofs.prompts_of.Given as goal

abbrev pub invariant-loop-r : goal.invariant-loop-r
invariant-loop-r l =
    (at : ℕ) × (n : ℕ) × (rest l.r-iterator ≡ found mark.Prompt l.table at n) × (custom_prompts (entries mark.Prompt l.table 0 0) l.s l.e ≡ custom_prompts (entries mark.Prompt l.table at n) l.s l.e)
