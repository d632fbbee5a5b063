use Rattle.std.proofs.Common.{◌≡◌, ◌≤◌, max, length}
use Rattle.text.specs.Text.{past}
use Rattle.numeric.specs.Laws.{not_cr}
use Rattle.numeric.proofs.next_cr.Given as goal

abbrev pub invariant-loop-place : goal.invariant-loop-place
invariant-loop-place l = (l.place ≤ max l.from (length l.s)) × (past not_cr l.s l.from ≡ past not_cr l.s l.place)
