use Rattle.std.proofs.Common.{◌≡◌, ℕ, drop, length}
use Rattle.quiet.specs.Customs.{NoPrompts}
use Rattle.quiet.proofs.only_notices.Given as goal

abbrev pub invariant-loop-rest : goal.invariant-loop-rest
invariant-loop-rest l = (at : ℕ) × (l.rest ≡ drop at l.table) × (NoPrompts l.table at → NoPrompts l.table 0)

abbrev pub decreases-loop-rest : goal.decreases-loop-rest
decreases-loop-rest l = length l.rest
