use Rattle.std.proofs.Common.{◌≡◌}
use Rattle.selector.specs.Selector.{choice}
use Rattle.turn.specs.Turn.{lent, SamePlaces}
use Rattle.ingress.specs.Ingress.{run}
use Rattle.ingress.proofs.run.Given as goal

abbrev pub invariant-loop-s : goal.invariant-loop-s
invariant-loop-s l = (run (choice l.selector l.table) (lent l.initial.s l.initial.memories) ≡ run (choice l.selector l.table) (lent l.s l.memories)) × SamePlaces l.initial.memories l.memories

abbrev pub decreases-loop-s : goal.decreases-loop-s
decreases-loop-s l = l.s.end
