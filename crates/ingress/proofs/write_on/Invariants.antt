use Rattle.std.proofs.Common.{◌-◌, length}
use Rattle.selector.specs.Selector.{choice}
use Rattle.turn.specs.Turn.{lent, SamePlaces}
use Rattle.ingress.specs.Laws.{Writes}
use Rattle.ingress.proofs.write_on.Given as goal

abbrev pub invariant-loop-next : goal.invariant-loop-next
invariant-loop-next l = Writes (choice l.selector l.table) l.piece (lent l.initial.s l.initial.memories) l.taken (lent l.s l.memories) × SamePlaces l.initial.memories l.memories

abbrev pub decreases-loop-next : goal.decreases-loop-next
decreases-loop-next l = length l.piece - l.taken
