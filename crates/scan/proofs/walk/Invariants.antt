use Rattle.std.proofs.Common.{◌≤◌, ◌-◌, length}
use Rattle.scan.proofs.Steps.{found, Going}
use Rattle.scan.proofs.walk.Given as goal

abbrev pub invariant-loop-i-2 : goal.invariant-loop-i-2
invariant-loop-i-2 l = (l.initial.i ≤ l.i) × Going (found l.initial.i l.initial.q l.initial.ends) l.s l.i l.q l.ends

abbrev pub decreases-loop-i-2 : goal.decreases-loop-i-2
decreases-loop-i-2 l = length l.s - l.i

abbrev pub invariant-loop-i : goal.invariant-loop-i
invariant-loop-i l = Going (found l.initial.i l.initial.q l.initial.ends) l.s l.i l.q l.ends

abbrev pub decreases-loop-i : goal.decreases-loop-i
decreases-loop-i l = length l.s - l.i
