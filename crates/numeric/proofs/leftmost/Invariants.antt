use Rattle.std.proofs.Common.{◌-◌, length}
use Rattle.numeric.specs.Laws.{Walked}
use Rattle.numeric.proofs.leftmost.Given as goal

abbrev pub invariant-loop-line : goal.invariant-loop-line
invariant-loop-line l = Walked l.s l.line.start l.line.from

abbrev pub decreases-loop-line : goal.decreases-loop-line
decreases-loop-line l = length l.s - l.line.start
