use Rattle.std.proofs.Common.{◌≤◌, length}
use Rattle.pass.specs.Begin.{Clear}
use Rattle.pass.proofs.begin_near.Given as goal

abbrev pub invariant-loop-p : goal.invariant-loop-p
invariant-loop-p l = (l.p ≤ length l.s) × Clear l.s l.from l.p
