use Rattle.std.proofs.Common.{◌≡◌}
use Rattle.pass.specs.Begin.{begin_from}
use Rattle.seek.specs.Seek.{any_of}
use Rattle.pass.proofs.any_begins.Given as goal

abbrev pub invariant-loop-j : goal.invariant-loop-j
invariant-loop-j l = l.any ≡ any_of (begin_from l.s l.at) l.j
