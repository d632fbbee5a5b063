use Rattle.std.proofs.Common.{◌≡◌}
use Rattle.seek.specs.Seek.{both_at, any_of}
use Rattle.seek.proofs.hit.Given as goal

abbrev pub invariant-loop-j : goal.invariant-loop-j
invariant-loop-j l = l.any ≡ any_of (both_at l.s l.at l.b l.to l.c) l.j
