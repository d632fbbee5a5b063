use Rattle.std.proofs.Common.{◌≡◌}
use Rattle.seek.specs.Seek.{space_at, all_of}
use Rattle.seek.proofs.spaces.Given as goal

abbrev pub invariant-loop-j : goal.invariant-loop-j
invariant-loop-j l = l.all ≡ all_of (space_at l.s l.at) l.j
