use Rattle.std.proofs.Common.{◌≤◌}
use Rattle.seek.specs.Seek.{FirstIn}
use Rattle.seek.proofs.first.Given as goal

abbrev pub invariant-loop-j : goal.invariant-loop-j
invariant-loop-j l = (l.m ≤ 255) × FirstIn l.s l.at l.j l.m
