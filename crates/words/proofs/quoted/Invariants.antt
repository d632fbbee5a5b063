-- The bytes put so far fit the memory.
use Rattle.std.proofs.Common.{◌≤◌}
use Rattle.words.proofs.quoted.Given as goal

abbrev pub invariant-loop-b : goal.invariant-loop-b
invariant-loop-b l = l.n ≤ 65536
