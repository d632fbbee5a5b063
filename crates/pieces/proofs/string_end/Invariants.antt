use Prim.Native.Nat.{◌≤◌, max}
use lib.ListN.{length}
use Rattle.pieces.specs.Laws.{SameEnd}
use Rattle.pieces.proofs.string_end.Given as goal

abbrev pub invariant-loop-i : goal.invariant-loop-i
invariant-loop-i l = (l.i ≤ max l.from (length l.s)) × SameEnd l.s l.from l.i l.owed
