use mathlib.Core.Path.{◌≡◌}
use Prim.Native.Nat.{◌*◌, ◌≤◌, max}
use lib.ListN.{length}
use Rattle.parser.specs.Laws.{Sofar}
use Rattle.parser.proofs.digits_at.Given as goal

abbrev pub invariant-loop-i : goal.invariant-loop-i
invariant-loop-i g l = (l.i ≤ max l.from (length l.buf)) × Sofar g.row.MOST l.buf l.from l.i l.number × (l.twice ≡ l.number * 2)
