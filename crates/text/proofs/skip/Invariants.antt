use mathlib.Core.Path.{◌≡◌}
use Prim.Native.Nat.{◌≤◌, max}
use lib.ListN.{length}
use Rattle.text.specs.Text.{is_blank, past}
use Rattle.text.proofs.skip.Given as goal

abbrev pub invariant-loop-place : goal.invariant-loop-place
invariant-loop-place l = (l.place ≤ max l.from (length l.s)) × (past (is_blank l.set) l.s l.from ≡ past (is_blank l.set) l.s l.place)
