use mathlib.Core.Path.{◌≡◌}
use Prim.Native.Nat.{◌≤◌, ◌+◌, ◌-◌}
use lib.ListN.{length, drop}
use Rattle.text.specs.Text.{begins}
use Rattle.text.proofs.stands_at.Given as goal

abbrev pub invariant-loop-k : goal.invariant-loop-k
invariant-loop-k l = (l.k ≤ length l.t) × ((l.at + length l.t ≤ length l.s) × (begins l.t (drop l.at l.s) ≡ begins (drop l.k l.t) (drop (l.at + l.k) l.s)))
