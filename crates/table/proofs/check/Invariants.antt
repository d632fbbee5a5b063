use mathlib.Core.Path.{◌≡◌}
use Prim.Native.Nat.{◌-◌}
use Rattle.table.specs.Table.{ruling, ruling_by}
use Rattle.table.proofs.check.Given as goal

abbrev pub invariant-loop-n : goal.invariant-loop-n
invariant-loop-n l = ruling l.t ≡ ruling_by (64 - l.n) l.t l.at l.n
