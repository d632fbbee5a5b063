use Prim.Native.Nat.{◌-◌}
use Rattle.seek.specs.Seek.{Later}
use Rattle.text.specs.Text.{find_in}
use Rattle.seek.proofs.Sought.pass.Given as goal

abbrev pub invariant-loop-i : goal.invariant-loop-i
invariant-loop-i l = Later (find_in l.self.text.now l.s) l.from l.e l.i

abbrev pub decreases-loop-i : goal.decreases-loop-i
decreases-loop-i l = l.e - l.i
