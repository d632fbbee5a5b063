use mathlib.Core.Path.{◌≡◌}
use Prim.Native.Nat.{◌≤◌, ◌-◌}
use lib.ListN.{length}
use Rattle.text.specs.Text.{is_blank, past}
use Rattle.text.specs.declared.Blanks.TheVariants.{Space}
use Rattle.seek.proofs.pass_spaces.Given as goal

abbrev pub invariant-loop-i : goal.invariant-loop-i
invariant-loop-i l = (l.i ≤ length l.s) × (past (is_blank Space) l.s l.from ≡ past (is_blank Space) l.s l.i)

abbrev pub decreases-loop-i : goal.decreases-loop-i
decreases-loop-i l = length l.s - l.i
