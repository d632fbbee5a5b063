use Rattle.text.specs.Text.{find_in}
use mathlib.Core.List.{[], ◌∷◌}
use mathlib.Core.Path.{◌≡◌}
use Rattle.seek.proofs.find_byte.Given as goal

abbrev pub invariant-loop-i : goal.invariant-loop-i
invariant-loop-i l = find_in (l.byte ∷ []) l.s l.from ≡ find_in (l.byte ∷ []) l.s l.i
