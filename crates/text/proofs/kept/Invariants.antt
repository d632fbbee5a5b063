use mathlib.Core.Path.{◌≡◌}
use lib.ListN.{take}
use Rattle.text.specs.Text.{is_blank, keep}
use Rattle.text.proofs.kept.Given as goal

abbrev pub invariant-loop-last : goal.invariant-loop-last
invariant-loop-last l = keep (is_blank l.set) l.s ≡ keep (is_blank l.set) (take l.last l.s)
