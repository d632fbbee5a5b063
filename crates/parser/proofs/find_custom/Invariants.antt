use mathlib.Core.Path.{◌≡◌}
use Rattle.text.specs.Text.{find_in}
use Rattle.parser.specs.Parser.{wrapped}
use Rattle.parser.proofs.find_custom.Given as goal

abbrev pub invariant-loop-place : goal.invariant-loop-place
invariant-loop-place l = find_in (wrapped l.x) l.buf l.from ≡ find_in (wrapped l.x) l.buf l.place
