-- The ways out of the functions, as the code takes them.
use Rattle.std.specs.Prelude.{is_some, ◌≡◌, Bool, true, not, ℕ}
use Rattle.std.proofs.Math.Path.{ap}
use mathlib.Core.List.{List}
use Rattle.table.specs.Table.{Entry}
use Rattle.items.specs.Rules.{custom_prompts}
use Rattle.quiet.specs.Quiet.{no_custom}
use Rattle.quiet.specs.Customs.{OnlyNotices}

-- the table has no custom prompt
pub custom_none : (t s : List ℕ) (b : Bool) → OnlyNotices t b → b ≡ true → no_custom t s ≡ true
unfolding no_custom custom_prompts
custom_none t s b w q = ap (λ (l : List Entry). not (is_some (custom_prompts l s 0))) (rw q at w)
