-- Any two results that a contract of this crate allows are equal: where the text ends, every byte of the lent memory, and which memory it is.
use mathlib.Core.Path.{◌≡◌, sym, ◌∙◌}
use Rattle.outcome.specs.One.{Alike}
use Rattle.ink.specs.Laws.{ink_one}
use Rattle.ink.proofs as calls

pub words_one : Alike calls.Page.words.Reads.Post (λ κs x y s t. (s.0.now.at ≡ t.0.now.at) × ((s.0.now.out.now ≡ t.0.now.out.now) × (s.0.now.out.ghost_name ≡ t.0.now.out.ghost_name)))
words_one κs a x y s t h g = let e = ink_one _ _ _ _ _ h.0 g.0 in (e.0, (e.1, h.1.0 ∙ sym g.1.0))

pub decimal_one : Alike calls.Page.decimal.Reads.Post (λ κs x y s t. (s.0.now.at ≡ t.0.now.at) × ((s.0.now.out.now ≡ t.0.now.out.now) × (s.0.now.out.ghost_name ≡ t.0.now.out.ghost_name)))
decimal_one κs a x y s t h g = let e = ink_one _ _ _ _ _ h.0 g.0 in (e.0, (e.1, h.1.0 ∙ sym g.1.0))

pub hex_one : Alike calls.Page.hex.Reads.Post (λ κs x y s t. (s.0.now.at ≡ t.0.now.at) × ((s.0.now.out.now ≡ t.0.now.out.now) × (s.0.now.out.ghost_name ≡ t.0.now.out.ghost_name)))
hex_one κs a x y s t h g = let e = ink_one _ _ _ _ _ h.0 g.0 in (e.0, (e.1, h.1.0 ∙ sym g.1.0))

-- The text; where it lies is the lent memory.
pub text_one : Alike calls.Page.text.Reads.Post (λ κs x y s t. x.now ≡ y.now)
text_one κs a x y s t h g = h ∙ sym g
