-- Any two results that a contract of this crate allows are equal, every byte and number of the lent memories too.
use mathlib.Core.Path.{◌≡◌, sym, ap, ◌∙◌}
use Prim.Native.Nat.{ℕ}
use Rattle.outcome.specs.One.{Alike}
use Rattle.text.specs.Logic.{determined}
use Rattle.ingress.specs.One.{advanced_of, advanced_back, written_of, written_back, SameMemories, same_memories}
use Rattle.feed.specs.Feed.{Fed}
use Rattle.feed.proofs as calls

-- behind state, commit or piece, selector and table: the findings, and the memories
pub advance_one : Alike calls.advance.Reads.Post (λ κs x y s t. (x ≡ y) × ((s.1.1.1.1.0.now ≡ t.1.1.1.1.0.now) × SameMemories s.1.1.1.1.1.0.now t.1.1.1.1.1.0.now))
advance_one κs a x y s t h g =
    let e = determined h.0 g.0 in
    (sym (advanced_back a.0 x) ∙ ap (λ (z : Fed (Unit {0})). advanced_of z.result.said z.result.left.state) e ∙ advanced_back a.0 y, (ap (λ (z : Fed (Unit {0})). z.numbers) e, same_memories _ _ (ap (λ (z : Fed (Unit {0})). z.result) e)))

pub write_one : Alike calls.write.Reads.Post (λ κs x y s t. (x ≡ y) × ((s.1.1.1.1.0.now ≡ t.1.1.1.1.0.now) × SameMemories s.1.1.1.1.1.0.now t.1.1.1.1.1.0.now))
write_one κs a x y s t h g =
    let e = determined h.0 g.0 in
    (sym (written_back a.0 x) ∙ ap (λ (z : Fed ℕ). written_of z.result.said z.result.left.state) e ∙ written_back a.0 y, (ap (λ (z : Fed ℕ). z.numbers) e, same_memories _ _ (ap (λ (z : Fed ℕ). z.result) e)))
