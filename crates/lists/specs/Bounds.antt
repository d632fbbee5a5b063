-- What a caller may rely on in any list that is accepted: at most 256 elements, each within the payload, within 4 brackets, with values of 32 bits.
use Rattle.std.specs.Prelude.{◌≡◌, List, [], ◌∷◌, ◌++◌, ℕ, suc, ◌+◌, ◌≤◌, length, replicate}
use Rattle.std.proofs.Common.{subst, arith, length-append}
use Rattle.std.proofs.lemmas.List.{length-replicate}
use Rattle.pieces.specs.declared.Element.{Element}
use Rattle.lists.specs.Grammar.{Symbol, Derivation, empty, number, range, string, bracket, spaced, one, more, word, elements, too_deep, too_large, too_many, over, Accepted}
use Rattle.lists.specs.Onward.{shallow, small, few, both_nil}

-- an element that stands from a up to b
pub record Inside (a b : ℕ) (e : Element) : Type 0 where
  pub after : a ≤ e.place
  pub order : e.place ≤ e.end
  pub before : e.end ≤ b
  pub brackets : e.depth ≤ 4
  pub least : e.low ≤ 4294967295
  pub most : e.high ≤ 4294967295

abbrev pub Each : (Element → Type 0) → List Element → Type 0
Each P [] = Unit {0}
Each P (e ∷ es) = P e × Each P es

each_append : (P : Element → Type 0) (es fs : List Element) → Each P es → Each P fs → Each P (es ++ fs)
each_append P [] fs x y = y
each_append P (e ∷ es) fs x y = (x.0, each_append P es fs x.1 y)

wider : (a b i j : ℕ) → i ≤ a → b ≤ j → (es : List Element) → Each (Inside a b) es → Each (Inside i j) es
wider a b i j h g [] x = tt
wider a b i j h g (e ∷ es) x =
    let y = x.0 in
    (record { after = omega (arith, y.after); order = y.order; before = omega (arith, y.before); brackets = y.brackets; least = y.least; most = y.most }, wider a b i j h g es x.1)

-- the elements of a derivation within the limits, which stands from the place p on within d brackets, behind n elements
record Bounded {c : Symbol} (t : Derivation c) (d p n : ℕ) : Type 0 where
  count : n + length (elements t d p) ≤ 256
  each : Each (Inside p (p + length (word t))) (elements t d p)

bounded : {c : Symbol} (t : Derivation c) (d p n : ℕ) → d ≤ 4 → over t d p n ≡ [] → Bounded t d p n
unfolding elements word over
bounded empty d p n h e =
    record {
      count = omega (arith, few p n e);
      each = (record { after = omega arith; order = omega arith; before = omega arith; brackets = h; least = omega arith; most = omega arith }, tt);
    }
bounded (number w f) d p n h e =
    let l = both_nil (too_large w p) (too_many n p) e in
    let v = small p w l.0 in
    record {
      count = omega (arith, few p n l.1);
      each = (record { after = omega arith; order = omega arith; before = omega arith; brackets = h; least = v; most = v }, tt);
    }
bounded (range w x f g) d p n h e =
    let l = both_nil (too_large w p) (too_many n p ++ too_large x (suc (p + length w))) e in
    let m = both_nil (too_many n p) (too_large x (suc (p + length w))) l.1 in
    record {
      count = omega (arith, few p n m.0);
      each = (record { after = omega arith; order = omega arith; before = omega arith; brackets = h; least = small p w l.0; most = small (suc (p + length w)) x m.1 }, tt);
    }
bounded (string ps) d p n h e =
    record {
      count = omega (arith, few p n e);
      each = (record { after = omega arith; order = omega arith; before = omega arith; brackets = h; least = omega arith; most = omega arith }, tt);
    }
bounded (bracket l) d p n h e =
    let k = both_nil (too_deep d p) (too_many n p ++ over l (suc d) (suc p) (suc n)) e in
    let m = both_nil (too_many n p) (over l (suc d) (suc p) (suc n)) k.1 in
    let b = bounded l (suc d) (suc p) (suc n) (omega (arith, shallow p d k.0)) m.1 in
    record {
      count = omega (arith, b.count);
      each = (
        record { after = omega arith; order = omega arith; before = omega arith; brackets = h; least = omega arith; most = omega arith },
        wider (suc p) (suc p + length (word l)) p (p + length (word (bracket l))) (omega arith) (omega (arith, length-append (word l) (41 ∷ []))) (elements l (suc d) (suc p)) b.each,
      );
    }
bounded (spaced m t) d p n h e =
    let b = bounded t d (p + m) n h e in
    record {
      count = b.count;
      each = wider (p + m) (p + m + length (word t)) p (p + length (word (spaced m t))) (omega arith) (omega (arith, length-append (replicate m 32) (word t), length-replicate {A = ℕ} m 32)) (elements t d (p + m)) b.each;
    }
bounded (one t) d p n h e = let b = bounded t d p n h e in record { count = b.count; each = b.each }
bounded (more t l) d p n h e =
    let q = suc (p + length (word t)) in
    let k = both_nil (over t d p n) (over l d q (n + length (elements t d p))) e in
    let b = bounded t d p n h k.0 in
    let c = bounded l d q (n + length (elements t d p)) h k.1 in
    let all = length-append (word t) (44 ∷ word l) in
    record {
      count = omega (arith, c.count, length-append (elements t d p) (elements l d q));
      each =
          each_append (Inside p (p + length (word (more t l)))) (elements t d p) (elements l d q)
          (wider p (p + length (word t)) p (p + length (word (more t l))) (omega arith) (omega (arith, all)) (elements t d p) b.each)
          (wider q (q + length (word l)) p (p + length (word (more t l))) (omega arith) (omega (arith, all)) (elements l d q) c.each);
    }

-- What a caller may rely on.
pub accepted_bounds : (s : List ℕ) (es : List Element) → Accepted s es → (length es ≤ 256) × Each (Inside 0 (length s)) es
accepted_bounds s es a =
    let b = bounded a.tree 0 0 0 (omega arith) a.within in
    subst (λ (fs : List Element). (length fs ≤ 256) × Each (Inside 0 (length s)) fs) a.gives
    (omega (arith, b.count), subst (λ (x : List ℕ). Each (Inside 0 (length x)) (elements a.tree 0 0)) a.derives (wider 0 (0 + length (word a.tree)) 0 (length (word a.tree)) (omega arith) (omega arith) (elements a.tree 0 0) b.each))
