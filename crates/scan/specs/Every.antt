-- A test that is computed over a list, one entry after the other, and what it says at each; and when two lists are the same.
use Rattle.std.specs.Prelude.{◌≡◌, ◌⊎◌, Bool, true, false, ◌&&◌, ◌||◌, eqb, length, get_or, take, drop}
use Rattle.std.proofs.Math.Path.{refl, sym, ap}
use Rattle.std.proofs.Common.{ap₂, ◌∙◌, inl, inr, add-zero, zero-add, add-suc, suc-add, le_of_suc-le-suc, not-suc-le-zero, eq-eqb, eqb-true}
use mathlib.Core.List.{List, [], ◌∷◌}
use Prim.Native.Nat.{ℕ, zero, suc, ◌+◌, ◌<◌}
use native.Mathlib.Omega.{arith}
use Rattle.text.specs.Logic.{false_true, and_both}

pub or_both : (a b : Bool) → a || b ≡ true → (a ≡ true) ⊎ (b ≡ true)
or_both true b e = inl refl
or_both false b e = inr e

pub or_right : (a b : Bool) → b ≡ true → a || b ≡ true
or_right true b e = refl
or_right false b e = e

module _ {A : Type 0} where
  -- the test passes at each entry and its place, counted from i
  unfoldable pub every : (ℕ → A → Bool) → ℕ → List A → Bool
  every f i [] = true
  every f i (x ∷ xs) = let r = every f (suc i) xs in f i x && r

  from : (f : ℕ → A → Bool) (d : A) (xs : List A) (i : ℕ) → every f i xs ≡ true → (k : ℕ) → k < length xs → f (i + k) (get_or xs k d) ≡ true
  unfolding every
  from f d [] i t k h = absurd (not-suc-le-zero h)
  from f d (x ∷ xs) i t zero h = ap (λ (m : ℕ). f m x) (add-zero i) ∙ (and_both (f i x) (every f (suc i) xs) t).0
  from f d (x ∷ xs) i t (suc k) h =
      ap (λ (m : ℕ). f m (get_or xs k d)) (add-suc i k ∙ sym (suc-add i k))
      ∙ from f d xs (suc i) (and_both (f i x) (every f (suc i) xs) t).1 k (le_of_suc-le-suc h)

  pub at : (f : ℕ → A → Bool) (d : A) (xs : List A) → every f 0 xs ≡ true → (k : ℕ) → k < length xs → f k (get_or xs k d) ≡ true
  at f d xs t k h = ap (λ (m : ℕ). f m (get_or xs k d)) (sym (zero-add k)) ∙ from f d xs 0 t k h

  -- a long list may be tested in parts, which takes less memory
  pub every_join : (f : ℕ → A → Bool) (i n : ℕ) (xs : List A) → every f i (take n xs) ≡ true → every f (i + n) (drop n xs) ≡ true → every f i xs ≡ true
  unfolding every
  every_join f i zero xs a b = ap (λ (m : ℕ). every f m xs) (sym (add-zero i)) ∙ b
  every_join f i (suc n) [] a b = refl
  every_join f i (suc n) (x ∷ xs) a b =
      let w = and_both (f i x) (every f (suc i) (take n xs)) a in
      let e : i + suc n ≡ suc i + n = omega arith in
      rw w.0 (every_join f (suc i) n xs w.1 (ap (λ (m : ℕ). every f m (drop n xs)) (sym e) ∙ b))

-- are the two lists the same?
unfoldable pub same : List ℕ → List ℕ → Bool
same [] [] = true
same [] (y ∷ t) = false
same (x ∷ s) [] = false
same (x ∷ s) (y ∷ t) = let r = same s t in eqb x y && r

pub same_is : (s t : List ℕ) → same s t ≡ true → s ≡ t
unfolding same
same_is [] [] h = refl
same_is [] (y ∷ t) h = absurd (false_true h refl)
same_is (x ∷ s) [] h = absurd (false_true h refl)
same_is (x ∷ s) (y ∷ t) h =
    let w = and_both (eqb x y) (same s t) h in
    ap₂ (λ (a : ℕ) (l : List ℕ). a ∷ l) (eqb-true x y w.0) (same_is s t w.1)

pub same_self : (t : List ℕ) → same t t ≡ true
unfolding same
same_self [] = refl
same_self (x ∷ t) = rw (eq-eqb x x refl, same_self t)
