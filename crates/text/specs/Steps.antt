-- One step of each definition of `Text`, as the loops take it: the byte at hand passes, fails, or there is none.
use Rattle.std.specs.Prelude.{Some, None, ◌≡◌, refl, Bool, true, false, ◌&&◌, ◌||◌, length, get_or, take, drop, if◌then◌else◌}
use Rattle.std.proofs.Math.Path.{ap}
use Rattle.std.proofs.Common.{◌∙◌, add-one, sub-one, le_of_suc-le-suc, arith, length-drop, drop_of_length-le, take-suc, length-take-le, eq-eqb, ne_eqb}
use Rattle.std.proofs.Math.Bool.{and-false}
use mathlib.Core.List.{List, [], ◌∷◌, ◌++◌}
use Prim.Native.Nat.{ℕ, zero, suc, ◌+◌, ◌-◌, ◌≤◌, ◌<◌}
use Rattle.std.proofs.Math.Seq.{drop-cons}
use Rattle.std.proofs.Math.Dec.{eqb, eqb-suc-zero}
use Rattle.text.specs.Text.{among, blanks, is_blank, lead, past, keep, begins, stands, search, find_in}
use Rattle.text.specs.declared.Blanks.TheVariants.{Run, Trim}

-- the two sets differ in the form feed alone
pub trim_run : (b : ℕ) → (b ≡ 12 → ⊥) → is_blank Run b ≡ is_blank Trim b
unfolding is_blank among blanks
trim_run b h = rw (ne_eqb b 12 h) (swapped (eqb b 32) (eqb b 9) (eqb b 13) (eqb b 10))
  where
    swapped : (w x y z : Bool) → w || (x || (y || (z || false))) ≡ w || (x || (z || (y || false)))
    swapped true x y z = refl
    swapped false true y z = refl
    swapped false false true true = refl
    swapped false false true false = refl
    swapped false false false true = refl
    swapped false false false false = refl

module _ (f : ℕ → Bool) where
  pub past_more : (s : List ℕ) (i : ℕ) → i < length s → f (get_or s i 0) ≡ true → past f s i ≡ past f s (i + 1)
  unfolding past lead
  past_more s i h e = rw (add-one, drop-cons s i 0 h, e) (omega arith)

  pub past_stop : (s : List ℕ) (i : ℕ) → i < length s → f (get_or s i 0) ≡ false → past f s i ≡ i
  unfolding past lead
  past_stop s i h e = rw (drop-cons s i 0 h, e) (omega arith)

  pub past_end : (s : List ℕ) (i : ℕ) → length s ≤ i → past f s i ≡ i
  unfolding past lead
  past_end s i h = rw (drop_of_length-le s h) (omega arith)

  keep_last : (l : List ℕ) (x : ℕ) → f x ≡ true → keep f (l ++ (x ∷ [])) ≡ keep f l
  unfolding keep
  keep_last [] x e = rw e
  keep_last (y ∷ l) x e = ap (λ (n : ℕ). if f y && eqb n 0 then zero else suc n) (keep_last l x e)

  keep_end : (l : List ℕ) (x : ℕ) → f x ≡ false → keep f (l ++ (x ∷ [])) ≡ suc (length l)
  unfolding keep
  keep_end [] x e = rw e
  keep_end (y ∷ l) x e = rw (keep_end l x e, eqb-suc-zero (length l), and-false (f y))

  pub keep_less : (s : List ℕ) (n : ℕ) → 0 < n → n ≤ length s → f (get_or s (n - 1) 0) ≡ true → keep f (take n s) ≡ keep f (take (n - 1) s)
  keep_less s zero p h e = absurd (omega arith)
  keep_less s (suc j) p h e = rw (take-suc s j 0 h, sub-one) (keep_last (take j s) (get_or s j 0) (rw sub-one at e))

  pub keep_stop : (s : List ℕ) (n : ℕ) → 0 < n → n ≤ length s → f (get_or s (n - 1) 0) ≡ false → keep f (take n s) ≡ n
  keep_stop s zero p h e = absurd (omega arith)
  keep_stop s (suc j) p h e = rw (take-suc s j 0 h) (keep_end (take j s) (get_or s j 0) (rw sub-one at e) ∙ ap suc (length-take-le j s (omega arith)))

pub begins_more : (t s : List ℕ) (k i : ℕ) → k < length t → i < length s → get_or s i 0 ≡ get_or t k 0 → begins (drop k t) (drop i s) ≡ begins (drop (k + 1) t) (drop (i + 1) s)
unfolding begins
begins_more t s k i h g e = rw (add-one k, add-one i, drop-cons t k 0 h, drop-cons s i 0 g, eq-eqb _ _ e)

pub begins_stop : (t s : List ℕ) (k i : ℕ) → k < length t → i < length s → (get_or s i 0 ≡ get_or t k 0 → ⊥) → begins (drop k t) (drop i s) ≡ false
unfolding begins
begins_stop t s k i h g e = rw (drop-cons t k 0 h, drop-cons s i 0 g, ne_eqb _ _ e)

pub begins_end : (t s : List ℕ) (k : ℕ) → length t ≤ k → begins (drop k t) s ≡ true
unfolding begins
begins_end t s k h = rw (drop_of_length-le t h)

pub begins_short : (t s : List ℕ) → length s < length t → begins t s ≡ false
unfolding begins
begins_short [] s h = absurd (omega arith)
begins_short (x ∷ t) [] h = refl
begins_short (x ∷ t) (y ∷ s) h = ap (λ (b : Bool). eqb y x && b) (begins_short t s (le_of_suc-le-suc h)) ∙ and-false (eqb y x)

begins_nil : (t : List ℕ) → eqb (length t) 0 ≡ begins t []
unfolding begins
begins_nil [] = refl
begins_nil (x ∷ t) = eqb-suc-zero (length t)

pub stands_past : (t s : List ℕ) (i : ℕ) → length s ≤ i → eqb (length t) 0 ≡ stands t s i
unfolding stands
stands_past t s i h = rw (drop_of_length-le s h) (begins_nil t)

pub stands_short : (t s : List ℕ) (i : ℕ) → length s < i + length t → i ≤ length s → stands t s i ≡ false
unfolding stands
stands_short t s i h g = begins_short t (drop i s) (rw length-drop (omega arith))

search_here : (t s : List ℕ) (i : ℕ) → begins t s ≡ true → search t s i ≡ Some i
unfolding search
search_here t [] i e = rw e
search_here t (x ∷ s) i e = rw e

-- t stands here; it does not, and the search goes on; it does not, and nothing is left
pub find_here : (t s : List ℕ) (i : ℕ) → stands t s i ≡ true → find_in t s i ≡ Some i
unfolding find_in stands
find_here t s i e = search_here t (drop i s) i e

pub find_next : (t s : List ℕ) (i : ℕ) → i < length s → stands t s i ≡ false → find_in t s i ≡ find_in t s (i + 1)
unfolding find_in search stands
find_next t s i h e = rw (add-one, drop-cons s i 0 h, rw (drop-cons s i 0 h) at e)

pub find_end : (t s : List ℕ) (i : ℕ) → length s ≤ i → stands t s i ≡ false → find_in t s i ≡ None
unfolding find_in search stands
find_end t s i h e = rw (drop_of_length-le s h, rw (drop_of_length-le s h) at e)
