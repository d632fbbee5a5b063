-- The promise leaves one result: a payload is accepted with these elements exactly where it has a derivation within the limits that gives them, and refused
-- exactly at its first fault.
use Rattle.std.specs.Prelude.{Result, Ok, Err, ◌≡◌, refl, ℕ, suc, length, take}
use Rattle.std.proofs.Math.Path.{sym, ap}
use Rattle.std.proofs.Common.{◌∙◌, subst, ⊎_elim, arith}
use mathlib.Core.List.{List, [], append-nil}
use Rattle.std.proofs.lemmas.List.Edits.{sets}
use Rattle.pieces.specs.declared.Element.{Element}
use Rattle.lists.specs.declared.ListError.{ListError}
use Rattle.lists.specs.declared.ListError.TheVariants.{Malformed, TooDeep, TooLarge, TooMany}
use Rattle.lists.specs.Grammar.{Derivation, list, word, elements, numbers, Fault, malformed, passed, First, Accepted, Reading, number_of, place_of}
use Rattle.lists.specs.Scan.{at, start, rests, final, limit, fault_in, told, fine, scan}
use Rattle.lists.specs.Places.{not_fine}
use Rattle.lists.specs.Shows.{nothing}
use Rattle.lists.specs.Onward.{reads}
use Rattle.lists.specs.Unique.{one_derivation}
use Rattle.lists.specs.Refusal.{passes}
use Rattle.lists.specs.Told.{Whole, written}

-- an error is known by its number and its place
one_error : (x y : ListError) → number_of x ≡ number_of y → place_of x ≡ place_of y → x ≡ y
one_error (Malformed p) (Malformed q) e f = ap Malformed f
one_error (TooDeep p) (TooDeep q) e f = ap TooDeep f
one_error (TooLarge p) (TooLarge q) e f = ap TooLarge f
one_error (TooMany p) (TooMany q) e f = ap TooMany f
one_error (Malformed p) (TooDeep q) e f = absurd (omega arith)
one_error (Malformed p) (TooLarge q) e f = absurd (omega arith)
one_error (Malformed p) (TooMany q) e f = absurd (omega arith)
one_error (TooDeep p) (Malformed q) e f = absurd (omega arith)
one_error (TooDeep p) (TooLarge q) e f = absurd (omega arith)
one_error (TooDeep p) (TooMany q) e f = absurd (omega arith)
one_error (TooLarge p) (Malformed q) e f = absurd (omega arith)
one_error (TooLarge p) (TooDeep q) e f = absurd (omega arith)
one_error (TooLarge p) (TooMany q) e f = absurd (omega arith)
one_error (TooMany p) (Malformed q) e f = absurd (omega arith)
one_error (TooMany p) (TooDeep q) e f = absurd (omega arith)
one_error (TooMany p) (TooLarge q) e f = absurd (omega arith)

abbrev pub RefusedAt : ℕ → ℕ → Result ℕ ListError → Type 0
RefusedAt k p (Ok n) = ⊥
RefusedAt k p (Err why) = (number_of why ≡ k) × (place_of why ≡ p)

module _ (s : List ℕ) where
  -- a payload has one list of elements
  pub one_list : (es fs : List Element) → Accepted s es → Accepted s fs → es ≡ fs
  one_list es fs a b = sym a.gives ∙ ap (λ (t : Derivation list). elements t 0 0) (one_derivation a.tree b.tree (a.derives ∙ sym b.derives)) ∙ b.gives

  -- and one first fault
  pub one_fault : (k p j q : ℕ) → First s k p → First s j q → (k ≡ j) × (p ≡ q)
  one_fault k p j q a b =
      ⊎_elim
      (λ h. ⊎_elim (λ g. absurd (omega (arith, h, g))) (λ g. absurd (omega (arith, h, g.0))) (b.first k p a.fault))
      (λ h. ⊎_elim (λ g. absurd (omega (arith, h.0, g))) (λ g. (omega (arith, h.1, g.1), h.0)) (b.first k p a.fault))
      (a.first j q b.fault)

  -- a list within the limits is read to its end
  read_through : (es : List Element) → Accepted s es → scan (at start 0 0) 0 s ≡ fine
  unfolding scan fault_in final rests limit told
  read_through es a =
      ap (scan (at start 0 0) 0) (sym a.derives ∙ sym (append-nil (word a.tree)))
      ∙ reads a.tree 0 0 0 [] nothing a.within

  -- never both
  pub not_both : (es : List Element) (k p : ℕ) → Accepted s es → First s k p → ⊥
  not_both es k p a f = go f.fault
    where
      go : Fault s k p → ⊥
      go (malformed e b n) = n (record { tree = a.tree; same = ap (take (suc p)) a.derives })
      go (passed t z m e) = let h = passes s t (record { refusal = k; place = p; shown = z }) m e in not_fine (read_through es a) h.told

  module _ (m : List ℕ) where
    pub one_reading : (x y : Result ℕ ListError) (a b : List ℕ) → Reading s m x a → Reading s m y b → (x ≡ y) × (a ≡ b)
    one_reading (Ok n) (Ok k) a b v w =
        let e = one_list v.0 w.0 v.1.0 w.1.0 in
        (ap Ok (v.1.1.0 ∙ ap length e ∙ sym w.1.1.0), v.1.1.1 ∙ ap (λ (l : List Element). sets m 0 (numbers l)) e ∙ sym w.1.1.1)
    one_reading (Ok n) (Err why) a b v w = absurd (not_both v.0 (number_of why) (place_of why) v.1.0 w.0)
    one_reading (Err why) (Ok n) a b v w = absurd (not_both w.0 (number_of why) (place_of why) w.1.0 v.0)
    one_reading (Err x) (Err y) a b v w =
        let e = one_fault (number_of x) (place_of x) (number_of y) (place_of y) v.0 w.0 in
        (ap Err (one_error x y e.0 e.1), v.1 ∙ sym w.1)

    module _ (r : Result ℕ ListError) (after : List ℕ) (w : Reading s m r after) where
      -- Accepted with these elements exactly where a derivation within the limits gives them.
      pub accepts : (es : List Element) → Accepted s es → (r ≡ Ok (length es)) × (after ≡ sets m 0 (numbers es))
      accepts es a = one_reading r (Ok (length es)) after (sets m 0 (numbers es)) w (es, (a, (refl, refl)))

      -- Refused exactly at the first fault, by its number and place.
      pub refuses : (k p : ℕ) → First s k p → RefusedAt k p r × (after ≡ m)
      refuses k p f = go r w
        where
          go : (q : Result ℕ ListError) → Reading s m q after → RefusedAt k p q × (after ≡ m)
          go (Ok n) v = absurd (not_both v.0 k p v.1.0 f)
          go (Err why) v = (one_fault (number_of why) (place_of why) k p v.0 f, v.1)

-- A payload that was judged good isn't refused when it is read again to be written. What it was judged with leaves nothing in the memory.
module _ (s : List ℕ) {M : Type 0} (put : M → ℕ → List Element → M) (m after : M) (r : Result ℕ ListError) (v : Whole put s m r after) where
  module _ (k : ℕ) (f : r ≡ Ok k) (before left : List ℕ) where
    judged : Whole put s m (Ok k) after
    judged = subst (λ (q : Result ℕ ListError). Whole put s m q after) f v

    pub never_refused : (why : ListError) → Whole written s before (Err why) left → ⊥
    never_refused why u = not_both s judged.0 (number_of why) (place_of why) judged.1.0 u

    pub read_again : (x : Result ℕ ListError) → Whole written s before x left → Reading s before x left
    read_again (Ok j) u = u
    read_again (Err why) u = absurd (never_refused why u)
