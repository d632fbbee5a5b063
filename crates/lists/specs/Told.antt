-- What each reader promises: what it read or refused, and what it left in the memory; and what that makes of a whole payload.
use Rattle.std.specs.Prelude.{Result, Ok, Err, ◌≡◌, ◌⊎◌, Bool, ◌&&◌, ℕ, suc, ◌+◌, ◌*◌, ◌≤◌, ◌<◌, length, get_or, set, take, eqb}
use Rattle.std.proofs.Math.Path.{refl}
use Rattle.std.proofs.Common.{sym, ap, ◌∙◌, subst, inl, inr, ⊎_elim, arith, length-append, take-take}
use Rattle.std.proofs.Math.Bool.{true, false}
use mathlib.Core.List.{List, [], ◌∷◌, ◌++◌, Memᴰ, append-nil}
use Rattle.std.proofs.lemmas.List.Edits.{sets}
use Rattle.std.proofs.lemmas.List.{set_comm, take-append-le}
use Rattle.text.specs.Logic.{false_true, order}
use Rattle.pieces.specs.Pieces.{numbers_of}
use Rattle.pieces.specs.declared.Element.{Element}
use Rattle.lists.specs.declared.ListError.{ListError}
use Rattle.lists.specs.declared.ListError.TheVariants.{Malformed}
use Rattle.lists.specs.Grammar.{Symbol, list, Derivation, word, numbers, Over, over, Begins, Fault, malformed, passed, First, Accepted, number_of, place_of}
use Rattle.lists.specs.Scan.{State, at, done, stop}
use Rattle.lists.specs.Places.{told_one, here_stops}
use Rattle.lists.specs.Ends.{is_number_lem}
use Rattle.lists.specs.Shows.{Shows, deep, large, late, shown, nothing}
use Rattle.lists.specs.Refusal.{none_goes_on, passes}
use Rattle.lists.specs.Reader.{Read, Halted, Limited, After, unknown, comma, close, following, ends_at, done_fault}

-- What is told where a reader leaves the elements from the number n on: of a memory of any kind, `put` says what it is with them.
module _ {M : Type 0} (put : M → ℕ → List Element → M) where
  pub record Nexts (c : Symbol) (d n p : ℕ) (x : List ℕ) (m after : M) (e k : ℕ) : Type 0 where
    pub found : List Element
    pub read : Read c d n p x found e k
    pub left : after ≡ put m n found

  abbrev pub Told : Symbol → ℕ → ℕ → ℕ → List ℕ → M → Result (ℕ × ℕ) ListError → M → Type 0
  Told c d n p x m (Ok (e, k)) after = Nexts c d n p x m after e k
  Told c d n p x m (Err why) after = Halted c d n p x (number_of why) (place_of why)

-- a memory with the elements from the number n on, six numbers each
abbrev pub written : List ℕ → ℕ → List Element → List ℕ
written m n es = sets m (6 * n) (numbers es)

-- elements one behind another in the memory
sets_append : (xs ys m : List ℕ) (i : ℕ) → sets (sets m i xs) (i + length xs) ys ≡ sets m i (xs ++ ys)
sets_append [] ys m i = ap (λ (j : ℕ). sets m j ys) (omega arith)
sets_append (a ∷ xs) ys m i = ap (λ (j : ℕ). sets (sets (set m i a) (suc i) xs) j ys) (omega arith) ∙ sets_append xs ys (set m i a) (suc i)

set_sets : (ys m : List ℕ) (i j a : ℕ) → i < j → set (sets m j ys) i a ≡ sets (set m i a) j ys
set_sets [] m i j a h = refl
set_sets (b ∷ ys) m i j a h = set_sets ys (set m j b) i (suc j) a (omega arith) ∙ ap (λ (l : List ℕ). sets l (suc j) ys) (set_comm m j i b a (λ e. omega arith))

sets_before : (xs ys m : List ℕ) (i : ℕ) → sets (sets m (i + length xs) ys) i xs ≡ sets m i (xs ++ ys)
sets_before [] ys m i = ap (λ (j : ℕ). sets m j ys) (omega arith)
sets_before (a ∷ xs) ys m i =
    ap (λ (l : List ℕ). sets l (suc i) xs) (set_sets ys m i (i + suc (length xs)) a (omega arith) ∙ ap (λ (j : ℕ). sets (set m i a) j ys) (omega arith))
    ∙ sets_before xs ys (set m i a) (suc i)

numbers_append : (es fs : List Element) → numbers (es ++ fs) ≡ numbers es ++ numbers fs
unfolding numbers
numbers_append [] fs = refl
numbers_append (e ∷ es) fs = ap (λ (l : List ℕ). numbers_of e ++ l) (numbers_append es fs)

pub length_numbers : (es : List Element) → length (numbers es) ≡ 6 * length es
unfolding numbers
length_numbers [] = omega arith
length_numbers (e ∷ es) = omega (arith, length_numbers es)

pub written_more : (m : List ℕ) (n : ℕ) (es fs : List Element) → written (written m n es) (n + length es) fs ≡ written m n (es ++ fs)
written_more m n es fs =
    ap (λ (j : ℕ). sets (sets m (6 * n) (numbers es)) j (numbers fs)) (omega (arith, length_numbers es))
    ∙ sets_append (numbers es) (numbers fs) m (6 * n)
    ∙ ap (sets m (6 * n)) (sym (numbers_append es fs))

pub written_before : (m : List ℕ) (n : ℕ) (e : Element) (es : List Element) → written (written m (suc n) es) n (e ∷ []) ≡ written m n (e ∷ es)
unfolding numbers
written_before m n e es =
    ap (λ (j : ℕ). sets (sets m j (numbers es)) (6 * n) (numbers_of e)) (omega arith)
    ∙ sets_before (numbers_of e) (numbers es) m (6 * n)

-- what is the same as far as it was seen
same_take : (n : ℕ) (u a b : List ℕ) → n ≤ length u → take n (u ++ a) ≡ take n (u ++ b)
same_take n u a b h = take-append-le n u a h ∙ sym (take-append-le n u b h)

-- what shows a limit stands at its place or behind
some_shows : (k j : ℕ) (v : List ℕ) (σ : State) → Shows k v j σ → 0 < j
some_shows k j v σ (deep d n x e f g h i) = omega arith
some_shows k j v σ (large d n w x e f g h i l) = let b = is_number_lem w g in omega (arith, l, ap length b.parts)
some_shows k j v σ (late d n e f g h i) = omega arith

shown_after : (t : Derivation list) (o : Over) → Memᴰ o (over t 0 0 0) → o.place < o.shown
shown_after t o m = let h = shown t 0 0 0 [] nothing o m in omega (arith, h.end, some_shows o.refusal h.seen h.behind _ h.shows)

-- what a refusal of the whole rests on
module _ (s : List ℕ) (k q : ℕ) (w : Halted list 0 0 0 s k q) where
  alone : word w.tree ≡ w.seen ++ w.other
  alone = go w.after w.there
    where
      go : (a : After list 0) → word w.tree ++ following a ≡ w.seen ++ w.other → word w.tree ≡ w.seen ++ w.other
      go unknown e = sym (append-nil (word w.tree)) ∙ e
      go (comma h) e = absurd (false_true refl h)
      go (close h) e = absurd (omega arith)

  same : (n : ℕ) → n ≤ length w.seen → take n (word w.tree) ≡ take n s
  same n h = ap (take n) alone ∙ same_take n w.seen w.other w.rest h ∙ ap (take n) (sym w.here)

  same_whole : w.rest ≡ [] → w.other ≡ [] → word w.tree ≡ s
  same_whole e f = alone ∙ ap (λ (l : List ℕ). w.seen ++ l) (f ∙ sym e) ∙ sym w.here

  is_fault : Fault s k q
  is_fault =
      ⊎_elim
      (λ h.
      let e : q ≡ length w.seen = omega (arith, h.1) in
      malformed h.0 (record { tree = w.tree; same = same q (omega arith) }) (none_goes_on s q (w.verdict ∙ ap (λ (i : ℕ). stop i q) h.0)))
      (λ h.
      passed w.tree h.shown h.among
      (⊎_elim
      (λ g. same h.shown (omega (arith, g)))
      (λ g. ap (take h.shown) (same_whole g.0 g.1.0))
      h.enough))
      w.why

  -- a list goes on as far as the fault, and where a limit is passed, one byte further
  goes_on_lem : (n : ℕ) → n ≤ length w.seen → Begins s n
  goes_on_lem n h = record { tree = w.tree; same = same n h }

  further : Limited list 0 0 0 w.tree w.seen w.rest w.other k q → Begins s (suc q)
  further g =
      ⊎_elim
      (λ e. goes_on_lem (suc q) (omega (arith, e, shown_after w.tree _ g.among)))
      (λ e. record { tree = w.tree; same = ap (take (suc q)) (same_whole e.0 e.1.0) })
      g.enough

  shorter : (n m : ℕ) → n ≤ m → Begins s m → Begins s n
  shorter n m h b = record { tree = b.tree; same = sym (take-take n m (word b.tree) h) ∙ ap (take n) b.same ∙ take-take n m s h }

  is_first : (j i : ℕ) → Fault s j i → (q < i) ⊎ ((q ≡ i) × (k ≤ j))
  is_first j i (passed t z m e) =
      let h = passes s t (record { refusal = j; place = i; shown = z }) m e in
      let l = told_one h.told w.verdict in
      ⊎_elim (λ g. inl (omega (arith, g, l.1))) (λ g. inr (omega (arith, g.0, l.1), omega (arith, g.1, l.0))) h.early
  is_first j i (malformed e b n) =
      ⊎_elim inl
      (λ (h : i ≤ q).
      ⊎_elim
      (λ g.
      ⊎_elim
      (λ (l : i < q). absurd (n (goes_on_lem (suc i) (omega (arith, g.1)))))
      (λ (l : q ≤ i). inr (omega arith, omega (arith, g.0)))
      (order i q))
      (λ g. absurd (n (shorter (suc i) (suc q) (omega arith) (further g))))
      w.why)
      (order q i)

  pub first_fault : First s k q
  first_fault = record { fault = is_fault; first = is_first }

-- a list read to its end, or not
module _ (s : List ℕ) (es : List Element) (e k : ℕ) (r : Read list 0 0 0 s es e k) where
  reach : length s ≡ e + length r.rest
  reach = ap length r.parts ∙ length-append (word r.tree) r.rest ∙ ap (λ (i : ℕ). i + length r.rest) (omega (arith, r.end))

  whole_accepted : length s ≤ e → Accepted s es
  whole_accepted h =
      let n : r.rest ≡ [] = no_more r.rest (omega (arith, reach)) in
      record { tree = r.tree; derives = sym (r.parts ∙ ap (λ (l : List ℕ). word r.tree ++ l) n ∙ append-nil (word r.tree)); within = r.within; gives = r.gives }
    where
      no_more : (l : List ℕ) → length l ≡ 0 → l ≡ []
      no_more [] f = refl
      no_more (b ∷ l) f = absurd (omega arith)

  whole_longer : e < length s → Halted list 0 0 0 s 6 e
  whole_longer h =
      record {
        tree = r.tree;
        after = unknown;
        seen = word r.tree;
        rest = r.rest;
        other = [];
        here = r.parts;
        there = refl;
        why = inl (refl, r.end);
        verdict = r.onward ∙ here_stops (at done 0 k) e 6 r.rest (done_fault 0 k r.rest (not_over r.rest (omega (arith, reach)) (r.ended refl))) (omega arith);
      }
    where
      not_over : (l : List ℕ) → 0 < length l → eqb (get_or l 0 0) 44 ≡ false → ends_at 0 l ≡ false
      not_over [] f g = absurd (omega arith)
      not_over (b ∷ l) f g = unfold ends_at in rw (g, no_and (eqb b 41))
        where
          no_and : (c : Bool) → c && false ≡ false
          no_and true = refl
          no_and false = refl

-- the count of a whole list's elements
whole_count : (s : List ℕ) (es : List Element) (e k : ℕ) → Read list 0 0 0 s es e k → k ≡ length es
whole_count s es e k r = omega (arith, r.count)

-- what a reading of the whole promises
module _ {M : Type 0} (put : M → ℕ → List Element → M) where
  abbrev pub Whole : List ℕ → M → Result ℕ ListError → M → Type 0
  Whole s m (Ok k) after = (es : List Element) × (Accepted s es × ((k ≡ length es) × (after ≡ put m 0 es)))
  Whole s m (Err why) after = First s (number_of why) (place_of why)

  module _ (s : List ℕ) (m : M) (r : Result (ℕ × ℕ) ListError) (after : M) (t : Told put list 0 0 0 s m r after) where
    pub whole_refused : (why : ListError) → r ≡ Err why → Whole s m (Err why) after
    whole_refused why e = first_fault s (number_of why) (place_of why) (subst (λ (q : Result (ℕ × ℕ) ListError). Told put list 0 0 0 s m q after) e t)

    module _ (e k : ℕ) (f : r ≡ Ok (e, k)) where
      came : Nexts put list 0 0 0 s m after e k
      came = subst (λ (q : Result (ℕ × ℕ) ListError). Told put list 0 0 0 s m q after) f t

      pub whole_stops : e < length s → Whole s m (Err (Malformed e)) after
      whole_stops h = first_fault s 6 e (whole_longer s came.found e k came.read h)

      pub whole_read : length s ≤ e → Whole s m (Ok k) after
      whole_read h = (came.found, (whole_accepted s came.found e k came.read h, (whole_count s came.found e k came.read, came.left)))
