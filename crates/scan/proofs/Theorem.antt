-- What the findings say: after any bytes, the state is the longest beginning still open, and each end is that of the text's first occurrence.
-- Rests on the table's rule, on what the beginnings say, and on text's laws of `find_in`.
use Rattle.std.specs.Prelude.{Option, Some, None, ◌≡◌, ◌⊎◌, Bool, ℕ, zero, suc, ◌+◌, ◌<◌, take, drop}
use Rattle.std.proofs.Math.Path.{refl, sym, ap}
use Rattle.std.proofs.Common.{◌∙◌, inl, inr, add-zero, eq-or-lt_of_le, le_of_suc-le-suc, not-suc-le-zero, length-drop, take-append-drop, ext_get_or, get_or-set_same}
use Rattle.std.proofs.Math.Bool.{true, false}
use mathlib.Core.List.{List, [], ◌∷◌, ◌++◌, map, append_assoc, append-nil}
use native.Mathlib.Omega.{arith}
use Rattle.std.proofs.Math.ListN.{length, get_or, length-append, length-set}
use Rattle.std.proofs.lemmas.List.{get_or-replicate}
use Rattle.std.proofs.Math.Seq.{drop-append_seam, get_or-set_other}
use Rattle.std.proofs.Math.Dec.{eqb}
use borrow.Author.Tests.{eqb-true, eqb-false, eq-eqb, ne_eqb}
use Rattle.outcome.specs.Laws.{ways}
use Rattle.text.specs.Logic.{false_true, not_true_false}
use Rattle.text.specs.Text.{begins, stands, find_in}
use Rattle.text.specs.Laws.{found_at, found_none, find_is, find_drop, find_late, find_behind, moved, stands_fits, stands_behind, begins_self, begins_whole}
use Rattle.scan.specs.Words.{word, words, texts, longest, longest_of, text_of}
use Rattle.scan.specs.Table.{finished}
use Rattle.scan.proofs.Rule.{rule, next_state}
use Rattle.scan.specs.Beginnings.{longest_step, EndsIn, finish_here, finish_only, text_some}
use Rattle.scan.specs.Scan.{noted, read, run, fresh, scanned, end_of, first_ends}
use Rattle.scan.specs.declared.Findings.{Findings}

-- where the first occurrence of t in w ends, w being d bytes further on
unfoldable end_in : ℕ → List ℕ → List ℕ → ℕ
end_in d t w = end_of t (moved d (find_in t w 0))

-- f is what the bytes w, d bytes on, have to say
record Told (d : ℕ) (w : List ℕ) (f : Findings) : Type 0 where
  seen : f.seen ≡ d + length w
  range : f.state < 98
  state : word f.state ≡ longest w
  long : length f.ends ≡ 11
  ends : (k : ℕ) → k < 11 → get_or f.ends k 0 ≡ end_in d (text_of k) w

-- to end in t is that t stands at the end
ends_stands : (t w u : List ℕ) → w ≡ u ++ t → stands t w (length u) ≡ true
unfolding stands
ends_stands t w u e = ap (λ (l : List ℕ). begins t (drop (length u) l)) e ∙ ap (begins t) (drop-append_seam u t) ∙ begins_self t

stands_ends : (t w : List ℕ) (p : ℕ) → p + length t ≡ length w → stands t w p ≡ true → EndsIn w t
unfolding stands
stands_ends t w p h e =
    record {
      front = take p w;
      is = sym (take-append-drop p w) ∙ ap (λ (l : List ℕ). take p w ++ l) (begins_whole t (drop p w) (rw length-drop (omega arith)) e);
    }

-- what one more byte does to the first occurrence of t: nothing where there is one, else it may end here
module _ (t w : List ℕ) (b d : ℕ) (pos : 0 < length t) where
  longer : length (w ++ (b ∷ [])) ≡ length w + 1
  longer = length-append w (b ∷ [])

  had : (p : ℕ) → find_in t w 0 ≡ Some p → end_in d t (w ++ (b ∷ [])) ≡ end_in d t w
  unfolding end_in
  had p e = ap (λ (r : Option ℕ). end_of t (moved d r)) (find_behind t w (b ∷ []) 0 p (stands_fits t w p pos (found_at t w 0 p e).here) e ∙ sym e)

  comes : find_in t w 0 ≡ None → EndsIn (w ++ (b ∷ [])) t → end_in d t (w ++ (b ∷ [])) ≡ d + length w + 1
  unfolding end_in end_of moved
  comes e r =
      let l : length r.front + length t ≡ length w + 1 = sym (length-append r.front t) ∙ sym (ap length r.is) ∙ longer in
      let f = find_is t (w ++ (b ∷ [])) 0 (Some (length r.front))
      (record {
        after = omega arith;
        here = ends_stands t (w ++ (b ∷ [])) r.front r.is;
        first = λ j g h. stands_behind t w (b ∷ []) j (omega arith) ∙ found_none t w 0 e j g;
      }) in
      ap (λ (r : Option ℕ). end_of t (moved d r)) f ∙ omega arith

  stays : find_in t w 0 ≡ None → (EndsIn (w ++ (b ∷ [])) t → ⊥) → end_in d t (w ++ (b ∷ [])) ≡ 0
  unfolding end_in end_of moved
  stays e n =
      ap (λ (r : Option ℕ). end_of t (moved d r)) (find_is t (w ++ (b ∷ [])) 0 None (λ j g. not_true_false (stands t (w ++ (b ∷ [])) j) (λ s. not_at j s (eq-or-lt_of_le (stands_fits t (w ++ (b ∷ [])) j pos s)))))
    where
      not_at : (j : ℕ) → stands t (w ++ (b ∷ [])) j ≡ true → (j + length t ≡ length (w ++ (b ∷ []))) ⊎ (j + length t < length (w ++ (b ∷ []))) → ⊥
      not_at j s (inl q) = n (stands_ends t (w ++ (b ∷ [])) j q s)
      not_at j s (inr q) = false_true (sym (stands_behind t w (b ∷ []) j (omega (arith, longer))) ∙ s) (found_none t w 0 e j (omega arith))

-- noting
module _ (l : List ℕ) (n : ℕ) where
  length_noted : (m : Option ℕ) → length (noted l m n) ≡ length l
  unfolding noted
  length_noted (Some m) = ways (λ (x : List ℕ). length x ≡ length l) (eqb (get_or l m 0) 0) (λ e. length-set l m n) (λ e. refl)
  length_noted None = refl

  noted_other : (m : Option ℕ) (k : ℕ) → (m ≡ Some k → ⊥) → get_or (noted l m n) k 0 ≡ get_or l k 0
  unfolding noted
  noted_other (Some m) k h = ways (λ (x : List ℕ). get_or x k 0 ≡ get_or l k 0) (eqb (get_or l m 0) 0) (λ e. get_or-set_other l m k n 0 (λ q. h (ap Some (sym q)))) (λ e. refl)
  noted_other None k h = refl

  noted_had : (k : ℕ) → (get_or l k 0 ≡ 0 → ⊥) → get_or (noted l (Some k) n) k 0 ≡ get_or l k 0
  unfolding noted
  noted_had k h = rw (ne_eqb (get_or l k 0) 0 h)

  noted_first : (k : ℕ) → k < 11 → length l ≡ 11 → get_or l k 0 ≡ 0 → get_or (noted l (Some k) n) k 0 ≡ n
  unfolding noted
  noted_first k h g e = rw (eq-eqb (get_or l k 0) 0 e) (get_or-set_same l k n 0 (omega arith))

-- one more byte
module _ (d : ℕ) (w : List ℕ) (f : Findings) (b : ℕ) (h : Told d w f) where
  -- is that the text k?
  finishes : (k : ℕ) (c : Option ℕ) → (c ≡ Some k) ⊎ (c ≡ Some k → ⊥)
  finishes k None = inr (λ z. cc)
  finishes k (Some m) = go (eqb m k) refl
    where
      go : (x : Bool) → eqb m k ≡ x → (Some m ≡ Some k) ⊎ (Some m ≡ Some k → ⊥)
      go true q = inl (ap Some (eqb-true m k q))
      go false q = inr (λ z. eqb-false m k q cc)

  end_read : (k : ℕ) → k < 11 → (r : Option ℕ) → find_in (text_of k) w 0 ≡ r → (finished f.state b ≡ Some k) ⊎ (finished f.state b ≡ Some k → ⊥) → get_or (noted f.ends (finished f.state b) (f.seen + 1)) k 0 ≡ end_in d (text_of k) (w ++ (b ∷ []))
  unfolding end_in end_of moved
  end_read k g (Some p) e (inl m) =
      let z : get_or f.ends k 0 ≡ d + p + length (text_of k) = h.ends k g ∙ ap (λ (r : Option ℕ). end_of (text_of k) (moved d r)) e in
      ap (λ (i : Option ℕ). get_or (noted f.ends i (f.seen + 1)) k 0) m
      ∙ noted_had f.ends (f.seen + 1) k (λ y. absurd (omega (arith, text_some k g)))
      ∙ h.ends k g
      ∙ sym (had (text_of k) w b d (text_some k g) p e)
  end_read k g (Some p) e (inr n) =
      noted_other f.ends (f.seen + 1) (finished f.state b) k n
      ∙ h.ends k g
      ∙ sym (had (text_of k) w b d (text_some k g) p e)
  end_read k g None e (inl m) =
      let z : get_or f.ends k 0 ≡ 0 = h.ends k g ∙ ap (λ (r : Option ℕ). end_of (text_of k) (moved d r)) e in
      ap (λ (i : Option ℕ). get_or (noted f.ends i (f.seen + 1)) k 0) m
      ∙ noted_first f.ends (f.seen + 1) k g h.long z
      ∙ ap (λ (i : ℕ). i + 1) h.seen
      ∙ sym (comes (text_of k) w b d (text_some k g) e (finish_here w f.state b h.range h.state k g m))
  end_read k g None e (inr n) =
      let z : get_or f.ends k 0 ≡ 0 = h.ends k g ∙ ap (λ (r : Option ℕ). end_of (text_of k) (moved d r)) e in
      noted_other f.ends (f.seen + 1) (finished f.state b) k n
      ∙ z
      ∙ sym (stays (text_of k) w b d (text_some k g) e (λ r. n (finish_only w f.state b h.range h.state k g r)))

  told_read : Told d (w ++ (b ∷ [])) (read f b)
  unfolding read
  told_read =
      record {
        seen = omega (arith, h.seen, length-append w (b ∷ []));
        range = next_state f.state b h.range;
        state = rule f.state b h.range ∙ ap (λ (l : List ℕ). longest (l ++ (b ∷ []))) h.state ∙ sym (longest_step w b);
        long = length_noted f.ends (f.seen + 1) (finished f.state b) ∙ h.long;
        ends = λ k g. end_read k g (find_in (text_of k) w 0) refl (finishes k (finished f.state b));
      }

told_run : (d : ℕ) (w s : List ℕ) (f : Findings) → Told d w f → Told d (w ++ s) (run f s)
unfolding run
told_run d w [] f h = rw append-nil h
told_run d w (b ∷ s) f h = rw (append_assoc w (b ∷ []) s) at (told_run d (w ++ (b ∷ [])) s (read f b) (told_read d w f b h))

told_fresh : (d : ℕ) → Told d [] (fresh d)
unfolding fresh end_in end_of moved words longest_of
told_fresh d =
    record {
      seen = omega arith;
      range = omega arith;
      state = refl;
      long = refl;
      ends = λ k g. get_or-replicate 11 k 0 0 g ∙ sym (ap (λ (r : Option ℕ). end_of (text_of k) (moved d r)) (find_late (text_of k) [] 0 (text_some k g) (omega (arith, text_some k g))));
    }

-- what a pass over the bytes from d on found
told_scanned : (d : ℕ) (s : List ℕ) → Told d (drop d s) (scanned d s)
unfolding scanned
told_scanned d s = told_run d [] (drop d s) (fresh d) (told_fresh d)

map_at : (f : List ℕ → ℕ) (l : List (List ℕ)) (k : ℕ) → k < length l → get_or (map f l) k 0 ≡ f (get_or l k [])
map_at f [] k h = absurd (not-suc-le-zero h)
map_at f (t ∷ l) zero h = refl
map_at f (t ∷ l) (suc k) h = map_at f l k (le_of_suc-le-suc h)

-- the first end of the text k
pub first_end : (d : ℕ) (s : List ℕ) (k : ℕ) → k < 11 → get_or (first_ends d s) k 0 ≡ end_of (text_of k) (find_in (text_of k) s d)
unfolding first_ends
first_end d s k h = map_at (λ (t : List ℕ). end_of t (find_in t s d)) texts k (unfold texts in h)

end_is : (d : ℕ) (t s : List ℕ) → end_in d t (drop d s) ≡ end_of t (find_in t s d)
unfolding end_in
end_is d t s = ap (end_of t) (sym (find_drop t s d 0) ∙ ap (find_in t s) (add-zero d))

-- THE THEOREM: the ends that a pass finds are those of the texts' first occurrences, as the search has them
pub scanned_firsts : (d : ℕ) (s : List ℕ) → (scanned d s).ends ≡ first_ends d s
scanned_firsts d s =
    let w = told_scanned d s in
    ext_get_or 0 (scanned d s).ends (first_ends d s) (w.long ∙ sym (long d s)) (λ k g. at k (rw w.long at g))
  where
    long : (d : ℕ) (s : List ℕ) → length (first_ends d s) ≡ 11
    long d s = unfold first_ends texts in refl

    at : (k : ℕ) → k < 11 → get_or (scanned d s).ends k 0 ≡ get_or (first_ends d s) k 0
    at k g = (told_scanned d s).ends k g ∙ end_is d (text_of k) s ∙ sym (first_end d s k g)
