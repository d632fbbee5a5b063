-- Line starts and rule 1: buf begins at the first line start.
use Rattle.std.specs.Prelude.{Option, Some, None, ◌≡◌, ◌⊎◌, false, List, [], ◌∷◌, ℕ, ◌+◌, ◌≤◌, ◌<◌, length}
use Rattle.std.proofs.Math.Path.{refl, ap}
use Rattle.std.proofs.Common.{sym, ◌∙◌, inl, inr, eq-or-lt_of_le, arith}
use Rattle.std.proofs.Math.Logic.{⊎_elim}
use Rattle.std.proofs.Math.Bool.{true}
use Rattle.text.specs.Logic.{false_true, not_true_false, order}
use Rattle.text.specs.Text.{among, blanks, is_blank, past, stands, find_in}
use Rattle.text.specs.Laws.{found_at, found_none, stands_byte, past_passes, past_stops, past_is}
use Rattle.text.specs.declared.Blanks.TheVariants as sets
use Rattle.lines.specs.Lines.{crlf}
use Rattle.items.specs.Rules.{found_or, skipped}
use Rattle.digest.specs.Finished.{LineStart, at_crlf, only_one}
use Rattle.digest.specs.Items.{crlf_lf}

module _ (s : List ℕ) where
  spaces_crlf : (p : ℕ) → p < past (is_blank sets.Space) s 0 → stands crlf s p ≡ true → ⊥
  unfolding is_blank among blanks
  spaces_crlf p h g =
      let b : is_blank sets.Space 13 ≡ true = ap (is_blank sets.Space) (sym (stands_byte 13 (10 ∷ []) s p g).1.0) ∙ past_passes (is_blank sets.Space) s 0 p (omega arith) h in
      false_true b refl

  crlf_from : (a : ℕ) (r : Option ℕ) → find_in crlf s a ≡ r → (p : ℕ) → a ≤ p → stands crlf s p ≡ true → (found_or r a ≤ p) × (stands crlf s (found_or r a) ≡ true)
  unfolding found_or
  crlf_from a (Some k) q p h g =
      let w = found_at crlf s a k q in
      (⊎_elim (λ (l : p < k). absurd (false_true g (w.first p h l))) (λ (l : k ≤ p). l) (order p k), w.here)
  crlf_from a None q p h g = absurd (false_true g (found_none crlf s a q p h))

  pub first_crlf : (p : ℕ) → stands crlf s p ≡ true → (skipped s ≤ p) × (stands crlf s (skipped s) ≡ true)
  unfolding skipped
  first_crlf p g =
      let a = past (is_blank sets.Space) s 0 in
      crlf_from a (find_in crlf s a) refl p (⊎_elim (λ (q : p < a). absurd (spaces_crlf p q g)) (λ (q : a ≤ p). q) (order p a)) g

  start_from : (r : Option ℕ) → find_in crlf s (past (is_blank sets.Space) s 0) ≡ r → found_or r (past (is_blank sets.Space) s 0) < length s → LineStart s (found_or r (past (is_blank sets.Space) s 0))
  unfolding found_or
  start_from (Some k) q h = at_crlf (found_at crlf s (past (is_blank sets.Space) s 0) k q).here
  start_from None q h =
      let a = past (is_blank sets.Space) s 0 in
      only_one
      (λ j. not_true_false (stands crlf s j) (λ g. ⊎_elim (λ (l : j < a). spaces_crlf j l g) (λ (l : a ≤ j). false_true g (found_none crlf s a q j l)) (order j a)))
      (λ j k l. past_passes (is_blank sets.Space) s 0 j k l)
      h
      (past_stops (is_blank sets.Space) s 0 h)

  pub start_here : skipped s < length s → LineStart s (skipped s)
  unfolding skipped
  start_here h = start_from (find_in crlf s (past (is_blank sets.Space) s 0)) refl h

  crlf_apart : (p : ℕ) → stands crlf s p ≡ true → stands crlf s (p + 1) ≡ true → ⊥
  crlf_apart p h g = omega (arith, crlf_lf s p h, (stands_byte 13 (10 ∷ []) s (p + 1) g).1.0)

  pub only_skip : ((j : ℕ) → stands crlf s j ≡ false) → skipped s ≡ past (is_blank sets.Space) s 0
  unfolding skipped
  only_skip h = go (find_in crlf s (past (is_blank sets.Space) s 0)) refl
    where
      go : (r : Option ℕ) → find_in crlf s (past (is_blank sets.Space) s 0) ≡ r → found_or r (past (is_blank sets.Space) s 0) ≡ past (is_blank sets.Space) s 0
      go (Some k) q = absurd (false_true (found_at crlf s (past (is_blank sets.Space) s 0) k q).here (h k))
      go None q = unfold found_or in refl

  -- a line start is where buf begins, or a CRLF behind it
  pub start_is : (p : ℕ) → LineStart s p → (p ≡ skipped s) ⊎ ((skipped s + 2 ≤ p) × ((stands crlf s p ≡ true) × (stands crlf s (skipped s) ≡ true)))
  start_is p (at_crlf h) =
      let w = first_crlf p h in
      ⊎_elim
      (λ (q : skipped s ≡ p). inl (sym q))
      (λ (q : skipped s < p).
      ⊎_elim
      (λ (r : skipped s + 1 ≡ p). absurd (crlf_apart (skipped s) w.1 (ap (stands crlf s) r ∙ h)))
      (λ (r : skipped s + 1 < p). inr (omega arith, (h, w.1)))
      (eq-or-lt_of_le {n = skipped s + 1} {m = p} (omega arith)))
      (eq-or-lt_of_le w.0)
  start_is p (only_one h a l b) = inl (sym (only_skip h ∙ past_is (is_blank sets.Space) s 0 p (omega arith) (omega arith) a (λ q. b)))
