-- After None the rest gives None with 0 (`none_rest`): rule 1 on what it left skips nothing more, and no line start there holds a finished item.
use Rattle.std.specs.Prelude.{Option, Some, None, ◌≡◌, refl, true, false, List, ℕ, ◌+◌, ◌-◌, ◌≤◌, ◌<◌, length, get_or, drop}
use Rattle.std.proofs.Common.{sym, ap, ◌∙◌, ⊎_elim, arith, length-drop, drop-drop, get_or-drop}
use Rattle.text.specs.Logic.{false_true, not_true_false, order}
use Rattle.text.specs.Text.{is_blank, stands, find_in}
use Rattle.text.specs.Steps.{past_end, past_stop}
use Rattle.text.specs.Laws.{found_at, found_none, stands_drop, past_passes, past_stops}
use Rattle.text.specs.declared.Blanks.TheVariants as sets
use Rattle.table.specs.Table.{Token}
use Rattle.table.specs.Laws.{Texts}
use Rattle.lines.specs.Lines.{crlf}
use Rattle.lines.specs.declared.Digester.{Digester}
use Rattle.answers.specs.Answer.{is_found, nothing}
use Rattle.items.specs.Rules.{skipped}
use Rattle.digest.specs.Digest.{digest_in}
use Rattle.digest.specs.Finished.{LineStart, at_crlf, only_one}
use Rattle.digest.specs.Items.{stands_here}
use Rattle.digest.specs.Starts.{first_crlf, only_skip}
use Rattle.digest.specs.Theorem.{complete, sound, none_is}

-- rule 1 on what it left: nothing more is skipped
module _ (s : List ℕ) where
  spaces_only : ((j : ℕ) → stands crlf s j ≡ false) → (j : ℕ) → j < skipped s → is_blank sets.Space (get_or s j 0) ≡ true
  spaces_only h j l = past_passes (is_blank sets.Space) s 0 j (omega arith) (rw (only_skip s h) at l)

  no_crlf_behind : ((j : ℕ) → stands crlf (drop (skipped s) s) j ≡ false) → (j : ℕ) → stands crlf s j ≡ false
  no_crlf_behind h j = not_true_false (stands crlf s j) (λ g. false_true (sym (stands_here crlf s (skipped s)) ∙ (first_crlf s j g).1) (h 0))

  rest_start : (p : ℕ) → LineStart (drop (skipped s) s) p → LineStart s (skipped s + p)
  rest_start p (at_crlf h) = at_crlf (sym (stands_drop crlf s (skipped s) p) ∙ h)
  rest_start p (only_one a b l d) =
      let e = skipped s in
      let n = no_crlf_behind a in
      only_one n
      (λ j g k. ⊎_elim
      (λ (q : j < e). spaces_only n j q)
      (λ (q : e ≤ j).
      let i : e + (j - e) ≡ j = omega arith in
      ap (λ (m : ℕ). is_blank sets.Space (get_or s m 0)) (sym i) ∙ ap (is_blank sets.Space) (sym (get_or-drop e s (j - e) 0)) ∙ b (j - e) (omega arith) (omega arith))
      (order j e))
      (omega (arith, l, length-drop e s))
      (ap (is_blank sets.Space) (sym (get_or-drop e s p 0)) ∙ d)

  skipped_crlf : stands crlf (drop (skipped s) s) 0 ≡ true → skipped (drop (skipped s) s) ≡ 0
  skipped_crlf h = let w = first_crlf (drop (skipped s) s) 0 h in omega (arith, w.0)

  skipped_bare : ((j : ℕ) → stands crlf (drop (skipped s) s) j ≡ false) → skipped (drop (skipped s) s) ≡ 0
  skipped_bare h =
      let e = skipped s in
      let v = drop e s in
      let n = no_crlf_behind h in
      only_skip v h ∙ ⊎_elim
      (λ (q : e < length s).
      past_stop (is_blank sets.Space) v 0 (rw length-drop (omega arith))
      (let i : e + 0 ≡ e = omega arith in ap (is_blank sets.Space) (get_or-drop e s 0 0 ∙ ap (λ (m : ℕ). get_or s m 0) i) ∙ rw (only_skip s n) (past_stops (is_blank sets.Space) s 0 (rw (only_skip s n) at q))))
      (λ (q : length s ≤ e). past_end (is_blank sets.Space) v 0 (rw length-drop (omega arith)))
      (order e (length s))

  skipped_again : skipped (drop (skipped s) s) ≡ 0
  skipped_again = go (find_in crlf (drop (skipped s) s) 0) refl
    where
      go : (r : Option ℕ) → find_in crlf (drop (skipped s) s) 0 ≡ r → skipped (drop (skipped s) s) ≡ 0
      go (Some k) q =
          let w = found_at crlf (drop (skipped s) s) 0 k q in
          let g : stands crlf s (skipped s + k) ≡ true = sym (stands_drop crlf s (skipped s) k) ∙ w.here in
          skipped_crlf (sym (stands_here crlf s (skipped s)) ∙ (first_crlf s (skipped s + k) g).1)
      go None q = skipped_bare (λ j. found_none crlf (drop (skipped s) s) 0 q j (omega arith))

-- After None with e, the rest gives None with 0.
pub none_rest : (d : Digester) (ts : List Token) → Texts ts → (s : List ℕ) → is_found (digest_in d ts s) ≡ false → digest_in d ts (drop (skipped s) s) ≡ nothing 0
none_rest d ts good s h =
    let v = drop (skipped s) s in
    none_is d ts good v (not_true_false (is_found (digest_in d ts v)) (λ f.
    let w = sound d ts good v f in
    let i : drop w.p v ≡ drop (skipped s + w.p) s = drop-drop w.p (skipped s) s in
    false_true
    (complete d ts good s (skipped s + w.p) w.n (record { start = rest_start s w.p w.holds.start; item = rw i at w.holds.item; finished = rw i at w.holds.finished }))
    h))
    ∙ ap nothing (skipped_again s)
