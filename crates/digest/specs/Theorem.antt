-- Demand 3, first half: the digest is None exactly when no line start holds a finished item (`complete`, `sound`), and what it gave then (`heard_so`).
use Rattle.std.specs.Prelude.{Option, Some, None, ◌≡◌, ◌⊎◌, Bool, ◌||◌, List, [], ◌∷◌, ℕ, zero, suc, ◌+◌, ◌-◌, ◌≤◌, ◌<◌, length, ltb, if◌then◌else◌}
use Rattle.std.proofs.Math.Path.{refl, sym, ap}
use Rattle.std.proofs.Common.{◌∙◌, inl, inr}
use Rattle.std.proofs.Math.Logic.{⊎_elim}
use Rattle.std.proofs.Math.Bool.{true, false}
use native.Mathlib.Omega.{arith}
use Rattle.std.proofs.Math.ListN.{get_or, drop, length-drop}
use Rattle.std.proofs.Math.Seq.{drop-drop, get_or-drop}
use Rattle.std.proofs.Math.Dec.{eqb}
use borrow.Author.Tests.{eqb-true, lt-ltb}
use Rattle.text.specs.Logic.{false_true, not_true_false, and_both, order}
use Rattle.text.specs.Text.{among, blanks, is_blank, stands}
use Rattle.text.specs.Laws.{stands_drop, stands_fits, stands_byte}
use Rattle.text.specs.declared.Blanks.TheVariants as sets
use Rattle.table.specs.Table.{Token, of_mark}
use Rattle.table.specs.Laws.{Texts, mark_texts}
use Rattle.table.specs.declared.Mark.TheVariants as mark
use Rattle.lines.specs.Lines.{crlf}
use Rattle.lines.specs.declared.Digester.{Digester}
use Rattle.answers.specs.declared.Answer.{Answer}
use Rattle.answers.specs.Answer.{is_found, nothing, shift, Within}
use Rattle.answers.specs.Laws.{placed_some, shift_within_lem}
use Rattle.items.specs.Rules.{skipped, tried}
use Rattle.level.specs.Laws.{skipped_le}
use Rattle.digest.specs.Digest.{retries, again, after, digest_in}
use Rattle.digest.specs.Finished.{AnyOf, All, LineStart, at_crlf, only_one, FirstAlone, EndsIn, Item, Holds}
use Rattle.digest.specs.Heard.{Where, Heard}
use Rattle.digest.specs.Step.{by_length, rest_shorter, digest_step, tried_within, digest_within, retries_on}
use Rattle.digest.specs.Items.{some_map, lf_finished, crlf_lf, stands_here, item_some, item_size, item_long, no_crlf_item}
use Rattle.digest.specs.Starts.{start_here, start_is}
use Rattle.digest.specs.Sound.{digits_on, text_on, Hit, Broken, tried_sound}
use Rattle.digest.specs.Silent.{Silent, silent, nothing_here, no_alone, no_customs}

module _ (d : Digester) (ts : List Token) (good : Texts ts) where
  -- Complete: a line start that holds a finished item, and the digest isn't None.
  found_again : (s : List ℕ) (e : ℕ) (r : Answer) → retries s e ≡ true → is_found r ≡ true → is_found (if retries s e then again e r else nothing e) ≡ true
  unfolding again shift
  found_again s e r h g = rw (h, g) g

  module _ (s : List ℕ) (ih : (l : List ℕ) → length l < length s → (p n : ℕ) → Holds d ts l p n → is_found (digest_in d ts l) ≡ true) (p n : ℕ) (w : Holds d ts s p n) where
    behind : (skipped s + 2 ≤ p) × ((stands crlf s p ≡ true) × (stands crlf s (skipped s) ≡ true)) → is_found (if retries s (skipped s) then again (skipped s) (digest_in d ts (drop (skipped s + 2) s)) else nothing (skipped s)) ≡ true
    behind v =
        let e = skipped s in
        let far = p - (e + 2) in
        let i : e + 2 + far ≡ p = omega (arith, v.0) in
        let c : stands crlf (drop p s) 0 ≡ true = sym (stands_here crlf s p) ∙ v.1.0 in
        let m = item_long d ts good (drop p s) n c w.item in
        let o = stands_fits crlf s p (omega arith) v.1.0 in
        let r : retries s e ≡ true = sym (retries_on s e v.1.1) ∙ lt-ltb 4 (length s - e) (omega (arith, m, length-drop p s, v.0)) in
        let j : drop far (drop (e + 2) s) ≡ drop p s = drop-drop far (e + 2) s ∙ ap (λ (k : ℕ). drop k s) i in
        let x : Holds d ts (drop (e + 2) s) far n = record {
          start = at_crlf (stands_drop crlf s (e + 2) far ∙ ap (stands crlf s) i ∙ v.1.0);
          item = rw j w.item;
          finished = rw j w.finished;
        } in
        found_again s e (digest_in d ts (drop (e + 2) s)) r (ih (drop (e + 2) s) (rest_shorter s e r) far n x)

    at_level : (t : Option Answer) → tried d ts s (skipped s) ≡ t → is_found (after s (digest_in d ts) (skipped s) t) ≡ true
    unfolding after
    at_level (Some a) q =
        ⊎_elim
        (λ (h : Hit d ts s (skipped s) a). h.found)
        (λ (h : (a ≡ nothing (skipped s)) × Broken ts s (skipped s)).
        absurd (⊎_elim
        (λ (k : p ≡ skipped s). w.finished (rw k h.1))
        (λ (k : (skipped s + 2 ≤ p) × ((stands crlf s p ≡ true) × (stands crlf s (skipped s) ≡ true))).
        let e = skipped s in
        let i : e + (p + 1 - e) ≡ p + 1 = omega (arith, k.0) in
        let b : get_or (drop e s) (p + 1 - e) 0 ≡ 10 = get_or-drop e s (p + 1 - e) 0 ∙ ap (λ (m : ℕ). get_or s m 0) i ∙ crlf_lf s p k.1.0 in
        let o = stands_fits crlf s p (omega arith) k.1.0 in
        lf_finished (drop e s) (p + 1 - e) (omega (arith, k.0)) (rw length-drop (omega (arith, k.0))) b (of_mark mark.Notice 0 ts) (mark_texts mark.Notice 0 ts good) h.1)
        (start_is s p w.start)))
        (tried_sound d ts good s (skipped s) (skipped_le s) a q)
    at_level None q =
        ⊎_elim
        (λ (k : p ≡ skipped s). absurd (nothing_here d ts good s (skipped s) (silent d ts good s (skipped s) q) (skipped_le s) n (rw k at w.item)))
        (λ (k : (skipped s + 2 ≤ p) × ((stands crlf s p ≡ true) × (stands crlf s (skipped s) ≡ true))). behind k)
        (start_is s p w.start)

  pub complete : (s : List ℕ) (p n : ℕ) → Holds d ts s p n → is_found (digest_in d ts s) ≡ true
  complete =
      by_length (λ s. (p n : ℕ) → Holds d ts s p n → is_found (digest_in d ts s) ≡ true)
      (λ s ih p n w. rw (digest_step d ts s) (at_level s ih p n w (tried d ts s (skipped s)) refl))

  -- Sound: what was found stands at a line start and ends at the consumed count.
  -- An item with no CRLF in sight is a prompt, and the level before had it already.
  alone_back : (c : ℕ) (u : List ℕ) (m : ℕ) → ((j : ℕ) → j < m → stands (c ∷ []) u j ≡ false) → FirstAlone c (drop m u) → FirstAlone c u
  alone_back c u m h w =
      record {
        q = m + w.q;
        here = sym (stands_drop (c ∷ []) u m w.q) ∙ w.here;
        first = λ j a b.
            ⊎_elim
            (λ (k : j < m). h j k)
            (λ (k : m ≤ j).
            let i : m + (j - m) ≡ j = omega arith in
            ap (stands (c ∷ []) u) (sym i) ∙ sym (stands_drop (c ∷ []) u m (j - m)) ∙ w.first (j - m) (omega arith) (omega arith))
            (order j m);
        after = λ j a b.
            let i : m + (j - m) ≡ j = omega arith in
            ap (λ (k : ℕ). is_blank sets.Run (get_or u k 0)) (sym i) ∙ ap (is_blank sets.Run) (sym (get_or-drop m u (j - m) 0)) ∙ w.after (j - m) (omega arith) (rw length-drop (omega arith));
      }

  pub ends_back : (x u : List ℕ) (m : ℕ) → EndsIn x (drop m u) → EndsIn x u
  ends_back x u m w =
      record {
        q = m + w.q;
        here = sym (stands_drop x u m w.q) ∙ w.here;
        after = λ j a b.
            let i : m + (j - m) ≡ j = omega arith in
            ap (λ (k : ℕ). is_blank sets.Run (get_or u k 0)) (sym i) ∙ ap (is_blank sets.Run) (sym (get_or-drop m u (j - m) 0)) ∙ w.after (j - m) (omega arith) (rw length-drop (omega arith));
      }

  module _ (s : List ℕ) (e : ℕ) (w : Silent d ts good s e) (inside : e ≤ length s) (c : stands crlf s e ≡ true) (p : ℕ) (spaces : All (is_blank sets.Space) (drop (e + 2) s) 0 p) where
    -- from e up to the item there are CR, LF and spaces
    before_byte : (j : ℕ) → j < 2 + p → (get_or (drop e s) j 0 ≡ 13) ⊎ ((get_or (drop e s) j 0 ≡ 10) ⊎ (get_or (drop e s) j 0 ≡ 32))
    before_byte zero h = let u : stands crlf (drop e s) 0 ≡ true = sym (stands_here crlf s e) ∙ c in inl (stands_byte 13 (10 ∷ []) (drop e s) 0 u).1.0
    before_byte (suc zero) h = let u : stands crlf (drop e s) 0 ≡ true = sym (stands_here crlf s e) ∙ c in inr (inl (crlf_lf (drop e s) 0 u))
    before_byte (suc (suc j)) h =
        let i : e + suc (suc j) ≡ e + 2 + j = omega arith in
        let b : get_or (drop e s) (suc (suc j)) 0 ≡ get_or (drop (e + 2) s) j 0 = get_or-drop e s (suc (suc j)) 0 ∙ ap (λ (k : ℕ). get_or s k 0) i ∙ sym (get_or-drop (e + 2) s j 0) in
        inr (inr (b ∙ space_is (get_or (drop (e + 2) s) j 0) (spaces j (omega arith) (omega arith))))
      where
        space_is : (b : ℕ) → is_blank sets.Space b ≡ true → b ≡ 32
        space_is b h = go (eqb b 32) refl (unfold is_blank among blanks in h)
          where
            go : (x : Bool) → eqb b 32 ≡ x → x || false ≡ true → b ≡ 32
            go true q g = eqb-true b 32 q
            go false q g = absurd (false_true g refl)

    before_prompt : (b : ℕ) → 32 < b → (j : ℕ) → j < 2 + p → stands (b ∷ []) (drop e s) j ≡ false
    before_prompt b h j l =
        not_true_false (stands (b ∷ []) (drop e s) j) (λ g.
        let v = (stands_byte b [] (drop e s) j g).1.0 in
        ⊎_elim
        (λ (q : get_or (drop e s) j 0 ≡ 13). omega arith)
        (λ (q : (get_or (drop e s) j 0 ≡ 10) ⊎ (get_or (drop e s) j 0 ≡ 32)). ⊎_elim (λ (r : get_or (drop e s) j 0 ≡ 10). omega arith) (λ (r : get_or (drop e s) j 0 ≡ 32). omega arith) q)
        (before_byte j l))

    rest_is : drop p (drop (e + 2) s) ≡ drop (2 + p) (drop e s)
    rest_is = let i : e + 2 + p ≡ e + (2 + p) = omega arith in drop-drop p (e + 2) s ∙ ap (λ (k : ℕ). drop k s) i ∙ sym (drop-drop (2 + p) e s)

    lone : ((j : ℕ) → stands crlf (drop (e + 2) s) j ≡ false) → (n : ℕ) → Item d ts (drop p (drop (e + 2) s)) n → ⊥
    lone h n i =
        ⊎_elim
        (λ (q : FirstAlone 62 (drop p (drop (e + 2) s)) ⊎ FirstAlone 64 (drop p (drop (e + 2) s))).
        ⊎_elim
        (λ (g : FirstAlone 62 (drop p (drop (e + 2) s))). no_alone d ts good s e w inside 62 w.greater (alone_back 62 (drop e s) (2 + p) (before_prompt 62 (omega arith)) (rw rest_is at g)))
        (λ (g : FirstAlone 64 (drop p (drop (e + 2) s))). no_alone d ts good s e w inside 64 w.at_sign (alone_back 64 (drop e s) (2 + p) (before_prompt 64 (omega arith)) (rw rest_is at g)))
        q)
        (λ (q : AnyOf (λ x. EndsIn x.text (drop p (drop (e + 2) s))) (of_mark mark.Prompt 0 ts)).
        no_customs d ts good s e (of_mark mark.Prompt 0 ts) (mark_texts mark.Prompt 0 ts good) w.customs
        (some_map (λ x. EndsIn x.text (drop p (drop (e + 2) s))) (λ x. EndsIn x.text (drop e s)) (λ x v. ends_back x.text (drop e s) (2 + p) (rw rest_is at v)) (of_mark mark.Prompt 0 ts) q))
        (no_crlf_item d ts good (drop p (drop (e + 2) s)) none_there n i)
      where
        none_there : (j : ℕ) → stands crlf (drop p (drop (e + 2) s)) j ≡ false
        none_there j = stands_drop crlf (drop (e + 2) s) p j ∙ h (p + j)

  hit_where : (s : List ℕ) (a : Answer) → Within (length s) a → Hit d ts s (skipped s) a → Where d ts s a
  hit_where s a v h =
      record {
        p = h.p;
        n = h.n;
        holds = record {
          start =
              ⊎_elim
              (λ (q : h.p ≡ skipped s).
              let m = item_some d ts good (drop h.p s) h.n h.item in
              rw q (start_here s (omega (arith, m, length-drop h.p s))))
              (λ (q : stands crlf s h.p ≡ true). at_crlf q)
              h.at;
          item = h.item;
          finished = h.finished;
        };
        ends = h.ends;
        payload = v.payload;
        within = v.digits;
        digits = h.digits;
        lies = v.text;
        text = h.text;
      }

  retries_crlf : (s : List ℕ) (e : ℕ) → retries s e ≡ true → stands crlf s e ≡ true
  unfolding retries
  retries_crlf s e h = (and_both (stands crlf s e) (ltb 4 (length s - e)) h).0

  module _ (s : List ℕ) (ih : (l : List ℕ) → length l < length s → is_found (digest_in d ts l) ≡ true → Where d ts l (digest_in d ts l)) where
    again_where : tried d ts s (skipped s) ≡ None → (r : Answer) → r ≡ digest_in d ts (drop (skipped s + 2) s) → retries s (skipped s) ≡ true → is_found r ≡ true → Where d ts s (shift (skipped s + 2) r)
    unfolding shift
    again_where q r v h g =
        let e = skipped s in
        let x : Where d ts (drop (e + 2) s) r = rw v (ih (drop (e + 2) s) (rest_shorter s e h) (rw v at g)) in
        let w = shift_within_lem (e + 2) r.consumed r (record { payload = x.payload; digits = x.within; text = x.lies; all = omega arith }) in
        let i : drop x.p (drop (e + 2) s) ≡ drop (e + 2 + x.p) s = drop-drop x.p (e + 2) s in
        record {
          p = e + 2 + x.p;
          n = x.n;
          holds = record {
            start = on x x.holds.start;
            item = rw i at x.holds.item;
            finished = rw i at x.holds.finished;
          };
          ends = omega (arith, x.ends);
          payload = w.payload;
          within = w.digits;
          digits =
              digits_on s (e + 2) r (shift (e + 2) r) x.digits refl refl refl
              (λ y. sym (placed_some r.digits.len (r.digits.start + (e + 2)) (λ z. omega arith)) ∙ omega arith) (omega arith);
          lies = w.text;
          text = λ y. text_on d s (e + 2) r (shift (e + 2) r) (x.text y) refl refl (sym (placed_some r.text.len (r.text.start + (e + 2)) (λ z. omega arith)) ∙ omega arith) (omega arith);
        }
      where
        on : (x : Where d ts (drop (skipped s + 2) s) r) → LineStart (drop (skipped s + 2) s) x.p → LineStart s (skipped s + 2 + x.p)
        on x (at_crlf c) = at_crlf (sym (stands_drop crlf s (skipped s + 2) x.p) ∙ c)
        on x (only_one a b l z) = absurd (lone s (skipped s) (silent d ts good s (skipped s) q) (skipped_le s) (retries_crlf s (skipped s) h) x.p b a x.n x.holds.item)

    found_where : tried d ts s (skipped s) ≡ None → (r : Answer) → r ≡ digest_in d ts (drop (skipped s + 2) s) → (b : Bool) → retries s (skipped s) ≡ b → is_found (if b then again (skipped s) r else nothing (skipped s)) ≡ true → Where d ts s (if b then again (skipped s) r else nothing (skipped s))
    unfolding again
    found_where q r v true h g = go (is_found r) refl g
      where
        go : (y : Bool) → is_found r ≡ y → is_found (if y then shift (skipped s + 2) r else nothing (skipped s)) ≡ true → Where d ts s (if y then shift (skipped s + 2) r else nothing (skipped s))
        go true k m = again_where q r v h k
        go false k m = absurd (false_true m refl)
    found_where q r v false h g = absurd (false_true g refl)

    level_where : (t : Option Answer) → tried d ts s (skipped s) ≡ t → is_found (after s (digest_in d ts) (skipped s) t) ≡ true → Where d ts s (after s (digest_in d ts) (skipped s) t)
    unfolding after
    level_where (Some a) q g =
        ⊎_elim
        (λ (h : Hit d ts s (skipped s) a). hit_where s a (rw q at (tried_within s (skipped s) (skipped_le s) d ts)) h)
        (λ (h : (a ≡ nothing (skipped s)) × Broken ts s (skipped s)). absurd (false_true g (ap is_found h.0)))
        (tried_sound d ts good s (skipped s) (skipped_le s) a q)
    level_where None q g = found_where q (digest_in d ts (drop (skipped s + 2) s)) refl (retries s (skipped s)) refl g

  pub sound : (s : List ℕ) → is_found (digest_in d ts s) ≡ true → Where d ts s (digest_in d ts s)
  sound =
      by_length (λ s. is_found (digest_in d ts s) ≡ true → Where d ts s (digest_in d ts s))
      (λ s ih g. rw (digest_step d ts s) (level_where s ih (tried d ts s (skipped s)) refl (rw (digest_step d ts s) at g)))

  -- None is rule 7's or rule 2's answer, and nothing else
  level_none : (s : List ℕ) (t : Option Answer) → tried d ts s (skipped s) ≡ t → is_found (after s (digest_in d ts) (skipped s) t) ≡ false → after s (digest_in d ts) (skipped s) t ≡ nothing (skipped s)
  unfolding after
  level_none s (Some a) q g =
      ⊎_elim
      (λ (h : Hit d ts s (skipped s) a). absurd (false_true h.found g))
      (λ (h : (a ≡ nothing (skipped s)) × Broken ts s (skipped s)). h.0)
      (tried_sound d ts good s (skipped s) (skipped_le s) a q)
  level_none s None q g = go (retries s (skipped s)) (digest_in d ts (drop (skipped s + 2) s)) g
    where
      go : (b : Bool) (r : Answer) → is_found (if b then again (skipped s) r else nothing (skipped s)) ≡ false → (if b then again (skipped s) r else nothing (skipped s)) ≡ nothing (skipped s)
      go true r h = unfold again in on (is_found r) refl (unfold again in h)
        where
          on : (y : Bool) → is_found r ≡ y → is_found (if y then shift (skipped s + 2) r else nothing (skipped s)) ≡ false → (if y then shift (skipped s + 2) r else nothing (skipped s)) ≡ nothing (skipped s)
          on true k m = absurd (false_true k (unfold shift in m))
          on false k m = refl
      go false r h = refl

  pub none_is : (s : List ℕ) → is_found (digest_in d ts s) ≡ false → digest_in d ts s ≡ nothing (skipped s)
  none_is s h = digest_step d ts s ∙ level_none s (tried d ts s (skipped s)) refl (rw (digest_step d ts s) at h)

  -- the theorem, of whatever answer the digest gave
  pub heard_so : (s : List ℕ) (a : Answer) → a ≡ digest_in d ts s → Heard d ts s a
  heard_so s a e =
      record {
        none = λ h p n w. false_true (complete s p n w) (ap is_found (sym e) ∙ h);
        only = λ h. not_true_false (is_found a) (λ f. let w = sound s (ap is_found (sym e) ∙ f) in h w.p w.n w.holds);
        skip = λ h. e ∙ none_is s (ap is_found (sym e) ∙ h);
        item = λ h. rw e (sound s (ap is_found (sym e) ∙ h));
        some = λ h. let w : Where d ts s a = rw e (sound s (ap is_found (sym e) ∙ h)) in omega (arith, w.ends, item_size d ts good (drop w.p s) w.n w.holds.item);
        within = rw e (digest_within d ts s).all;
      }
