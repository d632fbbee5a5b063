-- Each rule answers an item: it stands where buf begins or at a CRLF, and ends at the consumed count; a numeric error's digits and a CONNECT line's text are told (`tried_sound`).
use Rattle.std.proofs.Math.Path.{◌≡◌, refl, sym, ap}
use Rattle.std.proofs.Common.{Option, Some, None, ◌∙◌, drop-drop, get_or-drop, lt-ltb, ltb-true}
use Rattle.std.specs.Prelude.{◌⊎◌, Bool, ℕ, ◌+◌, ◌-◌, ◌≤◌, ◌<◌, take, if◌then◌else◌}
use Rattle.std.proofs.Math.Logic.{inl, inr, ⊎_elim}
use Rattle.std.proofs.Math.Bool.{true, false}
use mathlib.Core.List.{List, [], ◌∷◌}
use native.Mathlib.Omega.{arith}
use Rattle.std.proofs.Math.ListN.{length, get_or, drop, length-drop}
use Rattle.text.specs.Logic.{false_true, not_true_false, order}
use Rattle.text.specs.Text.{trimmed_part, stands, find_in}
use Rattle.text.specs.Bytes.{bytes}
use Rattle.text.specs.Laws.{FoundAt, found_at, stands_drop, stands_front, stands_fits, stands_get_d}
use Rattle.table.specs.Table.{Token, Entry, of_mark}
use Rattle.table.specs.Laws.{Texts, mark_texts}
use Rattle.table.specs.declared.Mark.TheVariants as mark
use Rattle.lines.specs.Lines.{crlf, fixed_text}
use Rattle.parser.specs.Parser.{is_digit, value, line_ending, at_found, numeric_at, numeric_error, prompt_from, custom_prompt, wrapped, notice_at}
use Rattle.parser.specs.Laws.{ending_fits}
use Rattle.lines.specs.declared.Digester.{Digester}
use Rattle.lines.specs.declared.Fixed.{Fixed}
use Rattle.lines.specs.declared.Fixed.TheVariants as fixed
use Rattle.parser.specs.declared.Digits.{Digits}
use Rattle.parser.specs.declared.Notice.{Notice}
use Rattle.parser.specs.declared.Notice.TheVariants as notice
use Rattle.answers.specs.declared.Kind.TheVariants as kind
use Rattle.answers.specs.declared.Answer.{Answer}
use Rattle.answers.specs.Answer.{has_number, stored, kind_found, is_found, is_numeric, placed, bare, nothing, with_number, with_digits, with_payload, with_text}
use Rattle.answers.specs.Laws.{numbered_some, placed_some}
use Rattle.items.specs.declared.Occurrence.{Occurrence}
use Rattle.items.specs.Rules.{or_else, first_of, heard, notices, occurs_or, first_custom, kind_of, success, custom_success, line_success, connect_at, first_connect, connected, connect_success, successes, prompt_tried, custom_prompts, prompts, custom_error, heads, numeric_tried, numeric_errors, error_lines, line_tried, line_errors, not_allowed, errors, tried}
use Rattle.items.specs.Connect.{TextAt, connect_told}
use Rattle.items.specs.Laws.{next_both, done_next, wrapped_length}
use Rattle.parser.specs.Moved.{ending_moved, shift_notice, notice_moved, prompt_moved, custom_moved, shift_numeric, numeric_moved}
use Rattle.digest.specs.Finished.{AnyOf, NoticeEnded, Unfinished, NumericEnded, FirstAlone, EndsIn, nine, Line, Item}
use Rattle.digest.specs.Finished as items
use Rattle.digest.specs.Position.{ended_is, unfinished_is, ended_told, unfinished_told, alone_told, ends_told, digit_blank, NumericRead, numeric_told}
use Rattle.digest.specs.Heard.{DigitRun, DigitsOf, TextOf}
use Rattle.digest.specs.Items.{some_map, some_any, some_either, some_left, some_right, done_one, lf_finished, ending_lf, crlf_lf, Opens, opens, Last, wrapped_opens, wrapped_last, notice_lf, stands_here, texted_told}

-- The digits, seen from d bytes further to the front (R-2).
module _ (s : List ℕ) (d : ℕ) where
  run_on : (p n c : ℕ) → DigitRun (drop d s) p n c → DigitRun s (d + p) n (d + c)
  run_on p n c w =
      let i : d + (p - 1) ≡ d + p - 1 = omega (arith, w.before.0) in
      let o : d + (p + n) ≡ d + p + n = omega arith in
      let l : line_ending (drop d s) (p + n) ≡ line_ending s (d + p + n) = ending_moved s d (p + n) ∙ ap (line_ending s) o in
      record {
        before = (omega (arith, w.before.0), ap (λ (j : ℕ). is_digit (get_or s j 0)) (sym i) ∙ ap is_digit (sym (get_or-drop d s (p - 1) 0)) ∙ w.before.1);
        digits =
            λ j g h.
            let k : d + (j - d) ≡ j = omega arith in
            ap (λ (m : ℕ). is_digit (get_or s m 0)) (sym k) ∙ ap is_digit (sym (get_or-drop d s (j - d) 0)) ∙ w.digits (j - d) (omega arith) (omega arith);
        ended = (omega (arith, l, w.ended.0), omega (arith, l, w.ended.1));
      }

  pub digits_on : (r a : Answer) → DigitsOf (drop d s) r → a.kind ≡ r.kind → a.number ≡ r.number → a.digits.len ≡ r.digits.len → (0 < r.digits.len → a.digits.start ≡ d + r.digits.start) → a.consumed ≡ d + r.consumed → DigitsOf s a
  digits_on r a w k n l p c =
      record {
        some = rw (k, l) w.some;
        run = λ h. let q = p (digits_some r w (ap is_numeric (sym k) ∙ h)) in rw (q, l, c) (run_on r.digits.start r.digits.len r.consumed (w.run (ap is_numeric (sym k) ∙ h)));
        code =
            λ h g.
            let q = p (digits_some r w (ap is_numeric (sym k) ∙ h)) in
            rw (n, q, l) (w.code (ap is_numeric (sym k) ∙ h) (ap has_number (sym k) ∙ g) ∙ ap (λ (x : List ℕ). value 0 (take r.digits.len x)) (drop-drop r.digits.start d s));
      }
    where
      digits_some : (x : Answer) → DigitsOf (drop d s) x → is_numeric x.kind ≡ true → 0 < x.digits.len
      digits_some x v h = ltb-true 0 x.digits.len (sym v.some ∙ h)

-- The text, seen from m bytes further to the front (R-3).
pub text_on : (d : Digester) (s : List ℕ) (m : ℕ) (r a : Answer) → TextOf d (drop m s) r → a.kind ≡ r.kind → a.text.len ≡ r.text.len → a.text.start ≡ m + r.text.start → a.consumed ≡ m + r.consumed → TextOf d s a
text_on d s m r a w k l p c =
    let h : m + (r.text.start - 10) ≡ a.text.start - 10 = omega (arith, p, w.head.0) in
    let o : m + (r.text.start + r.text.len) ≡ a.text.start + a.text.len = omega (arith, p, l) in
    record {
      hears = w.hears;
      ok = k ∙ w.ok;
      head = (omega (arith, p, w.head.0), ap (stands (fixed_text fixed.ConnectText) s) (sym h) ∙ sym (stands_drop (fixed_text fixed.ConnectText) s m (r.text.start - 10)) ∙ w.head.1);
      inside =
          λ j g f.
          let i : m + (j - m) ≡ j = omega (arith, p) in
          ap (stands crlf s) (sym i) ∙ sym (stands_drop crlf s m (j - m)) ∙ w.inside (j - m) (omega (arith, p)) (omega (arith, p, l));
      ended = (ap (stands crlf s) (sym o) ∙ sym (stands_drop crlf s m (r.text.start + r.text.len)) ∙ w.ended.0, omega (arith, o, c, w.ended.1, w.head.0));
    }

-- a kind that is found and has no digits, and an answer with neither digits nor text
abbrev Plain : Answer → Type 0
Plain a = (is_found a ≡ true) × ((is_numeric a.kind ≡ false) × ((a.digits.len ≡ 0) × (a.text.len ≡ 0)))

no_digits : (s : List ℕ) (a : Answer) → is_numeric a.kind ≡ false → a.digits.len ≡ 0 → DigitsOf s a
no_digits s a h l = record { some = rw (h, l); run = λ g. absurd (false_true g h); code = λ g n. absurd (false_true g h) }

no_text_lem : (d : Digester) (s : List ℕ) (a : Answer) → a.text.len ≡ 0 → 0 < a.text.len → TextOf d s a
no_text_lem d s a l h = absurd (omega (arith, l, h))

-- What a rule's answer tells: an item was found at p, either where buf begins or at a CRLF; or a notice is unfinished where buf begins.
pub record Hit (d : Digester) (ts : List Token) (s : List ℕ) (e : ℕ) (a : Answer) : Type 0 where
  pub p : ℕ
  pub n : ℕ
  pub at : (p ≡ e) ⊎ (stands crlf s p ≡ true)
  pub item : Item d ts (drop p s) n
  pub ends : p + n ≡ a.consumed
  pub found : is_found a ≡ true
  pub digits : DigitsOf s a
  pub text : 0 < a.text.len → TextOf d s a
  pub finished : AnyOf (λ x. Unfinished x.text (drop p s)) (of_mark mark.Notice 0 ts) → ⊥

abbrev pub Broken : List Token → List ℕ → ℕ → Type 0
Broken ts s e = AnyOf (λ x. Unfinished x.text (drop e s)) (of_mark mark.Notice 0 ts)

abbrev pub Sound : Digester → List Token → List ℕ → ℕ → Answer → Type 0
Sound d ts s e a = Hit d ts s e a ⊎ ((a ≡ nothing e) × Broken ts s e)

-- the kind of a fixed text is found
kind_found_lem : (l : Fixed) → kind_found (kind_of l) ≡ true
kind_found_lem fixed.Ok = refl
kind_found_lem fixed.Connect = refl
kind_found_lem fixed.Error = refl
kind_found_lem fixed.CommandNotSupport = refl
kind_found_lem fixed.NoCarrier = refl
kind_found_lem fixed.Busy = refl
kind_found_lem fixed.NoAnswer = refl
kind_found_lem fixed.NoDialtone = refl
kind_found_lem fixed.Na = refl
kind_found_lem fixed.Cme = refl
kind_found_lem fixed.Cms = refl
kind_found_lem fixed.Modem = refl
kind_found_lem fixed.ConnectText = refl

-- whichever text of a list answered, it did so by itself
first_some : (f : Fixed → Option Answer) (ls : List Fixed) (a : Answer) → first_of f ls ≡ Some a → AnyOf (λ l. f l ≡ Some a) ls
unfolding first_of
first_some f [] a h = absurd (done_next a h refl)
first_some f (l ∷ ls) a h = ⊎_elim (λ (q : f l ≡ Some a). inl q) (λ (q : (f l ≡ None) × (first_of f ls ≡ Some a)). inr (first_some f ls a q.1)) (done_one (f l) (first_of f ls) a h)

-- a fixed line stands where it was found, and the answer ends there
record LineAt (s : List ℕ) (a : Answer) (l : Fixed) : Type 0 where
  k : ℕ
  here : stands (fixed_text l) s k ≡ true
  ends : a.consumed ≡ k + length (fixed_text l)
  plain : is_numeric (kind_of l) ≡ false → Plain a

module _ (d : Digester) (ts : List Token) (good : Texts ts) (s : List ℕ) (e : ℕ) where
  -- a line at k
  line_hit : (t : List ℕ) → Opens t → Last t → (k : ℕ) → stands t s k ≡ true → (n : ℕ) → n ≡ length t → Item d ts (drop k s) n → (a : Answer) → a.consumed ≡ k + n → Plain a → Hit d ts s e a
  line_hit t w z k h n f i a c g =
      let u = drop k s in
      let v : stands t u 0 ≡ true = sym (stands_here t s k) ∙ h in
      let l = w.long in
      let m = stands_fits t u 0 (omega arith) v in
      let b : get_or u (0 + (length t - 1)) 0 ≡ 10 = stands_get_d t u 0 (length t - 1) v (omega arith) ∙ z in
      record {
        p = k;
        n = n;
        at = inr (stands_front crlf w.rest s k (rw w.front at h));
        item = i;
        ends = sym c;
        found = g.0;
        digits = no_digits s a g.1.0 g.1.1.0;
        text = no_text_lem d s a g.1.1.1;
        finished = lf_finished u (0 + (length t - 1)) (omega arith) (omega arith) b (of_mark mark.Notice 0 ts) (mark_texts mark.Notice 0 ts good);
      }

  -- the fixed lines of a list, each of which ends in LF, has no digits and is one of the nine
  abbrev Lasts : List Fixed → Type 0
  Lasts [] = Unit {0}
  Lasts (l ∷ ls) = (Last (fixed_text l) × (is_numeric (kind_of l) ≡ false)) × Lasts ls

  lines_hit : (ls : List Fixed) → Lasts ls → ((u : List ℕ) (n : ℕ) → AnyOf (λ l. Line (fixed_text l) u n) ls → AnyOf (λ l. Line (fixed_text l) u n) nine) → (a : Answer) → AnyOf (LineAt s a) ls → Hit d ts s e a
  lines_hit [] z i a h = absurd h
  lines_hit (l ∷ ls) z i a (inl h) =
      let t = fixed_text l in
      line_hit t (opens l) z.0.0 h.k h.here (length t) refl (items.line (i (drop h.k s) (length t) (inl (sym (stands_here t s h.k) ∙ h.here, refl)))) a h.ends (h.plain z.0.1)
  lines_hit (l ∷ ls) z i a (inr h) = lines_hit ls z.1 (λ u n v. i u n (inr v)) a h

  success_at : (a : Answer) (l : Fixed) (r : Option ℕ) → find_in (fixed_text l) s e ≡ r → line_success s e l r ≡ Some a → LineAt s a l
  unfolding line_success success
  success_at a l (Some k) q h =
      let z : with_payload kind.Ok 0 (trimmed_part s e k) (k + length (fixed_text l)) ≡ a = cc in
      record { k = k; here = (found_at (fixed_text l) s e k q).here; ends = ap (λ (x : Answer). x.consumed) (sym z); plain = λ n. rw (sym z) (refl, (refl, (refl, refl))) }
  success_at a l None q h = absurd (done_next a h refl)

  line_at : (a : Answer) (l : Fixed) (r : Option ℕ) → find_in (fixed_text l) s e ≡ r → line_tried l r ≡ Some a → LineAt s a l
  unfolding line_tried
  line_at a l (Some k) q h =
      let z : bare (kind_of l) (k + length (fixed_text l)) ≡ a = cc in
      record { k = k; here = (found_at (fixed_text l) s e k q).here; ends = ap (λ (x : Answer). x.consumed) (sym z); plain = λ n. rw (sym z) (kind_found_lem l, (n, (refl, refl))) }
  line_at a l None q h = absurd (done_next a h refl)

  na_at : (a : Answer) → not_allowed s e ≡ Some a → LineAt s a fixed.Na
  unfolding not_allowed
  na_at a h = go (stands (fixed_text fixed.Na) s e) refl h
    where
      go : (b : Bool) → stands (fixed_text fixed.Na) s e ≡ b → (if b then Some (bare kind.NotAllowed (e + 6)) else None) ≡ Some a → LineAt s a fixed.Na
      go true q g = let z : bare kind.NotAllowed (e + 6) ≡ a = cc in record { k = e; here = q; ends = ap (λ (x : Answer). x.consumed) (sym z); plain = λ n. rw (sym z) (refl, (refl, (refl, refl))) }
      go false q g = absurd (done_next a g refl)

  -- where a custom line occurs
  abbrev CustomAt : ℕ → ℕ → Entry → Type 0
  CustomAt len k x = (stands (wrapped x.text) s k ≡ true) × (len ≡ length x.text)

  custom_at : (x : Entry) (l : List Entry) (f : Option ℕ) → find_in (wrapped x.text) s e ≡ f → (r : Option Occurrence) → ((o : Occurrence) → r ≡ Some o → AnyOf (CustomAt o.len o.place) l) → (o : Occurrence) → occurs_or f x r ≡ Some o → AnyOf (CustomAt o.len o.place) (x ∷ l)
  unfolding occurs_or
  custom_at x l (Some j) q r ih o h =
      let a : ◌≡◌ {A = Occurrence} (record { number = x.number; len = length x.text; place = j }) o = cc in
      inl (ap (λ (v : Occurrence). stands (wrapped x.text) s v.place) (sym a) ∙ (found_at (wrapped x.text) s e j q).here, ap (λ (v : Occurrence). v.len) (sym a))
  custom_at x l None q r ih o h = inr (ih o h)

  custom_some : (l : List Entry) (o : Occurrence) → first_custom l s e ≡ Some o → AnyOf (CustomAt o.len o.place) l
  unfolding first_custom
  custom_some [] o h = cc
  custom_some (x ∷ l) o h = custom_at x l (find_in (wrapped x.text) s e) refl (first_custom l s e) (custom_some l) o h

  custom_hit : (l : List Entry) (len k : ℕ) → AnyOf (CustomAt len k) l → (AnyOf (λ x. Line (wrapped x.text) (drop k s) (len + 4)) l → Item d ts (drop k s) (len + 4)) → (a : Answer) → a.consumed ≡ k + (len + 4) → Plain a → Hit d ts s e a
  custom_hit l len k h mk a c g =
      let i = mk (some_map (CustomAt len k) (λ x. Line (wrapped x.text) (drop k s) (len + 4)) (λ x v. (sym (stands_here (wrapped x.text) s k) ∙ v.0, omega (arith, v.1, wrapped_length x.text))) l h) in
      some_any (CustomAt len k) (Hit d ts s e a) (λ x v. line_hit (wrapped x.text) (wrapped_opens x.text) (wrapped_last x.text) k v.0 (len + 4) (omega (arith, v.1, wrapped_length x.text)) i a c g) l h

  custom_success_sound : (r : Option Occurrence) → first_custom (of_mark mark.Success 0 ts) s e ≡ r → (a : Answer) → custom_success r s e ≡ Some a → Hit d ts s e a
  unfolding custom_success success
  custom_success_sound (Some o) q a h =
      let z : with_payload kind.Ok 0 (trimmed_part s e o.place) (o.place + (o.len + 4)) ≡ a = cc in
      custom_hit (of_mark mark.Success 0 ts) o.len o.place (custom_some (of_mark mark.Success 0 ts) o q) items.custom_success a (ap (λ (x : Answer). x.consumed) (sym z)) (rw (sym z) (refl, (refl, (refl, refl))))
  custom_success_sound None q a h = absurd (done_next a h refl)

  custom_error_sound : (r : Option Occurrence) → first_custom (of_mark mark.Error 0 ts) s e ≡ r → (a : Answer) → custom_error r ≡ Some a → Hit d ts s e a
  unfolding custom_error
  custom_error_sound (Some o) q a h =
      let z : with_payload kind.Custom o.number (record { start = o.place + 2; len = o.len }) (o.place + (o.len + 4)) ≡ a = cc in
      custom_hit (of_mark mark.Error 0 ts) o.len o.place (custom_some (of_mark mark.Error 0 ts) o q) items.custom_error a (ap (λ (x : Answer). x.consumed) (sym z)) (rw (sym z) (refl, (refl, (refl, refl))))
  custom_error_sound None q a h = absurd (done_next a h refl)

  -- numeric errors, with their digits
  numeric_digits : (h : Fixed) → is_numeric (kind_of h) ≡ true → get_or (fixed_text h) (length (fixed_text h) - 1) 0 ≡ 58 → (u : List ℕ) (ds : Digits) → NumericRead (fixed_text h) u ds → DigitsOf u (with_digits (kind_of h) ds.code (record { start = ds.start; len = ds.stop - ds.start }) ds.end)
  numeric_digits h n z u ds t =
      let w = t.numeric in
      let p = t.start in
      let q = t.stop in
      let l : 0 < ds.stop - ds.start = omega (arith, w.digits.0) in
      let f : ds.start ≡ placed (ds.stop - ds.start) ds.start = placed_some (ds.stop - ds.start) ds.start (λ o. omega arith) in
      let b : ds.start + (ds.stop - ds.start) ≡ w.b = omega (arith, w.digits.0) in
      record {
        some = n ∙ sym (lt-ltb 0 (ds.stop - ds.start) l);
        run =
            λ o.
            rw (sym f)
            (record {
              before = (omega (arith, w.spaces.0, (opens h).long), ap (λ (j : ℕ). is_digit (get_or u (j - 1) 0)) (sym p) ∙ front w);
              digits = λ j g k. w.digits.1 j (omega (arith, p)) (omega (arith, b));
              ended = rw b w.ended;
            });
        code = λ o g. sym (ap stored (numbered_some (kind_of h) ds.code g)) ∙ t.code ∙ ap (λ (j : ℕ). value 0 (take (ds.stop - ds.start) (drop j u))) f;
      }
    where
      -- before the digits stands a run blank, or the head's colon
      front : (w : NumericEnded (fixed_text h) u ds.end) → is_digit (get_or u (w.a - 1) 0) ≡ false
      front w =
          ⊎_elim
          (λ (g : length (fixed_text h) < w.a).
          not_true_false (is_digit (get_or u (w.a - 1) 0)) (λ o. false_true (w.spaces.1 (w.a - 1) (omega arith) (omega arith)) (digit_blank (get_or u (w.a - 1) 0) o)))
          (λ (g : w.a ≤ length (fixed_text h)).
          let i : w.a - 1 ≡ 0 + (length (fixed_text h) - 1) = omega (arith, w.spaces.0) in
          ap (λ (j : ℕ). is_digit (get_or u j 0)) i ∙ ap is_digit (stands_get_d (fixed_text h) u 0 (length (fixed_text h) - 1) w.head (omega (arith, (opens h).long)) ∙ z) ∙ (unfold is_digit in refl))
          (order (length (fixed_text h)) w.a)

  -- the heads of a list, each of which is a numeric error's and ends in a colon
  abbrev Heads : List Fixed → Type 0
  Heads [] = Unit {0}
  Heads (h ∷ hs) = ((is_numeric (kind_of h) ≡ true) × (get_or (fixed_text h) (length (fixed_text h) - 1) 0 ≡ 58)) × Heads hs

  numeric_hit : (h : Fixed) → is_numeric (kind_of h) ≡ true → get_or (fixed_text h) (length (fixed_text h) - 1) 0 ≡ 58 → (k : ℕ) (ds : Digits) → NumericRead (fixed_text h) (drop k s) ds → AnyOf (λ x. NumericEnded (fixed_text x) (drop k s) ds.end) heads → (a : Answer) → a ≡ with_digits (kind_of h) ds.code (record { start = k + ds.start; len = k + ds.stop - (k + ds.start) }) (k + ds.end) → Hit d ts s e a
  numeric_hit h v z k ds t i a g =
      let u = drop k s in
      let w = t.numeric in
      let m = ending_fits u w.b w.ended.0 in
      let o = opens h in
      let l = o.long in
      let f : k + ds.stop - (k + ds.start) ≡ ds.stop - ds.start = omega arith in
      let r : Answer = with_digits (kind_of h) ds.code (record { start = ds.start; len = ds.stop - ds.start }) ds.end in
      record {
        p = k;
        n = ds.end;
        at = inr (stands_front crlf o.rest s k (rw o.front at (stands_here (fixed_text h) s k ∙ w.head)));
        item = items.numeric i;
        ends = ap (λ (x : Answer). x.consumed) (sym g);
        found = ap is_found g ∙ kind_found_lem h;
        digits =
            digits_on s k r a (numeric_digits h v z u ds t) (ap (λ (x : Answer). x.kind) g) (ap (λ (x : Answer). x.number) g) (ap (λ (x : Answer). x.digits.len) g ∙ f)
            (λ q.
            let y : k + ds.start ≡ placed (k + ds.stop - (k + ds.start)) (k + ds.start) = placed_some (k + ds.stop - (k + ds.start)) (k + ds.start) (λ n. omega arith) in
            let x : ds.start ≡ placed (ds.stop - ds.start) ds.start = placed_some (ds.stop - ds.start) ds.start (λ n. omega arith) in
            ap (λ (c : Answer). c.digits.start) g ∙ sym y ∙ ap (λ (j : ℕ). k + j) x)
            (ap (λ (x : Answer). x.consumed) g);
        text = no_text_lem d s a (ap (λ (x : Answer). x.text.len) g);
        finished =
            lf_finished u (w.b + line_ending u w.b - 1) (omega (arith, w.spaces.0, w.digits.0, w.ended.0)) (omega (arith, w.ended.0)) (ending_lf u w.b w.ended.0) (of_mark mark.Notice 0 ts)
            (mark_texts mark.Notice 0 ts good);
      }

  numeric_sound : (h : Fixed) → is_numeric (kind_of h) ≡ true → get_or (fixed_text h) (length (fixed_text h) - 1) 0 ≡ 58 → ((u : List ℕ) (n : ℕ) → NumericEnded (fixed_text h) u n → AnyOf (λ x. NumericEnded (fixed_text x) u n) heads) → (a : Answer) → numeric_tried h (numeric_error (fixed_text h) s e) ≡ Some a → Hit d ts s e a
  unfolding numeric_error
  numeric_sound h v z i a g = at_place (find_in (fixed_text h) s e) g
    where
      at_end : (k : ℕ) (q : Option Digits) → numeric_at (fixed_text h) (drop k s) 0 ≡ q → numeric_tried h (shift_numeric k q) ≡ Some a → Hit d ts s e a
      at_end k (Some ds) p j =
          unfold shift_numeric numeric_tried in
          let t = numeric_told (fixed_text h) (drop k s) ds p in
          numeric_hit h v z k ds t (i (drop k s) ds.end t.numeric) a cc
      at_end k None p j = absurd (done_next a j (unfold shift_numeric numeric_tried in refl))

      at_place : (q : Option ℕ) → numeric_tried h (at_found (fixed_text h) s q) ≡ Some a → Hit d ts s e a
      at_place (Some k) j =
          let y : numeric_tried h (numeric_at (fixed_text h) s k) ≡ Some a = unfold at_found in j in
          at_end k (numeric_at (fixed_text h) (drop k s) 0) refl (rw (numeric_moved (fixed_text h) s k) at y)
      at_place None j = absurd (done_next a j (unfold at_found numeric_tried in refl))

  numerics_of : (ls : List Fixed) → Heads ls → ((u : List ℕ) (n : ℕ) → AnyOf (λ x. NumericEnded (fixed_text x) u n) ls → AnyOf (λ x. NumericEnded (fixed_text x) u n) heads) → (a : Answer) → AnyOf (λ h. numeric_tried h (numeric_error (fixed_text h) s e) ≡ Some a) ls → Hit d ts s e a
  numerics_of [] z i a h = absurd h
  numerics_of (x ∷ ls) z i a (inl h) = numeric_sound x z.0.0 z.0.1 (λ u n v. i u n (inl v)) a h
  numerics_of (x ∷ ls) z i a (inr h) = numerics_of ls z.1 (λ u n v. i u n (inr v)) a h

  -- notices: each record's outcome, by position
  pub notice_front : (x : List ℕ) (n : ℕ) → NoticeEnded x (drop e s) n → notice_at x s e ≡ notice.Ended (e + n)
  unfolding shift_notice
  notice_front x n w = notice_moved x s e ∙ ap (shift_notice e) (ended_is x (drop e s) n w)

  pub broken_front : (x : List ℕ) → Unfinished x (drop e s) → notice_at x s e ≡ notice.Unfinished
  unfolding shift_notice
  broken_front x w = notice_moved x s e ∙ ap (shift_notice e) (unfinished_is x (drop e s) w)

  abbrev pub EndedBy : Answer → Entry → Type 0
  EndedBy a x = NoticeEnded x.text (drop e s) (a.consumed - e) × ((e ≤ a.consumed) × Plain a)

  abbrev pub BrokenBy : Answer → Entry → Type 0
  BrokenBy a x = Unfinished x.text (drop e s) × (a ≡ nothing e)

  one_heard : (x : Entry) (a : Answer) (r : Notice) → notice_at x.text (drop e s) 0 ≡ r → heard (shift_notice e r) x.number s e ≡ Some a → EndedBy a x ⊎ BrokenBy a x
  unfolding shift_notice heard
  one_heard x a (notice.Ended n) p h =
      let z : with_payload kind.Notice x.number (trimmed_part s e (e + n)) (e + n) ≡ a = cc in
      let c : a.consumed ≡ e + n = ap (λ (y : Answer). y.consumed) (sym z) in
      let i : a.consumed - e ≡ n = omega arith in
      inl (rw i (ended_told x.text (drop e s) n p), (omega arith, rw (sym z) (refl, (refl, (refl, refl)))))
  one_heard x a notice.Unfinished p h =
      let z : nothing e ≡ a = cc in
      inr (unfinished_told x.text (drop e s) p, sym z)
  one_heard x a notice.Nothing p h = absurd (done_next a h refl)

  notices_some : (l : List Entry) (a : Answer) → notices l s e ≡ Some a → AnyOf (λ x. heard (notice_at x.text s e) x.number s e ≡ Some a) l
  unfolding notices
  notices_some [] a h = absurd (done_next a h refl)
  notices_some (x ∷ l) a h =
      ⊎_elim
      (λ (q : heard (notice_at x.text s e) x.number s e ≡ Some a). inl q)
      (λ (q : (heard (notice_at x.text s e) x.number s e ≡ None) × (notices l s e ≡ Some a)). inr (notices_some l a q.1))
      (done_one (heard (notice_at x.text s e) x.number s e) (notices l s e) a h)

  pub notices_told : (l : List Entry) (a : Answer) → notices l s e ≡ Some a → AnyOf (EndedBy a) l ⊎ AnyOf (BrokenBy a) l
  notices_told l a h =
      some_either (λ x. heard (notice_at x.text s e) x.number s e ≡ Some a) (EndedBy a) (BrokenBy a)
      (λ x v. one_heard x a (notice_at x.text (drop e s) 0) refl (rw (notice_moved x.text s e) at v)) l (notices_some l a h)

  notices_sound : (a : Answer) → notices (of_mark mark.Notice 0 ts) s e ≡ Some a → Sound d ts s e a
  notices_sound a h =
      let l = of_mark mark.Notice 0 ts in
      let good-l = mark_texts mark.Notice 0 ts good in
      ⊎_elim
      (λ (q : AnyOf (EndedBy a) l).
      let i : AnyOf (λ x. NoticeEnded x.text (drop e s) (a.consumed - e)) l = some_map (EndedBy a) (λ x. NoticeEnded x.text (drop e s) (a.consumed - e)) (λ x v. v.0) l q in
      inl (some_any (EndedBy a) (Hit d ts s e a) (λ x v.
      let b = notice_lf x.text (drop e s) (a.consumed - e) v.0 in
      record {
        p = e;
        n = a.consumed - e;
        at = inl refl;
        item = items.notice i;
        ends = omega (arith, v.1.0);
        found = v.1.1.0;
        digits = no_digits s a v.1.1.1.0 v.1.1.1.1.0;
        text = no_text_lem d s a v.1.1.1.1.1;
        finished = lf_finished (drop e s) (a.consumed - e - 1) (omega (arith, b.1.0)) (omega (arith, b.0, b.1.0)) b.1.1 l good-l;
      }) l q))
      (λ (q : AnyOf (BrokenBy a) l).
      inr (some_any (BrokenBy a) (a ≡ nothing e) (λ x v. v.1) l q, some_map (BrokenBy a) (λ x. Unfinished x.text (drop e s)) (λ x v. v.0) l q))
      (notices_told l a h)

  -- with no notice heard, none is unfinished either
  notices_quiet : (l : List Entry) → notices l s e ≡ None → AnyOf (λ x. Unfinished x.text (drop e s)) l → ⊥
  unfolding notices
  notices_quiet [] h g = g
  notices_quiet (x ∷ l) h (inl w) = let b = (next_both (heard (notice_at x.text s e) x.number s e) (notices l s e) h).0 in done_next (nothing e) (ap (λ (r : Notice). heard r x.number s e) (broken_front x.text w) ∙ (unfold heard in refl)) b
  notices_quiet (x ∷ l) h (inr w) = notices_quiet l (next_both (heard (notice_at x.text s e) x.number s e) (notices l s e) h).1 w

  -- prompts, which take all there is
  module _ (inside : e ≤ length s) (quiet : notices (of_mark mark.Notice 0 ts) s e ≡ None) where
    all_hit : Item d ts (drop e s) (length (drop e s)) → (a : Answer) → a.consumed ≡ length s → Plain a → Hit d ts s e a
    all_hit i a c g =
        record {
          p = e;
          n = length (drop e s);
          at = inl refl;
          item = i;
          ends = omega (arith, c, length-drop e s);
          found = g.0;
          digits = no_digits s a g.1.0 g.1.1.0;
          text = no_text_lem d s a g.1.1.1;
          finished = notices_quiet (of_mark mark.Notice 0 ts) quiet;
        }

    prompt_done : (b : Bool) (c : ℕ) (a : Answer) → prompt_tried b c s ≡ Some a → (b ≡ true) × ((a.consumed ≡ length s) × Plain a)
    unfolding prompt_tried
    prompt_done true c a h = let z : with_number kind.Prompt c (length s) ≡ a = cc in (refl, (ap (λ (x : Answer). x.consumed) (sym z), rw (sym z) (refl, (refl, (refl, refl)))))
    prompt_done false c a h = absurd (done_next a h refl)

    prompt_sound : (c : ℕ) → (FirstAlone c (drop e s) → FirstAlone 62 (drop e s) ⊎ FirstAlone 64 (drop e s)) → (a : Answer) → prompt_tried (prompt_from c s e) c s ≡ Some a → Hit d ts s e a
    prompt_sound c mk a h =
        let w = prompt_done (prompt_from c s e) c a h in
        all_hit (items.prompt (mk (alone_told c (drop e s) (sym (prompt_moved c s e inside) ∙ w.0))) refl) a w.1.0 w.1.1

    customs_some : (l : List Entry) (a : Answer) → custom_prompts l s e ≡ Some a → AnyOf (λ x. EndsIn x.text (drop e s)) l × ((a.consumed ≡ length s) × Plain a)
    unfolding custom_prompts
    customs_some [] a h = absurd (done_next a h refl)
    customs_some (x ∷ l) a h =
        ⊎_elim
        (λ (q : prompt_tried (custom_prompt x.text s e) x.prompt s ≡ Some a).
        let w = prompt_done (custom_prompt x.text s e) x.prompt a q in
        (inl (ends_told x.text (drop e s) (sym (custom_moved x.text s e) ∙ w.0)), w.1))
        (λ (q : (prompt_tried (custom_prompt x.text s e) x.prompt s ≡ None) × (custom_prompts l s e ≡ Some a)).
        let w = customs_some l a q.1 in
        (inr w.0, w.1))
        (done_one (prompt_tried (custom_prompt x.text s e) x.prompt s) (custom_prompts l s e) a h)

    prompts_sound : (a : Answer) → prompts (of_mark mark.Prompt 0 ts) s e ≡ Some a → Hit d ts s e a
    unfolding prompts
    prompts_sound a h =
        let l = of_mark mark.Prompt 0 ts in
        ⊎_elim
        (λ (q : custom_prompts l s e ≡ Some a). let w = customs_some l a q in all_hit (items.custom_prompt w.0 refl) a w.1.0 w.1.1)
        (λ (q : (custom_prompts l s e ≡ None) × (or_else (prompt_tried (prompt_from 62 s e) 62 s) (prompt_tried (prompt_from 64 s e) 64 s) ≡ Some a)).
        ⊎_elim
        (λ (r : prompt_tried (prompt_from 62 s e) 62 s ≡ Some a). prompt_sound 62 (λ v. inl v) a r)
        (λ (r : (prompt_tried (prompt_from 62 s e) 62 s ≡ None) × (prompt_tried (prompt_from 64 s e) 64 s ≡ Some a)). prompt_sound 64 (λ v. inr v) a r.1)
        (done_one (prompt_tried (prompt_from 62 s e) 62 s) (prompt_tried (prompt_from 64 s e) 64 s) a q.1))
        (done_one (custom_prompts l s e) (or_else (prompt_tried (prompt_from 62 s e) 62 s) (prompt_tried (prompt_from 64 s e) 64 s)) a h)

  -- the chains of rules 3 and 5: whichever answered, an item was found
  either : (t r : Option Answer) (a : Answer) → (t ≡ Some a → Hit d ts s e a) → (r ≡ Some a → Hit d ts s e a) → or_else t r ≡ Some a → Hit d ts s e a
  either t r a f g h = ⊎_elim f (λ (q : (t ≡ None) × (r ≡ Some a)). g q.1) (done_one t r a h)

  -- CONNECT: the bare line, or one with text
  bare_at_lem : (a : Answer) (k : ℕ) → stands (fixed_text fixed.Connect) s k ≡ true → connected s e k (Some (k + 11)) ≡ Some a → LineAt s a fixed.Connect
  unfolding connected
  bare_at_lem a k h g =
      let z : with_text (trimmed_part s e k) (record { start = k + 10; len = k + 11 - (k + 12) }) (k + 11) ≡ a = cc in
      let l : k + 11 - (k + 12) ≡ 0 = omega arith in
      record { k = k; here = h; ends = ap (λ (x : Answer). x.consumed) (sym z); plain = λ n. rw (sym z) (refl, (refl, (refl, l))) }

  text_hit : (a : Answer) (k end : ℕ) → TextAt d s k end → connected s e k (Some end) ≡ Some a → Hit d ts s e a
  unfolding connected
  text_hit a k end t g =
      let u = drop k s in
      let w = found_at crlf s (k + 10) t.q t.found in
      let f = stands_fits crlf s t.q (omega arith) w.here in
      let v = texted_told s k t.head t.q t.found in
      let z : with_text (trimmed_part s e k) (record { start = k + 10; len = end - (k + 12) }) end ≡ a = cc in
      let i : v.q + 1 ≡ t.q + 2 - k - 1 = omega (arith, v.ended, v.behind) in
      record {
        p = k;
        n = t.q + 2 - k;
        at = inr (stands_front crlf (bytes "CONNECT ") s k t.head);
        item = items.text t.hears v;
        ends = omega (arith, w.after, t.ends, ap (λ (x : Answer). x.consumed) (sym z));
        found = rw (sym z);
        digits = no_digits s a (rw (sym z)) (rw (sym z));
        text = rw (sym z) (told w);
        finished =
            lf_finished u (t.q + 2 - k - 1) (omega (arith, w.after)) (rw length-drop (omega (arith, w.after, f))) (ap (λ (n : ℕ). get_or u n 0) (sym i) ∙ crlf_lf u v.q v.here) (of_mark mark.Notice 0 ts)
            (mark_texts mark.Notice 0 ts good);
      }
    where
      told : FoundAt crlf s (k + 10) t.q → 0 < end - (k + 12) → TextOf d s (with_text (trimmed_part s e k) (record { start = k + 10; len = end - (k + 12) }) end)
      told w l =
          let y : k + 10 ≡ placed (end - (k + 12)) (k + 10) = placed_some (end - (k + 12)) (k + 10) (λ n. omega arith) in
          let h : k + 10 - 10 ≡ k = omega arith in
          let o : k + 10 + (end - (k + 12)) ≡ t.q = omega (arith, t.ends) in
          rw (sym y)
          (record {
            hears = t.hears;
            ok = refl;
            head = (omega arith, ap (stands (fixed_text fixed.ConnectText) s) h ∙ t.head);
            inside = λ j a b. w.first j a (omega (arith, o));
            ended = (ap (stands crlf s) o ∙ w.here, omega (arith, o, t.ends));
          })

  connect_sound : (r : Option ℕ) → (a : Answer) → connect_success d s e r ≡ Some a → Hit d ts s e a
  unfolding connect_success
  connect_sound (Some k) a h = go (connect_at d s k) refl h
    where
      go : (r : Option ℕ) → connect_at d s k ≡ r → connected s e k r ≡ Some a → Hit d ts s e a
      go (Some end) q g =
          ⊎_elim
          (λ (w : (stands (fixed_text fixed.Connect) s k ≡ true) × (end ≡ k + 11)).
          lines_hit (fixed.Connect ∷ []) ((refl, refl), tt) (λ u n. ⊎_elim (λ (v : Line (fixed_text fixed.Connect) u n). inr (inl v)) (λ (v : ⊥). absurd v)) a (inl (bare_at_lem a k w.0 (rw w.1 at g))))
          (λ (w : TextAt d s k end). text_hit a k end w g)
          (connect_told d s k end q)
      go None q g = absurd (done_next a g (unfold connected in refl))
  connect_sound None a h = absurd (done_next a h refl)

  successes_sound : (a : Answer) → successes d (of_mark mark.Success 0 ts) s e ≡ Some a → Hit d ts s e a
  unfolding successes
  successes_sound a =
      either (custom_success (first_custom (of_mark mark.Success 0 ts) s e) s e) _ a (custom_success_sound (first_custom (of_mark mark.Success 0 ts) s e) refl a)
      (either (line_success s e fixed.Ok (find_in (fixed_text fixed.Ok) s e)) _ a
      (λ h. lines_hit (fixed.Ok ∷ []) ((refl, refl), tt) (λ u n. ⊎_elim (λ (v : Line (fixed_text fixed.Ok) u n). inl v) (λ (v : ⊥). absurd v)) a (inl (success_at a fixed.Ok (find_in (fixed_text fixed.Ok) s e) refl h)))
      (connect_sound (first_connect d s e) a))

  lines_sound : (a : Answer) → line_errors s e ≡ Some a → Hit d ts s e a
  unfolding line_errors
  lines_sound a h =
      lines_hit error_lines ((refl, refl), ((refl, refl), ((refl, refl), ((refl, refl), ((refl, refl), ((refl, refl), tt))))))
      (λ u n v. inr (inr (some_left (λ l. Line (fixed_text l) u n) error_lines (fixed.Na ∷ []) v))) a
      (some_map (λ l. line l ≡ Some a) (LineAt s a) (λ l v. line_at a l (find_in (fixed_text l) s e) refl v) error_lines (first_some line error_lines a h))
    where
      line : Fixed → Option Answer
      line l = line_tried l (find_in (fixed_text l) s e)

  errors_sound : (a : Answer) → errors (of_mark mark.Error 0 ts) s e ≡ Some a → Hit d ts s e a
  unfolding errors numeric_errors
  errors_sound a =
      either (custom_error (first_custom (of_mark mark.Error 0 ts) s e)) _ a (custom_error_sound (first_custom (of_mark mark.Error 0 ts) s e) refl a)
      (either (numeric_errors s e) _ a (λ h. numerics_of heads ((refl, refl), ((refl, refl), ((refl, refl), tt))) (λ u n v. v) a (first_some (λ x. numeric_tried x (numeric_error (fixed_text x) s e)) heads a h))
      (either (line_errors s e) _ a (lines_sound a)
      (λ h. lines_hit (fixed.Na ∷ []) ((refl, refl), tt) (λ u n v. inr (inr (some_right (λ l. Line (fixed_text l) u n) error_lines (fixed.Na ∷ []) v))) a (inl (na_at a h)))))

  pub tried_sound : e ≤ length s → (a : Answer) → tried d ts s e ≡ Some a → Sound d ts s e a
  unfolding tried
  tried_sound i a h =
      let n = notices (of_mark mark.Notice 0 ts) s e in
      ⊎_elim
      (λ (q : n ≡ Some a). notices_sound a q)
      (λ (q : (n ≡ None) × (or_else (successes d (of_mark mark.Success 0 ts) s e) (or_else (prompts (of_mark mark.Prompt 0 ts) s e) (errors (of_mark mark.Error 0 ts) s e)) ≡ Some a)).
      inl
      (either (successes d (of_mark mark.Success 0 ts) s e) (or_else (prompts (of_mark mark.Prompt 0 ts) s e) (errors (of_mark mark.Error 0 ts) s e)) a (successes_sound a)
      (either (prompts (of_mark mark.Prompt 0 ts) s e) (errors (of_mark mark.Error 0 ts) s e) a (prompts_sound i q.0 a) (errors_sound a)) q.1))
      (done_one n (or_else (successes d (of_mark mark.Success 0 ts) s e) (or_else (prompts (of_mark mark.Prompt 0 ts) s e) (errors (of_mark mark.Error 0 ts) s e))) a h)
