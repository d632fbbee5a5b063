-- What stands at a place, by position: each form of `Finished` is what the parser's definition computes, both ways.
-- It is enough to look at place 0, since the parser's definitions don't see what stands before the place (parser's `Moved`).
use Rattle.std.specs.Prelude.{Option, Some, None, ◌≡◌, Bool, ◌&&◌, ℕ, zero, suc, ◌+◌, ◌*◌, ◌-◌, ◌≤◌, ◌<◌, get_or, take, drop, leb, if◌then◌else◌}
use Rattle.std.proofs.Math.Path.{refl, sym, ap}
use Rattle.std.proofs.Common.{◌∙◌, length-append, length-drop}
use Rattle.std.proofs.Math.Bool.{true, false}
use mathlib.Core.List.{List, [], ◌∷◌, ◌++◌}
use native.Mathlib.Omega.{arith}
use Rattle.std.proofs.Math.ListN.{length}
use Rattle.std.proofs.Math.Dec.{ltb}
use borrow.Author.Tests.{le-leb, leb-true, ltb-true, lt-ltb, ne_eqb}
use Rattle.text.specs.Bytes.{bytes}
use Rattle.text.specs.Logic.{false_true, not_true_false, and_both}
use Rattle.text.specs.Text.{among, blanks, is_blank, lead, past, keep, stands, find_in}
use Rattle.text.specs.Laws.{found_at, find_is, stands_append, stands_fits, stands_byte, stands_get_d, begins_fits, past_passes, past_is, past_bounds, keep_passes, keep_is}
use Rattle.text.specs.declared.Blanks.TheVariants as blanks
use Rattle.table.specs.Table.{is_text}
use Rattle.table.specs.Laws.{text_some, text_end}
use Rattle.lines.specs.Lines.{crlf}
use Rattle.parser.specs.Parser.{only_blanks, prompt_from, custom_prompt, is_digit, value, run_at, ended_run, tail_at, numeric_at, line_ending, breaks_off, through, notice_text, notice_at}
use Rattle.parser.specs.Laws.{text_broken, text_bare, text_through, notice_none, notice_is, digit_bounds, ending_fits}
use Rattle.parser.specs.declared.Digits.{Digits}
use Rattle.parser.specs.declared.Notice.{Notice}
use Rattle.parser.specs.declared.Notice.TheVariants as notice
use Rattle.digest.specs.Finished.{NoticeEnd, crlf_end, colon, NoticeEnded, Unfinished, NumericEnded, FirstAlone, EndsIn}

-- a notice
broken_long : (x u : List ℕ) (k : ℕ) → breaks_off x u k ≡ true → length u ≤ k + length x + 1
unfolding breaks_off
broken_long x u k h = omega (arith, begins_fits (drop k u) (x ++ bytes "\r") h, length-append x (bytes "\r"), length-drop k u)

module _ (x u : List ℕ) where
  at_front : 0 < line_ending u 0 → notice_text x u (line_ending u 0) ≡ notice_at x u 0
  at_front h = let e : line_ending u 0 ≡ 0 + line_ending u 0 = omega arith in ap (notice_text x u) e ∙ notice_is x u 0 (line_ending u 0) refl (λ z. omega arith)

  not_broken : (k : ℕ) → k + length x + 2 ≤ length u → breaks_off x u k ≡ false
  not_broken k h = not_true_false (breaks_off x u k) (λ e. omega (arith, broken_long x u k e))

  end_is : (k n : ℕ) → stands x u k ≡ true → NoticeEnd u (k + length x) n → notice_text x u k ≡ notice.Ended n
  end_is k n h (crlf_end c e) =
      let f = stands_fits crlf u (k + length x) (omega arith) c in
      sym (text_bare x u k (not_broken k (omega arith)) h c) ∙ ap notice.Ended (sym e)
  end_is k n h (colon c q g w z e) =
      let f = stands_fits crlf u q (omega arith) w in
      let r = find_is crlf u (k + length x + 1) (Some q) (record { after = g; here = w; first = z }) in
      let v : stands crlf u (k + length x) ≡ false = not_true_false (stands crlf u (k + length x)) (λ m. omega (arith, (stands_byte 13 (10 ∷ []) u (k + length x) m).1.0, (stands_byte 58 [] u (k + length x) c).1.0)) in
      sym (text_through x u k (not_broken k (omega arith)) h v c (Some q) (sym r) q refl) ∙ ap notice.Ended (sym e)

  pub ended_is : (n : ℕ) → NoticeEnded x u n → notice_at x u 0 ≡ notice.Ended n
  ended_is n w = sym (at_front w.opened) ∙ end_is (line_ending u 0) n w.text w.ended

  pub unfinished_is : Unfinished x u → notice_at x u 0 ≡ notice.Unfinished
  unfinished_is w = sym (at_front w.opened) ∙ sym (text_broken x u (line_ending u 0) w.broken)

  -- the other way: what a notice's outcome says
  abbrev Told : Notice → Type 0
  Told (notice.Ended n) = NoticeEnded x u n
  Told notice.Unfinished = Unfinished x u
  Told notice.Nothing = Unit {0}

  module _ (h : 0 < line_ending u 0) where
    told_colon : stands x u (line_ending u 0) ≡ true → stands (bytes ":") u (line_ending u 0 + length x) ≡ true → (r : Option ℕ) → find_in crlf u (line_ending u 0 + length x + 1) ≡ r → Told (through r)
    unfolding through
    told_colon a c (Some q) e =
        let w = found_at crlf u (line_ending u 0 + length x + 1) q e in
        record { opened = h; text = a; ended = colon c q w.after w.here w.first refl }
    told_colon a c None e = tt

    told_behind : (a b c : Bool) → stands x u (line_ending u 0) ≡ a → stands crlf u (line_ending u 0 + length x) ≡ b → stands (bytes ":") u (line_ending u 0 + length x) ≡ c → Told (if a && b then notice.Ended (line_ending u 0 + length x + 2) else if a && c then through (find_in crlf u (line_ending u 0 + length x + 1)) else notice.Nothing)
    told_behind true true c e f g = record { opened = h; text = e; ended = crlf_end f refl }
    told_behind true false true e f g = told_colon e g (find_in crlf u (line_ending u 0 + length x + 1)) refl
    told_behind true false false e f g = tt
    told_behind false b c e f g = tt

    told_text : (b : Bool) → breaks_off x u (line_ending u 0) ≡ b → Told (if b then notice.Unfinished else if stands (x ++ crlf) u (line_ending u 0) then notice.Ended (line_ending u 0 + length x + 2) else if stands (x ++ bytes ":") u (line_ending u 0) then through (find_in crlf u (line_ending u 0 + length x + 1)) else notice.Nothing)
    told_text true e = record { opened = h; broken = e }
    told_text false e =
        rw (stands_append x crlf u (line_ending u 0), stands_append x (bytes ":") u (line_ending u 0))
        (told_behind (stands x u (line_ending u 0)) (stands crlf u (line_ending u 0 + length x)) (stands (bytes ":") u (line_ending u 0 + length x)) refl refl refl)

  told : Told (notice_at x u 0)
  told = go (line_ending u 0) refl
    where
      go : (n : ℕ) → line_ending u 0 ≡ n → Told (notice_at x u 0)
      go zero e = rw (sym (notice_none x u 0 (line_ending u 0) refl e)) tt
      go (suc n) e =
          let h : 0 < line_ending u 0 = omega arith in
          rw (sym (at_front h)) (unfold notice_text in told_text h (breaks_off x u (line_ending u 0)) refl)

  pub ended_told : (n : ℕ) → notice_at x u 0 ≡ notice.Ended n → NoticeEnded x u n
  ended_told n e = rw e at told

  pub unfinished_told : notice_at x u 0 ≡ notice.Unfinished → Unfinished x u
  unfinished_told e = rw e at told

-- prompts
module _ (c : ℕ) (u : List ℕ) where
  pub alone_is : FirstAlone c u → prompt_from c u 0 ≡ true
  unfolding prompt_from only_blanks
  alone_is w =
      let f : find_in (c ∷ []) u 0 ≡ Some w.q = find_is (c ∷ []) u 0 (Some w.q) (record { after = omega arith; here = w.here; first = w.first }) in
      let g = stands_fits (c ∷ []) u w.q (omega arith) w.here in
      let e : past (is_blank blanks.Run) u (w.q + 1) ≡ length u = past_is (is_blank blanks.Run) u (w.q + 1) (length u) g (omega arith) w.after (λ h. absurd (omega arith)) in
      rw (f, e) (le-leb (length u) (length u) (omega arith))

  pub alone_told : prompt_from c u 0 ≡ true → FirstAlone c u
  unfolding prompt_from
  alone_told h = go (find_in (c ∷ []) u 0) refl h
    where
      go : (r : Option ℕ) → find_in (c ∷ []) u 0 ≡ r → only_blanks u r ≡ true → FirstAlone c u
      go (Some q) e k =
          let w = found_at (c ∷ []) u 0 q e in
          let g = stands_fits (c ∷ []) u q (omega arith) w.here in
          let l : length u ≤ past (is_blank blanks.Run) u (q + 1) = leb-true (length u) (past (is_blank blanks.Run) u (q + 1)) (unfold only_blanks in k) in
          record { q = q; here = w.here; first = w.first; after = λ j a b. past_passes (is_blank blanks.Run) u (q + 1) j a (omega arith) }
      go None e k = absurd (false_true k (unfold only_blanks in refl))

-- custom prompts; a good text doesn't end in a blank
module _ (x u : List ℕ) where
  pub ends_told : custom_prompt x u 0 ≡ true → EndsIn x u
  unfolding custom_prompt
  ends_told h =
      let n = keep (is_blank blanks.Run) u in
      let w = and_both (leb (length x) n) (stands x u (0 + (n - length x))) h in
      let l = leb-true (length x) n w.0 in
      record {
        q = 0 + (n - length x);
        here = w.1;
        after = λ j a b. keep_passes (is_blank blanks.Run) u j (omega arith) b;
      }

  pub ends_is : is_text x ≡ true → EndsIn x u → custom_prompt x u 0 ≡ true
  unfolding custom_prompt
  ends_is t w =
      let l = text_some x t in
      let f = stands_fits x u w.q (omega arith) w.here in
      let i : w.q + length x - 1 ≡ w.q + (length x - 1) = omega arith in
      let b : is_blank blanks.Run (get_or u (w.q + length x - 1) 0) ≡ false = ap (λ (k : ℕ). is_blank blanks.Run (get_or u k 0)) i ∙ ap (is_blank blanks.Run) (stands_get_d x u w.q (length x - 1) w.here (omega arith)) ∙ text_end x t in
      let e : keep (is_blank blanks.Run) u ≡ w.q + length x = keep_is (is_blank blanks.Run) u (w.q + length x) (omega arith) f b w.after in
      let k : 0 + (w.q + length x - length x) ≡ w.q = omega arith in
      rw (e, k, w.here, le-leb (length x) (w.q + length x) (omega arith))

-- numeric errors: the value of a run is that of its digits alone
value_run_after : (b : Bool) (c x : ℕ) (l : List ℕ) → is_digit x ≡ b → value (c * 10 + (x - 48)) l ≡ value (c * 10 + (x - 48)) (take (lead is_digit l) l) → (if b then value (c * 10 + (x - 48)) l else c) ≡ value c (take (if b then suc (lead is_digit l) else zero) (x ∷ l))
unfolding value
value_run_after true c x l e h = rw e h
value_run_after false c x l e h = refl

value_run : (c : ℕ) (l : List ℕ) → value c l ≡ value c (take (lead is_digit l) l)
unfolding value lead
value_run c [] = refl
value_run c (x ∷ l) = value_run_after (is_digit x) c x l refl (value_run (c * 10 + (x - 48)) l)

value_part : (u : List ℕ) (a b : ℕ) → past is_digit u a ≡ b → value 0 (drop a u) ≡ value 0 (take (b - a) (drop a u))
unfolding past
value_part u a b e =
    let l : lead is_digit (drop a u) ≡ b - a = omega arith in
    value_run 0 (drop a u) ∙ ap (λ (n : ℕ). value 0 (take n (drop a u))) l

-- a line ending is no digit, and a digit no blank
ending_byte : (u : List ℕ) (b : ℕ) → 0 < line_ending u b → is_digit (get_or u b 0) ≡ false
unfolding line_ending
ending_byte u b h = go (stands (bytes "\n") u b) refl (stands crlf u b) refl h
  where
    go : (x : Bool) → stands (bytes "\n") u b ≡ x → (y : Bool) → stands crlf u b ≡ y → 0 < (if x then 1 else if y then 2 else 0) → is_digit (get_or u b 0) ≡ false
    go true e y f l = unfold is_digit in rw (stands_byte 10 [] u b e).1.0
    go false e true f l = unfold is_digit in rw (stands_byte 13 (10 ∷ []) u b f).1.0
    go false e false f l = absurd (omega arith)

pub digit_blank : (b : ℕ) → is_digit b ≡ true → is_blank blanks.Run b ≡ false
unfolding is_blank among blanks
digit_blank b e =
    let w = digit_bounds b e in
    rw (ne_eqb b 32 (λ q. omega arith), ne_eqb b 9 (λ q. omega arith), ne_eqb b 13 (λ q. omega arith), ne_eqb b 10 (λ q. omega arith))

module _ (h u : List ℕ) where
  pub numeric_is : (n : ℕ) (w : NumericEnded h u n) → numeric_at h u 0 ≡ Some (record { code = value 0 (drop w.a u); start = w.a; stop = w.b; end = n })
  unfolding numeric_at tail_at ended_run run_at
  numeric_is n w =
      let f = ending_fits u w.b w.ended.0 in
      let g : 0 + length h ≡ length h = omega arith in
      let p : past (is_blank blanks.Run) u (length h) ≡ w.a = past_is (is_blank blanks.Run) u (length h) w.a w.spaces.0 (omega (arith, w.digits.0)) w.spaces.1 (λ q. digit_blank (get_or u w.a 0) (w.digits.1 w.a (omega arith) w.digits.0)) in
      let q : past is_digit u w.a ≡ w.b = past_is is_digit u w.a w.b (omega (arith, w.digits.0)) (omega arith) w.digits.1 (λ r. ending_byte u w.b w.ended.0) in
      let v : value 0 (drop w.a u) ≤ 65535 = rw (value_part u w.a w.b q) w.small in
      rw (w.head, g, p, q, le-leb (value 0 (drop w.a u)) 65535 v, lt-ltb w.a w.b w.digits.0, lt-ltb 0 (line_ending u w.b) w.ended.0)
      (ap Some (λ i. record { code = value 0 (drop w.a u); start = w.a; stop = w.b; end = sym w.ended.1 i }))

  -- a numeric error that was read, and its digits
  pub record NumericRead (d : Digits) : Type 0 where
    pub numeric : NumericEnded h u d.end
    pub start : (numeric).a ≡ d.start
    pub stop : (numeric).b ≡ d.stop
    pub code : d.code ≡ value 0 (take (d.stop - d.start) (drop d.start u))

  abbrev ToldNumeric : Option Digits → Type 0
  ToldNumeric (Some d) = NumericRead d
  ToldNumeric None = Unit {0}

  told_run : (a : ℕ) → stands h u 0 ≡ true → a ≡ past (is_blank blanks.Run) u (0 + length h) → (c : Bool) → leb (value 0 (drop a u)) 65535 ≡ c → ToldNumeric (ended_run u a (if c then Some ((value 0 (drop a u)), (past is_digit u a)) else None))
  unfolding ended_run
  told_run a e f true g = go (ltb a (past is_digit u a)) refl (ltb 0 (line_ending u (past is_digit u a))) refl
    where
      go : (x : Bool) → ltb a (past is_digit u a) ≡ x → (y : Bool) → ltb 0 (line_ending u (past is_digit u a)) ≡ y → ToldNumeric (if x && y then Some (record { code = value 0 (drop a u); start = a; stop = past is_digit u a; end = past is_digit u a + line_ending u (past is_digit u a) }) else None)
      go true k true l =
          record {
            numeric = record {
              a = a;
              b = past is_digit u a;
              head = e;
              spaces = (omega (arith, past_bounds (is_blank blanks.Run) u (0 + length h)), λ j p q. past_passes (is_blank blanks.Run) u (0 + length h) j (omega arith) (omega arith));
              digits = (ltb-true a (past is_digit u a) k, λ j p q. past_passes is_digit u a j p q);
              small = rw (sym (value_part u a (past is_digit u a) refl)) (leb-true (value 0 (drop a u)) 65535 g);
              ended = (ltb-true 0 (line_ending u (past is_digit u a)) l, refl);
            };
            start = refl;
            stop = refl;
            code = value_part u a (past is_digit u a) refl;
          }
      go true k false l = tt
      go false k y l = tt
  told_run a e f false g = tt

  told_head : (b : Bool) → stands h u 0 ≡ b → ToldNumeric (if b then tail_at u (0 + length h) else None)
  unfolding tail_at run_at
  told_head true e = let a = past (is_blank blanks.Run) u (0 + length h) in told_run a e refl (leb (value 0 (drop a u)) 65535) refl
  told_head false e = tt

  pub numeric_told : (d : Digits) → numeric_at h u 0 ≡ Some d → NumericRead d
  unfolding numeric_at
  numeric_told d e = rw e at (told_head (stands h u 0) refl)
