-- Laws of what stands at a place: the ways out of each function, over plain lists.
-- Each rests on text's laws of `stands`, `find_in` and `past`; none looks into a search.
use Rattle.std.specs.Prelude.{Option, Some, None, ◌≡◌, Bool, ◌&&◌, get_or, take, drop, ltb, if◌then◌else◌}
use Rattle.std.proofs.Math.Path.{refl, sym, ap}
use Rattle.std.proofs.Common.{◌∙◌, add-one, length-append, drop_of_length-le}
use Rattle.std.proofs.Math.Bool.{true, false}
use mathlib.Core.List.{List, [], ◌∷◌, ◌++◌}
use Prim.Native.Nat.{ℕ, zero, suc, ◌+◌, ◌*◌, ◌-◌, ◌≤◌, ◌<◌}
use native.Mathlib.Omega.{arith}
use Rattle.std.proofs.Math.ListN.{length, length-drop}
use Rattle.std.proofs.Math.Seq.{drop-cons}
use Rattle.std.proofs.Math.Dec.{eqb, leb, eqb-suc-zero}
use borrow.Author.Tests.{le-leb, lt-leb, leb-true, le-ltb, lt-ltb, ltb-true}
use Rattle.text.specs.Bytes.{bytes}
use Rattle.text.specs.Logic.{and_both}
use Rattle.text.specs.Text.{is_blank, past, keep, begins, stands, find_in}
use Rattle.text.specs.Steps.{past_more, past_stop, past_end, stands_past, begins_short}
use Rattle.text.specs.Laws.{found_at, stands_fits, stands_append, stands_behind, begins_flip, rest, keep_le}
use Rattle.text.specs.declared.Blanks.TheVariants as blanks
use Rattle.parser.specs.declared.Digits.{Digits}
use Rattle.parser.specs.declared.Notice.TheVariants as notice
use Rattle.lines.specs.Lines.{crlf}
use Rattle.outcome.specs.Laws.{ways}
use Rattle.parser.specs.Parser.{line_ending, is_digit, value, run_at, digits_at, ended_run, tail_at, numeric_at, at_found, numeric_error, custom_prompt, wrapped, breaks_off, through, notice_text, after_ending, notice_at}

-- `line_ending`
module _ (s : List ℕ) (p : ℕ) where
  pub ending_crlf : stands (bytes "\n") s p ≡ false → stands crlf s p ≡ true → 2 ≡ line_ending s p
  unfolding line_ending
  ending_crlf g h = rw (g, h)

  -- a line ending lies in the list
  pub ending_fits : 0 < line_ending s p → p + line_ending s p ≤ length s
  unfolding line_ending
  ending_fits h = go (stands (bytes "\n") s p) refl (stands crlf s p) refl h
    where
      go : (a : Bool) → stands (bytes "\n") s p ≡ a → (b : Bool) → stands crlf s p ≡ b → 0 < (if a then 1 else if b then 2 else 0) → p + (if a then 1 else if b then 2 else 0) ≤ length s
      go true e b f l = stands_fits (bytes "\n") s p (omega arith) e
      go false e true f l = stands_fits crlf s p (omega arith) f
      go false e false f l = absurd (omega arith)

-- `is_digit` and the run of digits
pub digit_from : (b : ℕ) → 48 ≤ b → leb b 57 ≡ is_digit b
unfolding is_digit
digit_from b h = rw (le-leb 48 b h)

pub digit_bounds : (b : ℕ) → is_digit b ≡ true → (48 ≤ b) × (b ≤ 57)
unfolding is_digit
digit_bounds b e = let w = and_both (leb 48 b) (leb b 57) e in (leb-true 48 b w.0, leb-true b 57 w.1)

module _ (s : List ℕ) (i a : ℕ) where
  value_more : i < length s → is_digit (get_or s i 0) ≡ true → value a (drop i s) ≡ value (a * 10 + (get_or s i 0 - 48)) (drop (i + 1) s)
  unfolding value
  value_more h e = rw (add-one, drop-cons s i 0 h, e)

  value_stop : i < length s → is_digit (get_or s i 0) ≡ false → value a (drop i s) ≡ a
  unfolding value
  value_stop h e = rw (drop-cons s i 0 h, e)

  value_end : length s ≤ i → value a (drop i s) ≡ a
  unfolding value
  value_end h = rw (drop_of_length-le s h)

pub value_grows : (a : ℕ) (s : List ℕ) → a ≤ value a s
unfolding value
value_grows a [] = omega arith
value_grows a (x ∷ s) = ways (λ n. a ≤ n) (is_digit x) (λ e. omega (arith, value_grows (a * 10 + (x - 48)) s)) (λ e. omega arith)

-- a loop over a run of digits of at most `most`: those from p up to i have the value a
pub record Sofar (most : ℕ) (s : List ℕ) (p i a : ℕ) : Type 0 where
  pub small : a ≤ most
  pub digits : past is_digit s p ≡ past is_digit s i
  pub is : value 0 (drop p s) ≡ value a (drop i s)

pub sofar_none : (most : ℕ) (s : List ℕ) (p : ℕ) → Sofar most s p p 0
sofar_none most s p = record { small = omega arith; digits = refl; is = refl }

module _ (most : ℕ) (s : List ℕ) (p i a : ℕ) (w : Sofar most s p i a) where
  run_is : past is_digit s i ≡ i → value a (drop i s) ≡ a → Some (a, i) ≡ run_at most s p
  unfolding run_at
  run_is h g = rw (w.is ∙ g, w.digits ∙ h, le-leb a most w.small)

  pub run_end : length s ≤ i → Some (a, i) ≡ run_at most s p
  run_end h = run_is (past_end is_digit s i h) (value_end s i a h)

  module _ (h : i < length s) where
    pub run_stop : is_digit (get_or s i 0) ≡ false → Some (a, i) ≡ run_at most s p
    run_stop e = run_is (past_stop is_digit s i h e) (value_stop s i a h e)

    module _ (d : is_digit (get_or s i 0) ≡ true) (x : ℕ) (v : x ≡ get_or s i 0 - 48) where
      value_on : value 0 (drop p s) ≡ value (a * 10 + x) (drop (i + 1) s)
      value_on = rw v (w.is ∙ value_more s i a h d)

      pub run_large : most < a * 10 + x → None ≡ run_at most s p
      unfolding run_at
      run_large g = rw (lt-leb (value 0 (drop p s)) most (omega (arith, value_on, value_grows (a * 10 + x) (drop (i + 1) s))))

      pub run_more : a * 10 + x ≤ most → Sofar most s p (i + 1) (a * 10 + x)
      run_more g = record { small = g; digits = w.digits ∙ past_more is_digit s i h d; is = value_on }

-- the ways out of `tail_at`
module _ (s : List ℕ) (p a : ℕ) (u : a ≡ past (is_blank blanks.Run) s p) (r : Option (ℕ × ℕ)) (q : r ≡ digits_at s a) where
  at_run : ended_run s a r ≡ tail_at s p
  unfolding tail_at
  at_run = ap (ended_run s a) q ∙ ap (λ (n : ℕ). ended_run s n (digits_at s n)) u

  pub tail_large : r ≡ None → None ≡ tail_at s p
  unfolding ended_run
  tail_large e = rw e at at_run

  module _ (v b : ℕ) (e : r ≡ Some (v, b)) where
    at_value : (if ltb a b && ltb 0 (line_ending s b) then Some (record { code = v; start = a; stop = b; end = b + line_ending s b }) else None) ≡ tail_at s p
    unfolding ended_run
    at_value = rw e at at_run

    pub tail_bare : b ≤ a → None ≡ tail_at s p
    tail_bare h = rw (le-ltb a b h) at at_value

    module _ (h : a < b) (n : ℕ) (w : n ≡ line_ending s b) where
      at_ending : (if ltb 0 n then Some (record { code = v; start = a; stop = b; end = b + n }) else None) ≡ tail_at s p
      at_ending = rw w (rw (lt-ltb a b h) at at_value)

      pub tail_open : n ≡ 0 → None ≡ tail_at s p
      tail_open z = rw z at at_ending

      pub tail_is : (n ≡ 0 → ⊥) → Some (record { code = v; start = a; stop = b; end = b + n }) ≡ tail_at s p
      tail_is z = rw (lt-ltb 0 n (omega arith)) at at_ending

-- `numeric_at`
module _ (h s : List ℕ) where
  pub numeric_tail : (p : ℕ) → stands h s p ≡ true → tail_at s (p + length h) ≡ numeric_at h s p
  unfolding numeric_at
  numeric_tail p e = rw e

-- custom prompts
module _ (x s : List ℕ) (e : ℕ) where
  pub custom_past : length s < e → eqb (length x) 0 ≡ custom_prompt x s e
  unfolding custom_prompt keep
  custom_past h = let b : length s ≤ e = omega arith in rw (drop_of_length-le s b) (go x)
    where
      go : (y : List ℕ) → eqb (length y) 0 ≡ leb (length y) 0 && stands y s (e + (0 - length y))
      go [] = unfold stands begins in refl
      go (z ∷ y) = rw (lt-leb (length (z ∷ y)) 0 (omega arith)) (eqb-suc-zero (length y))

  module _ (n : ℕ) (q : n ≡ keep (is_blank blanks.Run) (take (length s - e) (drop e s))) where
    kept_is : n ≡ keep (is_blank blanks.Run) (drop e s)
    kept_is = q ∙ ap (keep (is_blank blanks.Run)) (rest s e)

    pub custom_room : e ≤ length s → e + (n - length x) ≤ length s
    custom_room h = omega (arith, kept_is, keep_le (is_blank blanks.Run) (drop e s), length-drop e s)

    pub custom_short : n < length x → false ≡ custom_prompt x s e
    unfolding custom_prompt
    custom_short h = rw (sym kept_is, lt-leb (length x) n h)

    pub custom_is : length x ≤ n → stands x s (e + (n - length x)) ≡ custom_prompt x s e
    unfolding custom_prompt
    custom_is h = rw (sym kept_is, le-leb (length x) n h)

-- a custom line
module _ (x s : List ℕ) (k : ℕ) where
  line_is : stands (wrapped x) s k ≡ stands crlf s k && (stands x s (k + 2) && stands crlf s (k + 2 + length x))
  line_is = stands_append crlf (x ++ crlf) s k ∙ ap (λ (b : Bool). stands crlf s k && b) (stands_append x crlf s (k + 2))

  pub line_none : stands crlf s k ≡ false → false ≡ stands (wrapped x) s k
  line_none h = sym (line_is ∙ rw h)

  module _ (h : stands crlf s k ≡ true) where
    pub line_room : k + 2 ≤ length s
    line_room = stands_fits crlf s k (omega arith) h

    pub line_off : stands x s (k + 2) ≡ false → false ≡ stands (wrapped x) s k
    line_off g = sym (line_is ∙ rw (h, g))

    pub line_end_lem : stands x s (k + 2) ≡ true → stands crlf s (k + 2 + length x) ≡ stands (wrapped x) s k
    line_end_lem g = sym (line_is ∙ rw (h, g))

-- at the end of the input no custom line stands
pub line_past : (x s : List ℕ) (i : ℕ) → length s ≤ i → stands (wrapped x) s i ≡ false
line_past x s i h = sym (stands_past (wrapped x) s i h) ∙ eqb-suc-zero (length (10 ∷ (x ++ crlf)))

-- `breaks_off`
module _ (x s : List ℕ) (k : ℕ) where
  pub broken_past : length s < k → true ≡ breaks_off x s k
  unfolding breaks_off begins
  broken_past h = let b : length s ≤ k = omega arith in rw (drop_of_length-le s b)

  cr_long : length (x ++ bytes "\r") ≡ length x + 1
  cr_long = length-append x (bytes "\r")

  pub broken_within : length s - k ≤ length x → (b : Bool) → b ≡ stands (take (length s - k) (drop k s)) x 0 → b ≡ breaks_off x s k
  unfolding breaks_off stands
  broken_within h b q =
      q ∙ ap (λ (l : List ℕ). stands l x 0) (rest s k)
      ∙ sym (stands_behind (drop k s) x (bytes "\r") 0 (omega (arith, length-drop k s)))

  pub broken_over : length x + 1 < length s - k → false ≡ breaks_off x s k
  unfolding breaks_off
  broken_over h = sym (begins_short (drop k s) (x ++ bytes "\r") (omega (arith, length-drop k s, cr_long)))

  module _ (h : length x < length s - k) (g : length s - k ≤ length x + 1) where
    broken_is : breaks_off x s k ≡ stands x s k && stands (bytes "\r") s (k + length x)
    unfolding breaks_off stands
    broken_is = begins_flip (drop k s) (x ++ bytes "\r") (omega (arith, length-drop k s, cr_long)) ∙ stands_append x (bytes "\r") s k

    pub broken_off : stands x s k ≡ false → false ≡ breaks_off x s k
    broken_off e = sym (broken_is ∙ rw e)

    pub broken_cr : stands x s k ≡ true → stands (bytes "\r") s (k + length x) ≡ breaks_off x s k
    broken_cr e = sym (broken_is ∙ rw e)

-- the ways out of `notice_text`
module _ (x s : List ℕ) (k : ℕ) where
  pub text_broken : breaks_off x s k ≡ true → notice.Unfinished ≡ notice_text x s k
  unfolding notice_text
  text_broken e = rw e

  module _ (u : breaks_off x s k ≡ false) where
    whole : (if stands x s k && stands crlf s (k + length x) then notice.Ended (k + length x + 2) else if stands x s k && stands (bytes ":") s (k + length x) then through (find_in crlf s (k + length x + 1)) else notice.Nothing) ≡ notice_text x s k
    unfolding notice_text
    whole = rw (u, stands_append x crlf s k, stands_append x (bytes ":") s k)

    pub text_off : stands x s k ≡ false → notice.Nothing ≡ notice_text x s k
    text_off e = rw e at whole

    module _ (w : stands x s k ≡ true) where
      behind : (if stands crlf s (k + length x) then notice.Ended (k + length x + 2) else if stands (bytes ":") s (k + length x) then through (find_in crlf s (k + length x + 1)) else notice.Nothing) ≡ notice_text x s k
      behind = rw w at whole

      pub text_bare : stands crlf s (k + length x) ≡ true → notice.Ended (k + length x + 2) ≡ notice_text x s k
      text_bare e = rw e at behind

      module _ (v : stands crlf s (k + length x) ≡ false) where
        pub text_other : stands (bytes ":") s (k + length x) ≡ false → notice.Nothing ≡ notice_text x s k
        text_other e = rw (v, e) at behind

        module _ (z : stands (bytes ":") s (k + length x) ≡ true) (r : Option ℕ) (q : r ≡ find_in crlf s (k + length x + 1)) where
          pub text_through : (p : ℕ) → r ≡ Some p → notice.Ended (p + 2) ≡ notice_text x s k
          unfolding through
          text_through p e = ap through (sym e ∙ q) ∙ (rw (v, z) at behind)

          pub text_open : r ≡ None → notice.Nothing ≡ notice_text x s k
          unfolding through
          text_open e = ap through (sym e ∙ q) ∙ (rw (v, z) at behind)

-- `notice_at`
module _ (x s : List ℕ) (p n : ℕ) (q : n ≡ line_ending s p) where
  pub notice_none : n ≡ 0 → notice.Nothing ≡ notice_at x s p
  unfolding notice_at after_ending
  notice_none e = ap (λ (k : ℕ). after_ending k x s p) (sym e ∙ q)

  pub notice_is : (n ≡ 0 → ⊥) → notice_text x s (p + n) ≡ notice_at x s p
  unfolding notice_at
  notice_is z = go n z ∙ ap (λ (k : ℕ). after_ending k x s p) q
    where
      go : (m : ℕ) → (m ≡ 0 → ⊥) → notice_text x s (p + m) ≡ after_ending m x s p
      go zero y = absurd (y refl)
      go (suc m) y = unfold after_ending in refl

-- a notice lies in the input, from its place on
ended_bounds : (x s : List ℕ) (k : ℕ) (b c : Bool) (r : Option ℕ) → stands (x ++ crlf) s k ≡ b → find_in crlf s (k + length x + 1) ≡ r → (end : ℕ) → (if b then notice.Ended (k + length x + 2) else if c then through r else notice.Nothing) ≡ notice.Ended end → (k ≤ end) × (end ≤ length s)
unfolding through
ended_bounds x s k true c r e f end h =
    let g = stands_fits (x ++ crlf) s k (omega (arith, length-append x crlf)) e in
    let q : k + length x + 2 ≡ end = cc in
    (omega arith, omega (arith, g, length-append x crlf))
ended_bounds x s k false true (Some q) e f end h =
    let w = found_at crlf s (k + length x + 1) q f in
    let g : q + 2 ≡ end = cc in
    (omega (arith, w.after), omega (arith, stands_fits crlf s q (omega arith) w.here))
ended_bounds x s k false true None e f end h = let z : ◌≡◌ {A = ℕ} 0 1 = cc in absurd (omega arith)
ended_bounds x s k false false r e f end h = let z : ◌≡◌ {A = ℕ} 0 1 = cc in absurd (omega arith)

unbroken_bounds : (x s : List ℕ) (k : ℕ) (a : Bool) (end : ℕ) → (if a then notice.Unfinished else if stands (x ++ crlf) s k then notice.Ended (k + length x + 2) else if stands (x ++ bytes ":") s k then through (find_in crlf s (k + length x + 1)) else notice.Nothing) ≡ notice.Ended end → (k ≤ end) × (end ≤ length s)
unbroken_bounds x s k true end h = let z : ◌≡◌ {A = ℕ} 0 1 = cc in absurd (omega arith)
unbroken_bounds x s k false end h = ended_bounds x s k (stands (x ++ crlf) s k) (stands (x ++ bytes ":") s k) (find_in crlf s (k + length x + 1)) refl refl end h

opened_bounds : (n : ℕ) (x s : List ℕ) (p end : ℕ) → after_ending n x s p ≡ notice.Ended end → (p ≤ end) × (end ≤ length s)
unfolding after_ending notice_text
opened_bounds zero x s p end h = let z : ◌≡◌ {A = ℕ} 0 1 = cc in absurd (omega arith)
opened_bounds (suc n) x s p end h =
    let w = unbroken_bounds x s (p + suc n) (breaks_off x s (p + suc n)) end h in
    (omega (arith, w.0), w.1)

pub notice_bounds : (x s : List ℕ) (p end : ℕ) → notice_at x s p ≡ notice.Ended end → (p ≤ end) × (end ≤ length s)
unfolding notice_at
notice_bounds x s p end h = opened_bounds (line_ending s p) x s p end h

-- a numeric error lies in the input: its digits, and behind them its line ending
abbrev pub LiesIn : List ℕ → Digits → Type 0
LiesIn s d = (d.start < d.stop) × ((d.stop < d.end) × (d.end ≤ length s))

closed_bounds : (s : List ℕ) (a v b : ℕ) (c : Bool) → (c ≡ true → (a < b) × (0 < line_ending s b)) → (d : Digits) → (if c then Some (record { code = v; start = a; stop = b; end = b + line_ending s b }) else None) ≡ Some d → LiesIn s d
closed_bounds s a v b true h d e =
    let q : d ≡ record { code = v; start = a; stop = b; end = b + line_ending s b } = cc in
    let w = h refl in
    rw q (w.0, (omega (arith, w.1), ending_fits s b w.1))
closed_bounds s a v b false h d e = let z : ◌≡◌ {A = ℕ} 0 1 = cc in absurd (omega arith)

run_bounds : (s : List ℕ) (a : ℕ) (r : Option (ℕ × ℕ)) (d : Digits) → ended_run s a r ≡ Some d → LiesIn s d
unfolding ended_run
run_bounds s a (Some (v, b)) d e =
    closed_bounds s a v b (ltb a b && ltb 0 (line_ending s b))
    (λ h. let w = and_both (ltb a b) (ltb 0 (line_ending s b)) h in (ltb-true a b w.0, ltb-true 0 (line_ending s b) w.1)) d e
run_bounds s a None d e = let z : ◌≡◌ {A = ℕ} 0 1 = cc in absurd (omega arith)

head_bounds : (h s : List ℕ) (p : ℕ) (b : Bool) (d : Digits) → (if b then tail_at s (p + length h) else None) ≡ Some d → LiesIn s d
unfolding tail_at
head_bounds h s p true d e = run_bounds s (past (is_blank blanks.Run) s (p + length h)) (digits_at s (past (is_blank blanks.Run) s (p + length h))) d e
head_bounds h s p false d e = let z : ◌≡◌ {A = ℕ} 0 1 = cc in absurd (omega arith)

pub numeric_bounds : (h s : List ℕ) (p : ℕ) (d : Digits) → numeric_at h s p ≡ Some d → LiesIn s d
unfolding numeric_at
numeric_bounds h s p d e = head_bounds h s p (stands h s p) d e

found_bounds : (h s : List ℕ) (r : Option ℕ) (d : Digits) → at_found h s r ≡ Some d → LiesIn s d
unfolding at_found
found_bounds h s (Some p) d e = numeric_bounds h s p d e
found_bounds h s None d e = let z : ◌≡◌ {A = ℕ} 0 1 = cc in absurd (omega arith)

pub error_bounds : (h s : List ℕ) (e : ℕ) (d : Digits) → numeric_error h s e ≡ Some d → LiesIn s d
unfolding numeric_error
error_bounds h s e d q = found_bounds h s (find_in h s e) d q
