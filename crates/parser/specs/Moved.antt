-- The parser's definitions don't see what stands before the place: at d + p of s they say what they say at p of the suffix from d on, moved by d.
use Rattle.std.specs.Prelude.{Option, Some, None, ◌≡◌, Bool, true, false, ◌&&◌, List, [], ◌∷◌, ◌++◌, ℕ, zero, suc, ◌+◌, ◌-◌, ◌≤◌, ◌<◌, length, drop, leb, ltb, if◌then◌else◌}
use Rattle.std.proofs.Math.Path.{refl}
use Rattle.std.proofs.Common.{sym, ap, ◌∙◌, ⊎_elim, add-zero, arith, length-drop, drop-drop, lt-ltb, le-ltb}
use Rattle.text.specs.Bytes.{bytes}
use Rattle.text.specs.Logic.{order, leb_shift}
use Rattle.text.specs.Text.{is_blank, past, keep, stands, find_in}
use Rattle.text.specs.Laws.{find_drop, moved, stands_drop, past_drop}
use Rattle.text.specs.declared.Blanks.TheVariants as blanks
use Rattle.lines.specs.Lines.{crlf}
use Rattle.parser.specs.Parser.{only_blanks, prompt_from, custom_prompt, is_digit, value, run_at, digits_at, ended_run, tail_at, numeric_at, line_ending, breaks_off, through, notice_text, after_ending, notice_at}
use Rattle.parser.specs.declared.Digits.{Digits}
use Rattle.parser.specs.declared.Notice.{Notice}
use Rattle.parser.specs.declared.Notice.TheVariants as notice

pub ending_moved : (s : List ℕ) (d p : ℕ) → line_ending (drop d s) p ≡ line_ending s (d + p)
unfolding line_ending
ending_moved s d p = rw (stands_drop (bytes "\n") s d p, stands_drop crlf s d p)

broken_moved : (x s : List ℕ) (d k : ℕ) → breaks_off x (drop d s) k ≡ breaks_off x s (d + k)
unfolding breaks_off
broken_moved x s d k = rw drop-drop

unfoldable pub shift_notice : ℕ → Notice → Notice
shift_notice d (notice.Ended n) = notice.Ended (d + n)
shift_notice d notice.Unfinished = notice.Unfinished
shift_notice d notice.Nothing = notice.Nothing

through_moved : (d : ℕ) (r : Option ℕ) → through (moved d r) ≡ shift_notice d (through r)
unfolding through moved shift_notice
through_moved d (Some q) = let e : d + q + 2 ≡ d + (q + 2) = omega arith in ap notice.Ended e
through_moved d None = refl

colon_moved : (d : ℕ) (b : Bool) (r : Notice) → (if b then shift_notice d r else notice.Nothing) ≡ shift_notice d (if b then r else notice.Nothing)
unfolding shift_notice
colon_moved d true r = refl
colon_moved d false r = refl

bare_moved : (d : ℕ) (b : Bool) (n : ℕ) (r : Notice) → (if b then notice.Ended (d + n) else shift_notice d r) ≡ shift_notice d (if b then notice.Ended n else r)
unfolding shift_notice
bare_moved d true n r = refl
bare_moved d false n r = refl

unbroken_moved : (d : ℕ) (b : Bool) (r : Notice) → (if b then notice.Unfinished else shift_notice d r) ≡ shift_notice d (if b then notice.Unfinished else r)
unfolding shift_notice
unbroken_moved d true r = refl
unbroken_moved d false r = refl

text_moved : (x s : List ℕ) (d k : ℕ) → notice_text x s (d + k) ≡ shift_notice d (notice_text x (drop d s) k)
unfolding notice_text
text_moved x s d k =
    let a : d + k + length x + 2 ≡ d + (k + length x + 2) = omega arith in
    let b : d + k + length x + 1 ≡ d + (k + length x + 1) = omega arith in
    let f : find_in crlf s (d + k + length x + 1) ≡ moved d (find_in crlf (drop d s) (k + length x + 1)) = ap (find_in crlf s) b ∙ find_drop crlf s d (k + length x + 1) in
    rw (a, f, ← broken_moved x s d k, ← stands_drop (x ++ crlf) s d k, ← stands_drop (x ++ bytes ":") s d k, through_moved, colon_moved, bare_moved, unbroken_moved)

after_moved : (n : ℕ) (x s : List ℕ) (d : ℕ) → after_ending n x s d ≡ shift_notice d (after_ending n x (drop d s) 0)
unfolding after_ending
after_moved zero x s d = unfold shift_notice in refl
after_moved (suc n) x s d = let e : d + suc n ≡ d + (0 + suc n) = omega arith in ap (notice_text x s) e ∙ text_moved x s d (0 + suc n)

pub notice_moved : (x s : List ℕ) (d : ℕ) → notice_at x s d ≡ shift_notice d (notice_at x (drop d s) 0)
unfolding notice_at
notice_moved x s d =
    let e : line_ending s d ≡ line_ending (drop d s) 0 = ap (line_ending s) (sym (add-zero d)) ∙ sym (ending_moved s d 0) in
    ap (λ (n : ℕ). after_ending n x s d) e ∙ after_moved (line_ending (drop d s) 0) x s d

prompt_found : (s : List ℕ) (d : ℕ) (r : Option ℕ) → d ≤ length s → only_blanks s (moved d r) ≡ only_blanks (drop d s) r
unfolding only_blanks moved
prompt_found s d (Some q) h =
    let e : d + q + 1 ≡ d + (q + 1) = omega arith in
    rw (e, past_drop (is_blank blanks.Run) s d (q + 1), length-drop d s) (leb_shift (length s) d (past (is_blank blanks.Run) (drop d s) (q + 1)) h)
prompt_found s d None h = refl

pub prompt_moved : (c : ℕ) (s : List ℕ) (d : ℕ) → d ≤ length s → prompt_from c s d ≡ prompt_from c (drop d s) 0
unfolding prompt_from
prompt_moved c s d h =
    let f : find_in (c ∷ []) s d ≡ moved d (find_in (c ∷ []) (drop d s) 0) = ap (find_in (c ∷ []) s) (sym (add-zero d)) ∙ find_drop (c ∷ []) s d 0 in
    ap (only_blanks s) f ∙ prompt_found s d (find_in (c ∷ []) (drop d s) 0) h

pub custom_moved : (x s : List ℕ) (d : ℕ) → custom_prompt x s d ≡ custom_prompt x (drop d s) 0
unfolding custom_prompt
custom_moved x s d =
    let n = keep (is_blank blanks.Run) (drop d s) in
    ap (λ (b : Bool). leb (length x) n && b)
    (sym (stands_drop x s d (n - length x)) ∙ let e : n - length x ≡ 0 + (n - length x) = omega arith in ap (stands x (drop d s)) e)

-- numeric errors
unfoldable pub shift_numeric : ℕ → Option Digits → Option Digits
shift_numeric d (Some x) = Some (record { code = x.code; start = d + x.start; stop = d + x.stop; end = d + x.end })
shift_numeric d None = None

unfoldable shift_run : ℕ → Option (ℕ × ℕ) → Option (ℕ × ℕ)
shift_run d (Some (v, b)) = Some (v, (d + b))
shift_run d None = None

ltb_shift : (d a b : ℕ) → ltb (d + a) (d + b) ≡ ltb a b
ltb_shift d a b =
    ⊎_elim
    (λ (q : a < b). lt-ltb (d + a) (d + b) (omega arith) ∙ sym (lt-ltb a b q))
    (λ (q : b ≤ a). le-ltb (d + a) (d + b) (omega arith) ∙ sym (le-ltb a b q))
    (order a b)

ended_moved : (d : ℕ) (c : Bool) (x y : Digits) → x ≡ record { code = y.code; start = d + y.start; stop = d + y.stop; end = d + y.end } → (if c then Some x else None) ≡ shift_numeric d (if c then Some y else None)
unfolding shift_numeric
ended_moved d true x y e = ap Some e
ended_moved d false x y e = refl

run_moved : (s : List ℕ) (d a : ℕ) (r : Option (ℕ × ℕ)) → ended_run s (d + a) (shift_run d r) ≡ shift_numeric d (ended_run (drop d s) a r)
unfolding ended_run shift_run
run_moved s d a (Some (v, b)) =
    let n = line_ending (drop d s) b in
    let e : d + b + n ≡ d + (b + n) = omega arith in
    rw (sym (ending_moved s d b), ltb_shift d a b)
    (ended_moved d (ltb a b && ltb 0 n) (record { code = v; start = d + a; stop = d + b; end = d + b + n }) (record { code = v; start = a; stop = b; end = b + n }) (λ i. record { code = v; start = d + a; stop = d + b; end = e i }))
run_moved s d a None = unfold shift_numeric in refl

most_moved : (d : ℕ) (c : Bool) (v b : ℕ) → (if c then Some (v, (d + b)) else None) ≡ shift_run d (if c then Some (v, b) else None)
unfolding shift_run
most_moved d true v b = refl
most_moved d false v b = refl

digits_moved : (s : List ℕ) (d a : ℕ) → digits_at s (d + a) ≡ shift_run d (digits_at (drop d s) a)
unfolding run_at
digits_moved s d a = rw (drop-drop a d s, past_drop is_digit s d a) (most_moved d (leb (value 0 (drop (d + a) s)) 65535) (value 0 (drop (d + a) s)) (past is_digit (drop d s) a))

tail_moved : (s : List ℕ) (d p : ℕ) → tail_at s (d + p) ≡ shift_numeric d (tail_at (drop d s) p)
unfolding tail_at
tail_moved s d p =
    let a = past (is_blank blanks.Run) (drop d s) p in
    rw (past_drop (is_blank blanks.Run) s d p, digits_moved s d a) (run_moved s d a (digits_at (drop d s) a))

head_moved : (d : ℕ) (b : Bool) (r : Option Digits) → (if b then shift_numeric d r else None) ≡ shift_numeric d (if b then r else None)
unfolding shift_numeric
head_moved d true r = refl
head_moved d false r = refl

pub numeric_moved_on : (h s : List ℕ) (d p : ℕ) → numeric_at h s (d + p) ≡ shift_numeric d (numeric_at h (drop d s) p)
unfolding numeric_at
numeric_moved_on h s d p =
    let e : d + p + length h ≡ d + (p + length h) = omega arith in
    rw (e, tail_moved s d (p + length h), ← stands_drop h s d p) (head_moved d (stands h (drop d s) p) (tail_at (drop d s) (p + length h)))

pub numeric_moved : (h s : List ℕ) (d : ℕ) → numeric_at h s d ≡ shift_numeric d (numeric_at h (drop d s) 0)
numeric_moved h s d = ap (numeric_at h s) (sym (add-zero d)) ∙ numeric_moved_on h s d 0
