-- A code under the empty table: every one up to 65,535 is read back (`cme_back`, `cms_back`).
-- Rests on the digits' being no byte of any other line, so that the head's first occurrence is where the input begins and decides; the head itself is by computation.
use Rattle.std.specs.Prelude.{Some, None, ◌≡◌, ◌⊎◌, true, List, [], ◌∷◌, ◌++◌, ℕ, zero, suc, ◌+◌, ◌-◌, ◌^◌, ◌≤◌, ◌<◌, get_or, take, drop}
use Rattle.std.proofs.Math.Path.{refl, ap}
use Rattle.std.proofs.Common.{sym, ◌∙◌, inl, inr, ⊎_elim, length-append, drop-drop, take_at, get_or-drop, get_or-append-add, eq-eqb}
use native.Mathlib.Omega.{arith}
use Rattle.std.proofs.Math.ListN.{length, get_or-append}
use Rattle.std.proofs.Math.Seq.{drop-append_seam}
use Rattle.text.specs.Bytes.{bytes}
use Rattle.text.specs.Logic.{not_true_false, order}
use Rattle.text.specs.Text.{is_blank, past, begins, stands, find_in, part_of}
use Rattle.text.specs.Laws.{find_is, stands_get_d, part_is}
use Rattle.text.specs.declared.Blanks.TheVariants as sets
use Rattle.text.specs.declared.Span.{Span}
use Rattle.table.specs.Table.{of_mark}
use Rattle.lines.specs.Lines.{crlf, fixed_text}
use Rattle.lines.specs.declared.Digester.TheVariants.{Verbose}
use Rattle.lines.specs.declared.Fixed.TheVariants as fixed
use Rattle.parser.specs.Parser.{line_ending, is_digit, value, prompt_from, numeric_at, numeric_error}
use Rattle.parser.specs.Laws.{ending_crlf, digit_bounds}
use Rattle.ink.specs.Ink.{decimal}
use Rattle.ink.specs.Laws.{decimal_length}
use Rattle.answers.specs.Answer.{has_number, kind_found, is_found, with_digits}
use Rattle.answers.specs.declared.Kind.{Kind}
use Rattle.answers.specs.declared.Kind.TheVariants as kind
use Rattle.answers.specs.declared.Answer.{Answer}
use Rattle.items.specs.Rules.{skipped, numeric_errors, tried}
use Rattle.digest.specs.Position.{numeric_is}
use Rattle.digest.specs.Finished.{All, NumericEnded}
use Rattle.writer.specs.Writer.{written, gives}
use Rattle.sayable.specs.Empty.{heard_of, HeardBack, done_heard}
use Rattle.sayable.specs.Decimal.{decimal_digits, decimal_some, decimal_value, decimal_read}

crlf_low : (j : ℕ) → get_or crlf j 0 ≤ 13
crlf_low zero = omega arith
crlf_low (suc zero) = omega arith
crlf_low (suc (suc j)) = omega arith

-- what is written: the head h, a space, the digits of n, CRLF
module _ (h : List ℕ) (n : ℕ) where
  abbrev text : List ℕ
  text = h ++ (32 ∷ (decimal n ++ crlf))

  text_length : length text ≡ length h + 1 + length (decimal n) + 2
  text_length = omega (arith, length-append h (32 ∷ (decimal n ++ crlf)), length-append (decimal n) crlf)

  code_behind : drop (length h + 1) text ≡ decimal n ++ crlf
  code_behind = sym (drop-drop 1 (length h) text) ∙ ap (drop 1) (drop-append_seam h (32 ∷ (decimal n ++ crlf)))

  end_behind : drop (length h + 1 + length (decimal n)) text ≡ crlf
  end_behind = sym (drop-drop (length (decimal n)) (length h + 1) text) ∙ ap (drop (length (decimal n))) code_behind ∙ drop-append_seam (decimal n) crlf

  byte_behind : (j : ℕ) → get_or text (length h + 1 + j) 0 ≡ get_or (decimal n ++ crlf) j 0
  byte_behind j = sym (get_or-drop (length h + 1) text j 0) ∙ ap (λ (l : List ℕ). get_or l j 0) code_behind

  -- a byte behind the head and the space is a digit or of the line's end
  byte_bounds : (j : ℕ) → (get_or (decimal n ++ crlf) j 0 ≤ 13) ⊎ ((48 ≤ get_or (decimal n ++ crlf) j 0) × (get_or (decimal n ++ crlf) j 0 ≤ 57))
  byte_bounds j =
      ⊎_elim
      (λ (q : j < length (decimal n)). inr (digit_bounds (get_or (decimal n ++ crlf) j 0) (ap is_digit (get_or-append (decimal n) crlf 0 j q) ∙ decimal_digits n j (omega arith) q)))
      (λ (q : length (decimal n) ≤ j).
      let z : length (decimal n) + (j - length (decimal n)) ≡ j = omega arith in
      let e : get_or (decimal n ++ crlf) j 0 ≡ get_or crlf (j - length (decimal n)) 0 = ap (λ (k : ℕ). get_or (decimal n ++ crlf) k 0) (sym z) ∙ get_or-append-add (decimal n) crlf (j - length (decimal n)) 0 in
      inl (omega (arith, crlf_low (j - length (decimal n)))))
      (order j (length (decimal n)))

  -- so a text with another byte stands nowhere from there on
  absent : (t : List ℕ) (j : ℕ) → j < length t → ((13 < get_or t j 0) × (get_or t j 0 < 48)) ⊎ (57 < get_or t j 0) → find_in t text (length h + 1) ≡ None
  absent t j l c =
      find_is t text (length h + 1) None (λ m g. not_true_false (stands t text m) (λ p.
      let i = m + j - (length h + 1) in
      let z : m + j ≡ length h + 1 + i = omega arith in
      let e : get_or (decimal n ++ crlf) i 0 ≡ get_or t j 0 = sym (byte_behind i) ∙ ap (λ (k : ℕ). get_or text k 0) (sym z) ∙ stands_get_d t text m j p l in
      ⊎_elim
      (λ (b : get_or (decimal n ++ crlf) i 0 ≤ 13). ⊎_elim (λ (a : (13 < get_or t j 0) × (get_or t j 0 < 48)). omega (arith, a.0)) (λ (a : 57 < get_or t j 0). omega arith) c)
      (λ (b : (48 ≤ get_or (decimal n ++ crlf) i 0) × (get_or (decimal n ++ crlf) i 0 ≤ 57)). ⊎_elim (λ (a : (13 < get_or t j 0) × (get_or t j 0 < 48)). omega (arith, a.1, b.0)) (λ (a : 57 < get_or t j 0). omega (arith, b.1)) c)
      (byte_bounds i)))

  -- rule 5's numeric error, where the head stands at the front
  module _ (head : stands h text 0 ≡ true) (small : n ≤ 65535) where
    below : n < 10 ^ 20
    below = omega arith

    space_blank : All (is_blank sets.Run) text (length h) (length h + 1)
    unfolding is_blank
    space_blank j l g =
        let z : j ≡ length h + 0 = omega arith in
        ap (λ (k : ℕ). is_blank sets.Run (get_or text k 0)) z ∙ ap (is_blank sets.Run) (get_or-append-add h (32 ∷ (decimal n ++ crlf)) 0 0)

    code_digits : All is_digit text (length h + 1) (length h + 1 + length (decimal n))
    code_digits j l g =
        let i = j - (length h + 1) in
        let z : j ≡ length h + 1 + i = omega arith in
        ap is_digit (ap (λ (k : ℕ). get_or text k 0) z ∙ byte_behind i ∙ get_or-append (decimal n) crlf 0 i (omega arith)) ∙ decimal_digits n i (omega arith) (omega arith)

    code_ends : 2 ≡ line_ending text (length h + 1 + length (decimal n))
    unfolding stands
    code_ends =
        ending_crlf text (length h + 1 + length (decimal n)) (ap (begins (bytes "\n")) end_behind) (ap (begins crlf) end_behind)

    code_ended : NumericEnded h text (length text)
    code_ended =
        let e : length h + 1 + length (decimal n) - (length h + 1) ≡ length (decimal n) = omega arith in
        let v : take (length h + 1 + length (decimal n) - (length h + 1)) (drop (length h + 1) text) ≡ decimal n = ap (take (length h + 1 + length (decimal n) - (length h + 1))) code_behind ∙ take_at (decimal n) crlf _ (sym e) in
        record {
          a = length h + 1;
          b = length h + 1 + length (decimal n);
          head = head;
          spaces = (omega arith, space_blank);
          digits = (omega (arith, decimal_some n), code_digits);
          small = rw (v, decimal_value n below) small;
          ended = (omega (arith, code_ends), omega (arith, code_ends, text_length));
        }

    code_read : numeric_at h text 0 ≡ Some (record { code = n; start = length h + 1; stop = length h + 1 + length (decimal n); end = length text })
    unfolding code_ended
    code_read =
        numeric_is h text (length text) code_ended
        ∙ ap (λ (c : ℕ). Some (record { code = c; start = length h + 1; stop = length h + 1 + length (decimal n); end = length text })) (ap (value 0) code_behind ∙ decimal_read n below)

-- Rules 1 to 4 pass over a code; what rule 5's numeric errors give is the answer.
record Passed (s : List ℕ) : Type 0 where
  skips : skipped s ≡ 0
  ok : find_in (fixed_text fixed.Ok) s 0 ≡ None
  connect : find_in (fixed_text fixed.Connect) s 0 ≡ None
  greater : find_in (bytes ">") s 0 ≡ None
  sign : find_in (bytes "@") s 0 ≡ None

passed_tried : (s : List ℕ) → Passed s → (a : Answer) → numeric_errors s 0 ≡ Some a → tried Verbose [] s 0 ≡ Some a
unfolding tried of_mark prompt_from
passed_tried s w a e = rw (w.ok, w.connect, w.greater, w.sign, e)

module _ (n : ℕ) where
  cme_passed : Passed (text (fixed_text fixed.Cme) n)
  unfolding skipped past is_blank find_in
  cme_passed =
      record {
        skips = refl;
        ok = absent (fixed_text fixed.Cme) n (fixed_text fixed.Ok) 2 (omega arith) (inr (omega arith));
        connect = absent (fixed_text fixed.Cme) n (fixed_text fixed.Connect) 2 (omega arith) (inr (omega arith));
        greater = absent (fixed_text fixed.Cme) n (bytes ">") 0 (omega arith) (inr (omega arith));
        sign = absent (fixed_text fixed.Cme) n (bytes "@") 0 (omega arith) (inr (omega arith));
      }

  cms_passed : Passed (text (fixed_text fixed.Cms) n)
  unfolding skipped past is_blank find_in
  cms_passed =
      record {
        skips = refl;
        ok = absent (fixed_text fixed.Cms) n (fixed_text fixed.Ok) 2 (omega arith) (inr (omega arith));
        connect = absent (fixed_text fixed.Cms) n (fixed_text fixed.Connect) 2 (omega arith) (inr (omega arith));
        greater = absent (fixed_text fixed.Cms) n (bytes ">") 0 (omega arith) (inr (omega arith));
        sign = absent (fixed_text fixed.Cms) n (bytes "@") 0 (omega arith) (inr (omega arith));
      }

  no_cme : find_in (fixed_text fixed.Cme) (text (fixed_text fixed.Cms) n) 0 ≡ None
  unfolding find_in
  no_cme = absent (fixed_text fixed.Cms) n (fixed_text fixed.Cme) 2 (omega arith) (inl (omega arith, omega arith))

-- a kind with a number that is heard as such is read back
code_back : (k : Kind) (n : ℕ) (q : Span) → kind_found k ≡ true → has_number k ≡ true → length (written k (Some n) []) ≤ 4096 → heard_of k (Some n) [] ≡ with_digits k n q (length (written k (Some n) [])) → HeardBack k (Some n) []
unfolding gives
code_back k n q f h l e =
    let s = written k (Some n) [] in
    record {
      short = l;
      found = ap is_found e ∙ f;
      kind = ap (λ (a : Answer). a.kind) e;
      number = ap (gives (Some n)) e ∙ rw (h, eq-eqb n n refl);
      payload = part_is s 0 0 (omega arith) ∙ ap (λ (a : Answer). part_of s a.payload.start a.payload.len) (sym e);
      whole = ap (λ (a : Answer). a.consumed) e;
    }

module _ (n : ℕ) (small : n ≤ 65535) where
  abbrev digits : Span
  digits = record { start = 14; len = 14 + length (decimal n) - 14 }

  cme_errors : numeric_errors (text (fixed_text fixed.Cme) n) 0 ≡ Some (with_digits kind.Cme n digits (length (text (fixed_text fixed.Cme) n)))
  unfolding numeric_errors numeric_error find_in stands
  cme_errors = rw (code_read (fixed_text fixed.Cme) n refl small)

  cms_errors : numeric_errors (text (fixed_text fixed.Cms) n) 0 ≡ Some (with_digits kind.Cms n digits (length (text (fixed_text fixed.Cms) n)))
  unfolding numeric_errors numeric_error find_in stands
  cms_errors = rw (no_cme n, code_read (fixed_text fixed.Cms) n refl small)

  pub cme_back : HeardBack kind.Cme (Some n) []
  unfolding written
  cme_back = code_back kind.Cme n digits refl refl (omega (arith, text_length (fixed_text fixed.Cme) n, decimal_length n)) (done_heard (text (fixed_text fixed.Cme) n) (cme_passed n).skips _ (passed_tried (text (fixed_text fixed.Cme) n) (cme_passed n) _ cme_errors))

  pub cms_back : HeardBack kind.Cms (Some n) []
  unfolding written
  cms_back = code_back kind.Cms n digits refl refl (omega (arith, text_length (fixed_text fixed.Cms) n, decimal_length n)) (done_heard (text (fixed_text fixed.Cms) n) (cms_passed n).skips _ (passed_tried (text (fixed_text fixed.Cms) n) (cms_passed n) _ cms_errors))
