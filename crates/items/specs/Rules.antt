-- Rules 1 to 5 of one digest, in document 01's order. They compute.
-- The input is s; `buf` is what stands from the place e on, so a place in `buf` is a place of s at or after e.
use Rattle.std.specs.Prelude.{Option, Some, None, Bool, ◌&&◌, List, [], ◌∷◌, ℕ, ◌+◌, ◌-◌, length, if◌then◌else◌}
use Rattle.text.specs.Text.{is_blank, past, trimmed_part, stands, find_in}
use Rattle.text.specs.declared.Blanks.TheVariants as blanks
use Rattle.table.specs.Table.{Token, Entry, of_mark}
use Rattle.table.specs.declared.Mark.TheVariants as mark
use Rattle.lines.specs.Lines.{hears_text, crlf, fixed_text, connect_place}
use Rattle.lines.specs.declared.Digester.{Digester}
use Rattle.lines.specs.declared.Fixed.{Fixed}
use Rattle.lines.specs.declared.Fixed.TheVariants as fixed
use Rattle.parser.specs.Parser.{numeric_error, prompt_from, custom_prompt, wrapped, notice_at}
use Rattle.parser.specs.declared.Digits.{Digits}
use Rattle.parser.specs.declared.Notice.{Notice}
use Rattle.parser.specs.declared.Notice.TheVariants as notice
use Rattle.answers.specs.declared.Kind.{Kind}
use Rattle.answers.specs.declared.Kind.TheVariants as kind
use Rattle.answers.specs.declared.Answer.{Answer}
use Rattle.answers.specs.Answer.{bare, nothing, with_number, with_digits, with_payload, with_text}
use Rattle.items.specs.declared.Occurrence.{Occurrence}

-- the first of the two that answers
unfoldable pub or_else : Option Answer → Option Answer → Option Answer
or_else (Some a) r = Some a
or_else None r = r

-- the first text of a list for which the rule f answers
unfoldable pub first_of : (Fixed → Option Answer) → List Fixed → Option Answer
unfolding or_else
first_of f [] = None
first_of f (l ∷ ls) = or_else (f l) (first_of f ls)

-- Rule 1. Skip leading spaces (0x20 only). If what remains contains CRLF, skip to the first one. What was skipped is e bytes.
unfoldable pub found_or : Option ℕ → ℕ → ℕ
found_or (Some k) a = k
found_or None a = a

unfoldable pub skipped : List ℕ → ℕ
unfolding found_or
skipped s = let a = past (is_blank blanks.Space) s 0 in found_or (find_in crlf s a) a

-- Rule 2. The payload is the line, trimmed. An unfinished notice: the answer at once is None, e.
unfoldable pub heard : Notice → ℕ → List ℕ → ℕ → Option Answer
heard (notice.Ended end) n s e = Some (with_payload kind.Notice n (trimmed_part s e end) end)
heard notice.Unfinished n s e = Some (nothing e)
heard notice.Nothing n s e = None

-- Notices, in table order.
unfoldable pub notices : List Entry → List ℕ → ℕ → Option Answer
unfolding or_else heard
notices [] s e = None
notices (x ∷ l) s e = or_else (heard (notice_at x.text s e) x.number s e) (notices l s e)

-- the first record whose CRLF text CRLF occurs in buf: its number, its text's length and the first occurrence's place
unfoldable pub occurs_or : Option ℕ → Entry → Option Occurrence → Option Occurrence
occurs_or (Some k) x r = Some (record { number = x.number; len = length x.text; place = k })
occurs_or None x r = r

unfoldable pub first_custom : List Entry → List ℕ → ℕ → Option Occurrence
unfolding occurs_or
first_custom [] s e = None
first_custom (x ∷ l) s e = occurs_or (find_in (wrapped x.text) s e) x (first_custom l s e)

-- the kind that each fixed line of rules 3 and 5, and each head, stands for
abbrev pub kind_of : Fixed → Kind
kind_of fixed.Ok = kind.Ok
kind_of fixed.Connect = kind.Ok
kind_of fixed.Error = kind.Error
kind_of fixed.CommandNotSupport = kind.Error
kind_of fixed.NoCarrier = kind.NoCarrier
kind_of fixed.Busy = kind.Busy
kind_of fixed.NoAnswer = kind.NoAnswer
kind_of fixed.NoDialtone = kind.NoDialtone
kind_of fixed.Na = kind.NotAllowed
kind_of fixed.Cme = kind.Cme
kind_of fixed.Cms = kind.Cms
kind_of fixed.Modem = kind.Unknown
kind_of fixed.ConnectText = kind.Ok

-- Rule 3. Payload: the bytes of buf before the line, trimmed. Consumed: through its end.
unfoldable pub success : List ℕ → ℕ → ℕ → ℕ → Option Answer
success s e k end = Some (with_payload kind.Ok 0 (trimmed_part s e k) end)

-- CRLF, the text and CRLF are four bytes more than the text.
unfoldable pub custom_success : Option Occurrence → List ℕ → ℕ → Option Answer
unfolding success
custom_success (Some o) s e = success s e o.place (o.place + (o.len + 4))
custom_success None s e = None

unfoldable pub line_success : List ℕ → ℕ → Fixed → Option ℕ → Option Answer
unfolding success
line_success s e l (Some k) = success s e k (k + length (fixed_text l))
line_success s e l None = None

-- R-3. What a CONNECT line is, at k: CRLF, `CONNECT`, then CRLF; or, for a digester that hears it, a space and everything through the next CRLF. Where it ends, if it stands there.
unfoldable pub through_crlf : Option ℕ → Option ℕ
through_crlf (Some q) = Some (q + 2)
through_crlf None = None

unfoldable pub connect_at : Digester → List ℕ → ℕ → Option ℕ
unfolding through_crlf
connect_at d s k =
    if stands (fixed_text fixed.Connect) s k then Some (k + 11)
    else if hears_text d && stands (fixed_text fixed.ConnectText) s k then through_crlf (find_in crlf s (k + 10))
    else None

-- The first occurrence counts: the least place of either line.
unfoldable pub first_connect : Digester → List ℕ → ℕ → Option ℕ
unfolding connect_place
first_connect d s e = connect_place d (λ l. find_in (fixed_text l) s e)

-- An Ok by the CONNECT line at k that ends at `end`. The text is what stands from the space's end to the last CRLF; in the bare line there is none.
unfoldable pub connected : List ℕ → ℕ → ℕ → Option ℕ → Option Answer
connected s e k (Some end) = Some (with_text (trimmed_part s e k) (record { start = k + 10; len = end - (k + 12) }) end)
connected s e k None = None

unfoldable pub connect_success : Digester → List ℕ → ℕ → Option ℕ → Option Answer
unfolding connect_at connected
connect_success d s e (Some k) = connected s e k (connect_at d s k)
connect_success d s e None = None

-- The first CS record that occurs; then OK, else CONNECT.
unfoldable pub successes : Digester → List Entry → List ℕ → ℕ → Option Answer
unfolding or_else custom_success line_success first_custom connect_success first_connect
successes d l s e =
    or_else (custom_success (first_custom l s e) s e)
    (or_else (line_success s e fixed.Ok (find_in (fixed_text fixed.Ok) s e)) (connect_success d s e (first_connect d s e)))

-- Rule 4. A prompt, where the test holds; it consumes all.
unfoldable pub prompt_tried : Bool → ℕ → List ℕ → Option Answer
prompt_tried b c s = if b then Some (with_number kind.Prompt c (length s)) else None

unfoldable pub custom_prompts : List Entry → List ℕ → ℕ → Option Answer
unfolding or_else prompt_tried
custom_prompts [] s e = None
custom_prompts (x ∷ l) s e = or_else (prompt_tried (custom_prompt x.text s e) x.prompt s) (custom_prompts l s e)

-- Custom prompts in table order, then `>`, then `@`.
unfoldable pub prompts : List Entry → List ℕ → ℕ → Option Answer
unfolding or_else custom_prompts prompt_tried
prompts l s e = or_else (custom_prompts l s e) (or_else (prompt_tried (prompt_from 62 s e) 62 s) (prompt_tried (prompt_from 64 s e) 64 s))

-- Rule 5. A custom error's payload is the text itself.
unfoldable pub custom_error : Option Occurrence → Option Answer
custom_error (Some o) = Some (with_payload kind.Custom o.number (record { start = o.place + 2; len = o.len }) (o.place + (o.len + 4)))
custom_error None = None

-- CME, CMS, MODEM ERROR: through the end of the numeric error, with its digits as they came (R-2)
abbrev pub heads : List Fixed
heads = fixed.Cme ∷ fixed.Cms ∷ fixed.Modem ∷ []

unfoldable pub numeric_tried : Fixed → Option Digits → Option Answer
numeric_tried h (Some d) = Some (with_digits (kind_of h) d.code (record { start = d.start; len = d.stop - d.start }) d.end)
numeric_tried h None = None

unfoldable pub numeric_errors : List ℕ → ℕ → Option Answer
unfolding first_of numeric_tried
numeric_errors s e = first_of (λ h. numeric_tried h (numeric_error (fixed_text h) s e)) heads

-- the other lines, in their order: through the line's end
abbrev pub error_lines : List Fixed
error_lines = fixed.Error ∷ fixed.CommandNotSupport ∷ fixed.NoCarrier ∷ fixed.Busy ∷ fixed.NoAnswer ∷ fixed.NoDialtone ∷ []

unfoldable pub line_tried : Fixed → Option ℕ → Option Answer
line_tried l (Some p) = Some (bare (kind_of l) (p + length (fixed_text l)))
line_tried l None = None

unfoldable pub line_errors : List ℕ → ℕ → Option Answer
unfolding first_of line_tried
line_errors s e = first_of (λ l. line_tried l (find_in (fixed_text l) s e)) error_lines

-- NA at the head of buf only
unfoldable pub not_allowed : List ℕ → ℕ → Option Answer
not_allowed s e = if stands (fixed_text fixed.Na) s e then Some (bare (kind_of fixed.Na) (e + length (fixed_text fixed.Na))) else None

-- Custom error as in 3. Then the first that matches of these.
unfoldable pub errors : List Entry → List ℕ → ℕ → Option Answer
unfolding or_else custom_error first_custom numeric_errors line_errors not_allowed
errors l s e = or_else (custom_error (first_custom l s e)) (or_else (numeric_errors s e) (or_else (line_errors s e) (not_allowed s e)))

-- rules 2 to 5 in their order, each on the records with its mark
unfoldable pub tried : Digester → List Token → List ℕ → ℕ → Option Answer
unfolding or_else notices successes prompts errors
tried d ts s e =
    or_else (notices (of_mark mark.Notice 0 ts) s e)
    (or_else (successes d (of_mark mark.Success 0 ts) s e)
    (or_else (prompts (of_mark mark.Prompt 0 ts) s e) (errors (of_mark mark.Error 0 ts) s e)))
