-- What may stand at a place of the input, in the words of document 01's rules 2 to 5.
use Rattle.std.specs.Prelude.{Option, Some, None, Bool, false, ◌&&◌, List, [], ◌∷◌, ◌++◌, ℕ, zero, suc, ◌+◌, ◌*◌, ◌-◌, length, drop, leb, ltb, if◌then◌else◌}
use Rattle.text.specs.Bytes.{bytes}
use Rattle.text.specs.Text.{is_blank, past, keep, begins, stands, find_in}
use Rattle.text.specs.declared.Blanks.TheVariants as blanks
use Rattle.lines.specs.Lines.{crlf}
use Rattle.parser.specs.declared.Digits.{Digits}
use Rattle.parser.specs.declared.Notice.{Notice}
use Rattle.parser.specs.declared.Notice.TheVariants as notice

-- LF or CRLF: how long the line ending at the place p is, 0 for none
unfoldable pub line_ending : List ℕ → ℕ → ℕ
line_ending s p = if stands (bytes "\n") s p then 1 else if stands crlf s p then 2 else 0

-- rule 2: the input ends before or inside the text, right after it, or after it and one CR
unfoldable pub breaks_off : List ℕ → List ℕ → ℕ → Bool
unfolding begins
breaks_off x s k = begins (drop k s) (x ++ bytes "\r")

unfoldable pub through : Option ℕ → Notice
through (Some q) = notice.Ended (q + 2)
through None = notice.Nothing

-- rule 2: the text from k on, then either CRLF, or `:` and everything through the next CRLF
unfoldable pub notice_text : List ℕ → List ℕ → ℕ → Notice
unfolding through breaks_off
notice_text x s k =
    let e = k + length x in
    if breaks_off x s k then notice.Unfinished
    else if stands (x ++ crlf) s k then notice.Ended (e + 2)
    else if stands (x ++ bytes ":") s k then through (find_in crlf s (e + 1))
    else notice.Nothing

unfoldable pub after_ending : ℕ → List ℕ → List ℕ → ℕ → Notice
unfolding notice_text
after_ending zero x s p = notice.Nothing
after_ending (suc n) x s p = notice_text x s (p + suc n)

-- rule 2: CRLF (or one LF), then the text
unfoldable pub notice_at : List ℕ → List ℕ → ℕ → Notice
unfolding after_ending line_ending
notice_at x s p = after_ending (line_ending s p) x s p

-- rules 3 and 5: CRLF text CRLF
abbrev pub wrapped : List ℕ → List ℕ
wrapped x = crlf ++ (x ++ crlf)

-- rule 4: what stands from e on, without trailing run blanks, ends in the text x
unfoldable pub custom_prompt : List ℕ → List ℕ → ℕ → Bool
custom_prompt x s e = let n = keep (is_blank blanks.Run) (drop e s) in leb (length x) n && stands x s (e + (n - length x))

unfoldable pub only_blanks : List ℕ → Option ℕ → Bool
only_blanks s (Some p) = leb (length s) (past (is_blank blanks.Run) s (p + 1))
only_blanks s None = false

-- rule 4: the first such byte must have only run blanks after it
unfoldable pub prompt_from : ℕ → List ℕ → ℕ → Bool
unfolding only_blanks
prompt_from b s e = only_blanks s (find_in (b ∷ []) s e)

unfoldable pub is_digit : ℕ → Bool
is_digit b = leb 48 b && leb b 57

-- rule 5: the value of the run of digits that the list begins with, a being that of the digits before
unfoldable pub value : ℕ → List ℕ → ℕ
unfolding is_digit
value a [] = a
value a (x ∷ s) = let r = value (a * 10 + (x - 48)) s in if is_digit x then r else a

-- a longest run of digits (leading zeros are fine) from the place p on: its value and its end, or none where the value is over `most`
unfoldable pub run_at : ℕ → List ℕ → ℕ → Option (ℕ × ℕ)
unfolding value
run_at most s p = let v = value 0 (drop p s) in if leb v most then Some (v, past is_digit s p) else None

-- rule 5: of at most 65,535
abbrev pub digits_at : List ℕ → ℕ → Option (ℕ × ℕ)
digits_at = run_at 65535

-- the run of digits starts at a; then LF or CRLF
unfoldable pub ended_run : List ℕ → ℕ → Option (ℕ × ℕ) → Option Digits
unfolding line_ending
ended_run s a (Some (v, b)) =
    let n = line_ending s b in
    if ltb a b && ltb 0 n then Some (record { code = v; start = a; stop = b; end = b + n }) else None
ended_run s a None = None

-- rule 5, behind a head: run blanks, then the digits, then LF or CRLF
unfoldable pub tail_at : List ℕ → ℕ → Option Digits
unfolding ended_run run_at
tail_at s p = let a = past (is_blank blanks.Run) s p in ended_run s a (digits_at s a)

-- a numeric error with the head h that begins at the place p
unfoldable pub numeric_at : List ℕ → List ℕ → ℕ → Option Digits
unfolding tail_at
numeric_at h s p = if stands h s p then tail_at s (p + length h) else None

unfoldable pub at_found : List ℕ → List ℕ → Option ℕ → Option Digits
unfolding numeric_at
at_found h s (Some p) = numeric_at h s p
at_found h s None = None

-- rule 5: the head at its first occurrence only
unfoldable pub numeric_error : List ℕ → List ℕ → ℕ → Option Digits
unfolding at_found
numeric_error h s e = at_found h s (find_in h s e)
