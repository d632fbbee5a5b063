-- The digester for modems in V0 (R-1), in the request's words. It computes. Past the input's end `get_or` gives 0, which is no CR, no LF and no digit.
use Rattle.std.specs.Prelude.{Option, Some, None, Bool, true, ◌&&◌, ◌||◌, not, List, [], ◌∷◌, ℕ, zero, suc, ◌+◌, length, get_or, eqb, ltb, if◌then◌else◌}
use Rattle.outcome.specs.Outcome.{Outcome, answered, refused}
use Rattle.text.specs.Bytes.{bytes}
use Rattle.text.specs.Text.{among, trimmed_part}
use Rattle.text.specs.declared.Span.{Span}
use Rattle.answers.specs.declared.Kind.{Kind}
use Rattle.answers.specs.declared.Kind.TheVariants as kind
use Rattle.answers.specs.declared.Answer.{Answer}
use Rattle.answers.specs.Answer.{kind_found, nothing, with_payload}

abbrev pub is_cr : ℕ → Bool
is_cr b = eqb b 13

abbrev pub is_lf : ℕ → Bool
is_lf b = eqb b 10

-- A CR with no LF behind it; at the input's end there is none.
unfoldable pub lone_cr : List ℕ → ℕ → Bool
lone_cr s i = is_cr (get_or s i 0) && not (is_lf (get_or s (i + 1) 0))

-- Line starts: the first byte, and the byte after each CRLF or CR without LF.
unfoldable pub line_start : List ℕ → ℕ → Bool
unfolding lone_cr
line_start s zero = true
line_start s (suc zero) = lone_cr s 0
line_start s (suc (suc i)) = (is_cr (get_or s i 0) && is_lf (get_or s (suc i) 0)) || lone_cr s (suc i)

-- OK 0, CONNECT 1, RING 2, NO CARRIER 3, ERROR 4, NO DIALTONE 6, BUSY 7, NO ANSWER 8. CONNECT is an Ok, RING a notice.
unfoldable pub kind_of : ℕ → Kind
unfolding among
kind_of b =
    if among (bytes "01") b then kind.Ok
    else if among (bytes "2") b then kind.Notice
    else if among (bytes "3") b then kind.NoCarrier
    else if among (bytes "4") b then kind.Error
    else if among (bytes "6") b then kind.NoDialtone
    else if among (bytes "7") b then kind.Busy
    else if among (bytes "8") b then kind.NoAnswer
    else kind.None

-- one of these digits
abbrev pub is_listed : ℕ → Bool
is_listed b = kind_found (kind_of b)

-- A code: one of them at a line start, then a CR with no LF behind it.
unfoldable pub code_at : List ℕ → ℕ → Bool
unfolding line_start kind_of lone_cr
code_at s p = line_start s p && (is_listed (get_or s p 0) && lone_cr s (p + 1))

-- the least of the n places from i on that passes f
unfoldable pub least : (ℕ → Bool) → ℕ → ℕ → Option ℕ
least f zero i = None
least f (suc n) i = let r = least f n (suc i) in if f i then Some i else r

-- The leftmost code wins.
unfoldable pub leftmost : List ℕ → Option ℕ
unfolding least code_at
leftmost s = least (code_at s) (length s) 0

-- where what stands before p begins: behind the last CR without LF, or at the first byte
unfoldable pub behind : List ℕ → ℕ → ℕ
unfolding lone_cr
behind s zero = zero
behind s (suc p) = let r = behind s p in if lone_cr s p then suc p else r

-- What goes along with the code b at p: with an Ok what stands before it, trimmed; with a RING the digit; with another nothing.
unfoldable pub along : List ℕ → ℕ → ℕ → Span
unfolding among behind
along s p b =
    if among (bytes "01") b then trimmed_part s (behind s p) p
    else if among (bytes "2") b then record { start = p; len = 1 }
    else record { start = 0; len = 0 }

-- RING's number, which no table's record has; no other of these kinds has one.
abbrev pub ring : ℕ
ring = 255

-- What the code at p says; it is consumed through its CR.
unfoldable pub said : List ℕ → ℕ → Answer
unfolding kind_of along
said s p = let b = get_or s p 0 in with_payload (kind_of b) ring (along s p b) (p + 2)

-- With none the answer is None, 0.
unfoldable pub said_of : List ℕ → Option ℕ → Answer
unfolding said
said_of s (Some p) = said s p
said_of s None = nothing 0

unfoldable pub digest_unchecked : List ℕ → Answer
unfolding leftmost said_of
digest_unchecked s = said_of s (leftmost s)

-- Refusal 2, with record number 0: its table isn't empty.
abbrev pub ruled : List ℕ → Outcome ℕ
ruled [] = answered 0
ruled (x ∷ t) = refused 2 (0 ∷ [])

abbrev pub under_table : Outcome ℕ → List ℕ → Outcome Answer
under_table (answered n) s = answered (digest_unchecked s)
under_table (refused n v) s = refused n v

-- Refusal 1: the input is over 4,096 bytes; then refusal 2.
unfoldable pub digest : List ℕ → List ℕ → Outcome Answer
unfolding digest_unchecked
digest t s = if ltb 4096 (length s) then refused 1 [] else under_table (ruled t) s
