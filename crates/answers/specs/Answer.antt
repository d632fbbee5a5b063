-- The answer of a digest in document 01's terms.
use Rattle.std.specs.Prelude.{Result, Ok, Err, Bool, true, false, ◌&&◌, List, [], ◌∷◌, ℕ, zero, suc, ◌+◌, ◌≤◌, leb, if◌then◌else◌}
use Rattle.outcome.specs.Outcome.{Outcome, answered, refused}
use Rattle.text.specs.Bytes.{bytes}
use Rattle.text.specs.declared.Span.{Span}
use Rattle.answers.specs.declared.Kind.{Kind}
use Rattle.answers.specs.declared.Kind.TheVariants as kind
use Rattle.answers.specs.declared.Answer.{Answer}
use Rattle.answers.specs.declared.DigestError.{DigestError}
use Rattle.answers.specs.declared.DigestError.TheVariants as says

-- the number of each kind
abbrev pub kind_number : Kind → ℕ
kind_number kind.None = 0
kind_number kind.Ok = 1
kind_number kind.Prompt = 2
kind_number kind.Cme = 3
kind_number kind.Cms = 4
kind_number kind.Unknown = 5
kind_number kind.NotAllowed = 6
kind_number kind.Error = 7
kind_number kind.NoCarrier = 8
kind_number kind.Busy = 9
kind_number kind.NoAnswer = 10
kind_number kind.NoDialtone = 11
kind_number kind.Custom = 12
kind_number kind.Notice = 13

-- the kinds in the order of their numbers
abbrev pub kinds : List Kind
kinds =
    kind.None
    ∷ kind.Ok
    ∷ kind.Prompt
    ∷ kind.Cme
    ∷ kind.Cms
    ∷ kind.Unknown
    ∷ kind.NotAllowed
    ∷ kind.Error
    ∷ kind.NoCarrier
    ∷ kind.Busy
    ∷ kind.NoAnswer
    ∷ kind.NoDialtone
    ∷ kind.Custom
    ∷ kind.Notice
    ∷ []

-- a number, or none
pub data Number : Type 0 where
  none : Number
  number : ℕ → Number

-- The kinds with a number: a CME or CMS code, a prompt byte, the table number of a notice or custom error; else none.
abbrev pub has_number : Kind → Bool
has_number kind.Prompt = true
has_number kind.Cme = true
has_number kind.Cms = true
has_number kind.Custom = true
has_number kind.Notice = true
has_number _ = false

abbrev pub numbered : Kind → ℕ → Number
numbered k n = if has_number k then number n else none

-- no number is stored as 0
abbrev pub stored : Number → ℕ
stored none = 0
stored (number n) = n

abbrev pub number_of : Answer → Number
number_of a = numbered a.kind a.number

abbrev pub kind_found : Kind → Bool
kind_found kind.None = false
kind_found _ = true

-- is the answer another than None?
abbrev pub is_found : Answer → Bool
is_found a = kind_found a.kind

-- Notices go to the queue, other answers to the slot.
abbrev pub is_notice : Kind → Bool
is_notice kind.Notice = true
is_notice _ = false

-- The numeric errors, CME, CMS and MODEM ERROR, have digits (R-2); no other kind has.
abbrev pub is_numeric : Kind → Bool
is_numeric kind.Cme = true
is_numeric kind.Cms = true
is_numeric kind.Unknown = true
is_numeric _ = false

-- A payload of length 0, or none, has place 0; so have digits (R-2) and a text (R-3).
abbrev pub placed : ℕ → ℕ → ℕ
placed zero p = 0
placed (suc n) p = p

-- such a part, at its place
abbrev pub settled : Span → Span
settled p = record { start = placed p.len p.start; len = p.len }

-- How answers are made: a kind, with the number n where the kind has one, the payload p, where it is a numeric error the digits q as they came (R-2),
-- and of a CONNECT line the text t (R-3).
abbrev pub made : Kind → ℕ → Span → Span → Span → ℕ → Answer
made k n p q t c = record { kind = k; number = stored (numbered k n); payload = settled p; digits = settled q; text = settled t; consumed = c }

-- a part that isn't there
abbrev nowhere : Span
nowhere = record { start = 0; len = 0 }

-- Bare: a kind, and what is consumed;
abbrev pub bare : Kind → ℕ → Answer
bare k c = record { kind = k; number = 0; payload = nowhere; digits = nowhere; text = nowhere; consumed = c }

-- None;
abbrev pub nothing : ℕ → Answer
nothing c = bare kind.None c

-- with its number;
abbrev pub with_number : Kind → ℕ → ℕ → Answer
with_number k n c = made k n nowhere nowhere nowhere c

-- with its digits too (R-2);
abbrev pub with_digits : Kind → ℕ → Span → ℕ → Answer
with_digits k n q c = made k n nowhere q nowhere c

-- with its payload too;
abbrev pub with_payload : Kind → ℕ → Span → ℕ → Answer
with_payload k n p c = made k n p nowhere nowhere c

-- an Ok with its payload and its text (R-3).
abbrev pub with_text : Span → Span → ℕ → Answer
with_text p t c = made kind.Ok 0 p nowhere t c

-- the part of the input that goes along with the answer: a numeric error's digits (R-2), else the payload
abbrev pub carried : Answer → Span
carried a = if is_numeric a.kind then a.digits else a.payload

-- a part seen from d bytes further to the front
abbrev pub further : ℕ → Span → Span
further d p = settled (record { start = p.start + d; len = p.len })

-- the same answer seen from there
unfoldable pub shift : ℕ → Answer → Answer
shift d a =
    record {
      kind = a.kind;
      number = a.number;
      payload = further d a.payload;
      digits = further d a.digits;
      text = further d a.text;
      consumed = a.consumed + d;
    }

-- the bytes that an input may have, and so a place or a count
abbrev pub longest : ℕ
longest = 4096

-- `shift` where places, count and d are those of an input; else the answer as it is
unfoldable pub shift_within : ℕ → Answer → Answer
unfolding shift
shift_within d a = if leb a.payload.start longest && (leb a.digits.start longest && (leb a.text.start longest && (leb a.consumed longest && leb d longest))) then shift d a else a

-- Payload, digits and text lie within what is consumed, and that within the n bytes of the input.
pub record Within (n : ℕ) (a : Answer) : Type 0 where
  pub payload : a.payload.start + a.payload.len ≤ a.consumed
  pub digits : a.digits.start + a.digits.len ≤ a.consumed
  pub text : a.text.start + a.text.len ≤ a.consumed
  pub all : a.consumed ≤ n

-- document 01's number and values for each case of a digest's answer
abbrev pub outcome : Result Answer DigestError → Outcome Answer
outcome (Ok a) = answered a
outcome (Err says.TooLong) = refused 1 []
outcome (Err (says.BadTable k)) = refused 2 (k ∷ [])

-- the kinds as the tools print them
abbrev pub name_of : Kind → List ℕ
name_of kind.None = bytes "none"
name_of kind.Ok = bytes "ok"
name_of kind.Prompt = bytes "prompt"
name_of kind.Cme = bytes "cme"
name_of kind.Cms = bytes "cms"
name_of kind.Unknown = bytes "unknown"
name_of kind.NotAllowed = bytes "notallowed"
name_of kind.Error = bytes "error"
name_of kind.NoCarrier = bytes "nocarrier"
name_of kind.Busy = bytes "busy"
name_of kind.NoAnswer = bytes "noanswer"
name_of kind.NoDialtone = bytes "nodialtone"
name_of kind.Custom = bytes "custom"
name_of kind.Notice = bytes "notice"
