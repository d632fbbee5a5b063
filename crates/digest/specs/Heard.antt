-- Demand 3, first half, as `digest` promises it: over document 01's line starts and finished items, and no search.
use Rattle.std.specs.Prelude.{◌≡◌, true, false, List, ℕ, ◌+◌, ◌-◌, ◌≤◌, ◌<◌, length, get_or, take, drop, ltb}
use Rattle.outcome.specs.Outcome.{Outcome, answered, refused}
use Rattle.text.specs.Text.{stands}
use Rattle.table.specs.Table.{Token, tokens}
use Rattle.lines.specs.declared.Digester.{Digester}
use Rattle.lines.specs.declared.Fixed.TheVariants as fixed
use Rattle.lines.specs.Lines.{hears_text, crlf, fixed_text}
use Rattle.answers.specs.declared.Kind.TheVariants as kind
use Rattle.answers.specs.declared.Answer.{Answer}
use Rattle.answers.specs.Answer.{has_number, is_found, is_numeric, nothing}
use Rattle.parser.specs.Parser.{line_ending, is_digit, value}
use Rattle.items.specs.Rules.{skipped}
use Rattle.digest.specs.Finished.{All, Nowhere, Holds, NothingFinished}

-- R-2: at p stand n digits, with no digit before them, and LF or CRLF behind them up to c.
pub record DigitRun (s : List ℕ) (p n c : ℕ) : Type 0 where
  pub before : (0 < p) × (is_digit (get_or s (p - 1) 0) ≡ false)
  pub digits : All is_digit s p (p + n)
  pub ended : (0 < line_ending s (p + n)) × (c ≡ p + n + line_ending s (p + n))

-- R-2: the kind is CME, CMS or unknown exactly when there are digits. They are then the longest run that ends in front of the item's line ending,
-- and the number, where the kind has one, is their value.
pub record DigitsOf (s : List ℕ) (a : Answer) : Type 0 where
  pub some : is_numeric a.kind ≡ ltb 0 a.digits.len
  pub run : is_numeric a.kind ≡ true → DigitRun s a.digits.start a.digits.len a.consumed
  pub code : is_numeric a.kind ≡ true → has_number a.kind ≡ true → a.number ≡ value 0 (take a.digits.len (drop a.digits.start s))

-- R-3: a text is an Ok's, by a digester that hears it. It stands behind CRLF, `CONNECT` and a space, holds no CRLF, and ends at one, two bytes before the consumed count.
pub record TextOf (d : Digester) (s : List ℕ) (a : Answer) : Type 0 where
  pub hears : hears_text d ≡ true
  pub ok : a.kind ≡ kind.Ok
  pub head : (10 ≤ a.text.start) × (stands (fixed_text fixed.ConnectText) s (a.text.start - 10) ≡ true)
  pub inside : Nowhere crlf s a.text.start (a.text.start + a.text.len)
  pub ended : (stands crlf s (a.text.start + a.text.len) ≡ true) × (a.text.start + a.text.len ≡ a.consumed - 2)

-- The item that was found: it stands at the line start p and ends exactly at the consumed count; payload, digits and text lie before its end.
pub record Where (d : Digester) (ts : List Token) (s : List ℕ) (a : Answer) : Type 0 where
  pub p : ℕ
  pub n : ℕ
  pub holds : Holds d ts s p n
  pub ends : p + n ≡ a.consumed
  pub payload : a.payload.start + a.payload.len ≤ a.consumed
  pub within : a.digits.start + a.digits.len ≤ a.consumed
  pub digits : DigitsOf s a
  pub lies : a.text.start + a.text.len ≤ a.consumed
  pub text : 0 < a.text.len → TextOf d s a

-- None exactly when no line start of the input holds a finished item (none, only). Where it is None, it has neither payload, digits nor text, and consumed is e (rules 1 and 7).
-- Else the item is there, and at least one byte and at most the input is consumed.
pub record Heard (d : Digester) (ts : List Token) (s : List ℕ) (a : Answer) : Type 0 where
  pub none : is_found a ≡ false → NothingFinished d ts s
  pub only : NothingFinished d ts s → is_found a ≡ false
  pub skip : is_found a ≡ false → a ≡ nothing (skipped s)
  pub item : is_found a ≡ true → Where d ts s a
  pub some : is_found a ≡ true → 1 ≤ a.consumed
  pub within : a.consumed ≤ length s

abbrev pub HeardIn : Digester → List ℕ → List ℕ → Outcome Answer → Type 0
HeardIn d t s (answered a) = Heard d (tokens t) s a
HeardIn d t s (refused n values) = Unit {0}
