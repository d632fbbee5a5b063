-- What atread prints, in document 01's words.
use Rattle.std.specs.Prelude.{Result, Ok, Err, List, [], ◌∷◌, ◌++◌, ℕ, ◌-◌, length, drop, ltb, if◌then◌else◌}
use Rattle.text.specs.Bytes.{bytes}
use Rattle.text.specs.Text.{part_of}
use Rattle.ink.specs.Ink.{Ink, inked, ink, decimal, hex}
use Rattle.answers.specs.declared.Kind.{Kind}
use Rattle.answers.specs.declared.Answer.{Answer}
use Rattle.answers.specs.Answer.{Number, none, number, number_of, is_found, is_numeric, carried, name_of}
use Rattle.steps.specs.declared.Step.{Step}
use Rattle.steps.specs.Steps.{steps, eaten}
use Rattle.report.specs.declared.ReportError.{ReportError}
use Rattle.report.specs.declared.ReportError.TheVariants as says

-- a space and a text: the kind,
abbrev pub spaced : List ℕ → List ℕ
spaced p = bytes " " ++ p

-- then, of a numeric error, the digits as they came (R-2); else the number, or a payload that isn't empty in hex
abbrev pub number_text : ℕ → List ℕ
number_text n = bytes " " ++ decimal n

unfoldable pub payload_text : List ℕ → List ℕ
unfolding hex
payload_text [] = []
payload_text (b ∷ p) = bytes " " ++ hex (b ∷ p)

abbrev pub number_or : Number → List ℕ → List ℕ
number_or none p = payload_text p
number_or (number n) p = number_text n

abbrev pub value_of : Kind → Number → List ℕ → List ℕ
value_of k m p = if is_numeric k then spaced p else number_or m p

-- A line is the bytes consumed, the kind, then the digits, the number or the payload; steps that answer None print nothing.
unfoldable pub line_of : Answer → List ℕ → List ℕ
line_of a s = if is_found a then decimal a.consumed ++ (spaced (name_of a.kind) ++ (value_of a.kind (number_of a) (part_of s (carried a).start (carried a).len) ++ bytes "\n")) else []

-- the lines of steps on s
unfoldable pub lines : List ℕ → List Step → List ℕ
unfolding line_of
lines s [] = []
lines s (x ∷ l) = let r = lines s l in line_of x.answer (drop x.from s) ++ r

-- Digests under the empty table. The first line counts its records, the last the bytes left; an input over 4,096 bytes is one line.
unfoldable pub text_of : List ℕ → List ℕ
unfolding lines
text_of s =
    let l = steps [] s in
    if ltb 4096 (length s) then bytes "refused 1\n" else bytes "records 0\n" ++ (lines s l ++ (bytes "left" ++ (number_text (length s - eaten l) ++ bytes "\n")))

-- memory with the lines put into it, and the bytes left
pub record Drawing : Type 0 where
  pub ink : Ink
  pub left : ℕ

abbrev pub drawn : List ℕ → ℕ → ℕ → Drawing
drawn o n left = record { ink = inked o n; left = left }

abbrev pub draw : List ℕ → ℕ → List ℕ → Drawing
draw o n s = record { ink = ink o n (lines s (steps [] s)); left = length s - eaten (steps [] s) }

-- What a report leaves: the text at the front of the memory and its length; or a memory that is too short, as it was.
pub data Reporting : Type 0 where
  is : Ink → Reporting
  short : List ℕ → Reporting

unfoldable pub report : List ℕ → List ℕ → Reporting
unfolding text_of
report s o = if ltb (length o) 229376 then short o else is (ink o 0 (text_of s))

abbrev pub reported : Result ℕ ReportError → List ℕ → Reporting
reported (Ok n) o = is (inked o n)
reported (Err says.Short) o = short o
