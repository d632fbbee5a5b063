-- What can be said under the empty table (R-12), in closed form: every code and fixed line; the prompts 62 and 64; an Ok, with a payload as `Payload` says.
-- `Theorem` proves that this is exactly what, written out, is read back as the same kind, number and payload and consumed whole.
use Rattle.std.specs.Prelude.{Option, Some, None, ◌≡◌, true, false, List, [], ℕ, ◌+◌, ◌-◌, ◌≤◌, ◌<◌, length, get_or}
use Rattle.text.specs.Text.{is_blank, stands}
use Rattle.text.specs.declared.Blanks.TheVariants as blanks
use Rattle.lines.specs.Lines.{fixed_text}
use Rattle.lines.specs.declared.Fixed.TheVariants as fixed
use Rattle.answers.specs.declared.Kind.{Kind}
use Rattle.answers.specs.declared.Kind.TheVariants as kind
use Rattle.writer.specs.Writer.{written}

-- An Ok's payload: it has at most 4,086 bytes, begins and ends with no trim blank, and no OK line stands in what is written but the last. It may be empty.
pub record Payload (p : List ℕ) : Type 0 where
  pub short : length p ≤ 4086
  pub front : 0 < length p → is_blank blanks.Trim (get_or p 0 0) ≡ false
  pub back : 0 < length p → is_blank blanks.Trim (get_or p (length p - 1) 0) ≡ false
  pub last : (j : ℕ) → stands (fixed_text fixed.Ok) (written kind.Ok None p) j ≡ true → j + 6 ≡ length (written kind.Ok None p)

-- Which kind can be said with which number and payload. Only an Ok has a payload; only codes and prompts have a number.
pub data Sayable : Kind → Option ℕ → List ℕ → Type 0 where
  ok : {p : List ℕ} → Payload p → Sayable kind.Ok None p
  cme : {n : ℕ} → n ≤ 65535 → Sayable kind.Cme (Some n) []
  cms : {n : ℕ} → n ≤ 65535 → Sayable kind.Cms (Some n) []
  error : Sayable kind.Error None []
  no_carrier : Sayable kind.NoCarrier None []
  busy : Sayable kind.Busy None []
  no_answer : Sayable kind.NoAnswer None []
  no_dialtone : Sayable kind.NoDialtone None []
  greater : Sayable kind.Prompt (Some 62) []
  sign : Sayable kind.Prompt (Some 64) []
