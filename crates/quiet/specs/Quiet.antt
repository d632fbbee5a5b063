-- R-14: that the buffer is still, by what was found in it and by few of its bytes: a digest would find nothing and consume nothing (`Genuine`).
-- The findings may be anyone's: a text that they say was found counts only where it stands.
use Rattle.std.specs.Prelude.{is_some, ◌≡◌, Bool, true, false, not, ◌&&◌, ◌||◌, ℕ, ◌-◌, length, get_or, eqb, leb}
use mathlib.Core.List.{List, foldl}
use Rattle.text.specs.Bytes.{bytes}
use Rattle.text.specs.Text.{stands, find_in}
use Rattle.table.specs.Table.{entries}
use Rattle.table.specs.declared.Mark.TheVariants as mark
use Rattle.lines.specs.Lines.{hears_text, fixed_text}
use Rattle.lines.specs.declared.Digester.{Digester}
use Rattle.lines.specs.declared.Fixed.{Fixed}
use Rattle.lines.specs.declared.Fixed.TheVariants as fixed
use Rattle.findings.specs.declared.Findings.{Findings}
use Rattle.items.specs.Rules.{skipped, custom_prompts, heads}
use Rattle.digest.specs.Finished.{nine}
use Rattle.selector.specs.declared.Selector.{Selector}
use Rattle.selector.specs.declared.Selector.TheVariants.{Verbal, Numeric}

-- does the text t end at `end` in s?
unfoldable pub counts : List ℕ → List ℕ → ℕ → Bool
counts t s end = leb (length t) end && stands t s (end - length t)

-- the text t stands nowhere in s
abbrev pub Absent : List ℕ → List ℕ → Type 0
Absent t s = (j : ℕ) → stands t s j ≡ false

-- each of the list passes
abbrev pub every : {A : Type 0} → (A → Bool) → List A → Bool
every p l = foldl (λ (b : Bool) x. b && p x) true l

-- where the findings say that the fixed text first ends; of the head of CONNECT with text they say nothing
abbrev pub told_end : Findings → Fixed → ℕ
told_end f fixed.Ok = get_or f.ends 0 0
told_end f fixed.Connect = get_or f.ends 1 0
told_end f fixed.Error = get_or f.ends 2 0
told_end f fixed.CommandNotSupport = get_or f.ends 3 0
told_end f fixed.NoCarrier = get_or f.ends 4 0
told_end f fixed.Busy = get_or f.ends 5 0
told_end f fixed.NoAnswer = get_or f.ends 6 0
told_end f fixed.NoDialtone = get_or f.ends 7 0
told_end f fixed.Na = f.na
told_end f fixed.Cme = get_or f.ends 8 0
told_end f fixed.Cms = get_or f.ends 9 0
told_end f fixed.Modem = get_or f.ends 10 0
told_end f fixed.ConnectText = 0

-- none of the nine lines is there
unfoldable pub no_fixed : Findings → List ℕ → Bool
no_fixed f s = every (λ l. not (counts (fixed_text l) s (told_end f l))) nine

-- the head t isn't there, or no LF is behind it, the last one ending at lf
unfoldable pub unended : List ℕ → List ℕ → ℕ → ℕ → Bool
unended t s lf end = leb lf end || not (counts t s end)

-- no numeric error is ended
unfoldable pub no_number : Findings → List ℕ → Bool
no_number f s = every (λ h. unended (fixed_text h) s f.lf (told_end f h)) heads

-- no CONNECT line with text begins that the digester would hear (R-3)
unfoldable pub no_text : Digester → List ℕ → Bool
no_text d s = not (hears_text d) || not (is_some (find_in (fixed_text fixed.ConnectText) s 0))

-- No line is finished: each has four bytes at least, and ends in LF. Or the table has no record, and none of the other lines is there.
unfoldable pub no_line : Digester → List ℕ → Findings → List ℕ → Bool
no_line d t f s = leb f.lf 3 || (eqb (length t) 0 && (no_fixed f s && no_number f s && no_text d s))

-- s ends in no custom prompt
unfoldable pub no_custom : List ℕ → List ℕ → Bool
no_custom t s = not (is_some (custom_prompts (entries mark.Prompt t 0 0) s 0))

-- the byte that ends at n is no prompt
unfoldable pub no_byte : List ℕ → ℕ → Bool
no_byte s n = not (counts (bytes ">") s n) && not (counts (bytes "@") s n)

-- In V0 (R-1) the findings tell nothing.
unfoldable pub still : Selector → List ℕ → Findings → List ℕ → Bool
still (Verbal d) t f s = no_line d t f s && (no_byte s f.last && (no_custom t s && eqb (skipped s) 0))
still Numeric t f s = false
