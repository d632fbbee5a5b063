-- What a level of the retry knows from the levels above it, so that nothing is searched twice. No promise of a public call of 01 cites it.
use Rattle.std.specs.Prelude.{Option, Some, None, ◌≡◌, Bool, true, false, ◌&&◌, List, ℕ, ◌+◌, ◌-◌, ◌≤◌, length, leb, if◌then◌else◌}
use Rattle.std.specs.declared.ops.ControlFlow.{ControlFlow}
use Rattle.std.specs.declared.ops.ControlFlow.TheVariants.{Break, Continue}
use Rattle.text.specs.Bytes.{bytes}
use Rattle.text.specs.Text.{find_in}
use Rattle.lines.specs.Lines.{fixed_text}
use Rattle.lines.specs.declared.Fixed.TheVariants as fixed
use Rattle.parser.specs.Parser.{prompt_from, only_blanks, at_found, numeric_error}
use Rattle.places.specs.Places.{place_in}
use Rattle.places.specs.declared.Places.{Places}
use Rattle.answers.specs.declared.Answer.{Answer}
use Rattle.items.specs.declared.First.{First}
use Rattle.items.specs.declared.First.TheVariants as first
use Rattle.items.specs.declared.Hints.{Hints}
use Rattle.items.specs.Rules.{prompt_tried, numeric_tried}

-- Rules 4 and 5, the five things of which only the first occurrence counts: what each gives from e on,
abbrev pub given : First → List ℕ → ℕ → Option Answer
given first.Greater s e = prompt_tried (prompt_from 62 s e) 62 s
given first.Sign s e = prompt_tried (prompt_from 64 s e) 64 s
given first.Cme s e = numeric_tried fixed.Cme (numeric_error (fixed_text fixed.Cme) s e)
given first.Cms s e = numeric_tried fixed.Cms (numeric_error (fixed_text fixed.Cms) s e)
given first.Modem s e = numeric_tried fixed.Modem (numeric_error (fixed_text fixed.Modem) s e)

-- what it looks for, and its first place,
abbrev pub sought : First → List ℕ
sought first.Greater = bytes ">"
sought first.Sign = bytes "@"
sought first.Cme = fixed_text fixed.Cme
sought first.Cms = fixed_text fixed.Cms
sought first.Modem = fixed_text fixed.Modem

abbrev pub first_place : First → List ℕ → ℕ → Places → Option ℕ
first_place first.Greater s e p = find_in (bytes ">") s e
first_place first.Sign s e p = find_in (bytes "@") s e
first_place first.Cme s e p = place_in s p fixed.Cme
first_place first.Cms s e p = place_in s p fixed.Cms
first_place first.Modem s e p = place_in s p fixed.Modem

-- and what it gives where that was found.
abbrev pub decided : First → List ℕ → Option ℕ → Option Answer
decided first.Greater s r = prompt_tried (only_blanks s r) 62 s
decided first.Sign s r = prompt_tried (only_blanks s r) 64 s
decided first.Cme s r = numeric_tried fixed.Cme (at_found (fixed_text fixed.Cme) s r)
decided first.Cms s r = numeric_tried fixed.Cms (at_found (fixed_text fixed.Cms) s r)
decided first.Modem s r = numeric_tried fixed.Modem (at_found (fixed_text fixed.Modem) s r)

-- A hint d of a rule f: from no place m of s at or after e with at least d bytes behind it does the rule answer.
abbrev pub Idle : (ℕ → Option Answer) → List ℕ → ℕ → ℕ → Type 0
Idle f s e d = (m : ℕ) → e ≤ m → m + d ≤ length s → f m ≡ None

-- The hint for the levels below: where what is looked for is nowhere, it covers every place; where the first occurrence, at k, is no answer, every place up to k.
unfoldable pub or_hint : Option Answer → ℕ → ControlFlow Answer ℕ
or_hint (Some a) d = Break a
or_hint None d = Continue d

unfoldable pub found_hint : First → List ℕ → Option ℕ → ControlFlow Answer ℕ
unfolding or_hint
found_hint x s (Some k) = or_hint (decided x s (Some k)) (length s - k)
found_hint x s None = Continue 0

-- Where the hint d covers e nothing is looked for, and the hint stays.
unfoldable pub first_from : First → List ℕ → ℕ → Places → ℕ → ControlFlow Answer ℕ
unfolding found_hint
first_from x s e p d = if leb d (length s - e) then Continue d else found_hint x s (first_place x s e p)

-- the hint where what is looked for is nowhere
unfoldable pub nowhere_hint : ℕ → ℕ → ℕ
nowhere_hint d left = if leb d left then d else 0

-- neither `>` nor `@` is there from e on, where it is said so
abbrev pub NoPrompt : List ℕ → ℕ → Bool → Type 0
NoPrompt s e true = (find_in (bytes ">") s e ≡ None) × (find_in (bytes "@") s e ≡ None)
NoPrompt s e false = Unit {0}

-- What a level gives: an answer, or where buf begins and the hints for the level below.
abbrev pub Level : Type 0
Level = ControlFlow Answer (ℕ × Hints)

-- What of a level comes next: behind a rule without a hint; behind one with a hint, which goes on; behind some with theirs.
unfoldable pub before : Option Answer → Level → Level
before (Some a) r = Break a
before None r = r

unfoldable pub hinted : ControlFlow Answer ℕ → (ℕ → Level) → Level
hinted (Break a) f = Break a
hinted (Continue d) f = f d

unfoldable pub onward : Level → (Hints → Level) → Level
onward (Break a) f = Break a
onward (Continue (e, h)) f = f h

-- Rule 4 behind the custom prompts: `>`, then `@`, with the hints h.
unfoldable pub prompt_bytes : List ℕ → ℕ → Places → Hints → Level
unfolding hinted first_from
prompt_bytes s e p h =
    hinted (first_from first.Greater s e p h.greater) (λ g. hinted (first_from first.Sign s e p h.sign) (λ n.
    Continue (e, record h { greater = g; sign = n })))

-- Rule 5: CME, CMS, MODEM ERROR.
unfoldable pub numerics : List ℕ → ℕ → Places → Hints → Level
unfolding hinted first_from
numerics s e p h =
    hinted (first_from first.Cme s e p h.cme) (λ a. hinted (first_from first.Cms s e p h.cms) (λ b. hinted (first_from first.Modem s e p h.modem) (λ c.
    Continue (e, record h { cme = a; cms = b; modem = c }))))

-- The five, between which nothing stands on a level of the retry.
unfoldable pub firsts : List ℕ → ℕ → Places → Hints → Level
unfolding onward prompt_bytes numerics
firsts s e p h = onward (prompt_bytes s e p h) (numerics s e p)

-- On the outermost level nothing is known: no input has so many bytes.
abbrev pub unknown : Hints
unknown = record { greater = 4097; sign = 4097; cme = 4097; cms = 4097; modem = 4097 }

-- with `left` bytes behind a place, do all five hints cover it?
abbrev pub all_idle : Hints → ℕ → Bool
all_idle h left = leb h.greater left && (leb h.sign left && (leb h.cme left && (leb h.cms left && leb h.modem left)))

-- the hint of each of the five, and what the five say
abbrev pub hint_of : Hints → First → ℕ
hint_of h first.Greater = h.greater
hint_of h first.Sign = h.sign
hint_of h first.Cme = h.cme
hint_of h first.Cms = h.cms
hint_of h first.Modem = h.modem

abbrev pub Known : List ℕ → ℕ → Hints → Type 0
Known s e h = (x : First) → Idle (given x s) s e (hint_of h x)

-- A level r says what the rules t give from e on: their answer, or hints that are right.
abbrev pub Says : List ℕ → ℕ → Option Answer → Level → Type 0
Says s e t (Break a) = t ≡ Some a
Says s e t (Continue (k, h)) = (t ≡ None) × ((k ≡ e) × Known s e h)
