-- What places are: first places, whoever found them and when.
use Rattle.std.specs.Prelude.{Option, Some, None, option_and_then, ◌≡◌, ◌&&◌, List, ℕ, ◌+◌, ◌-◌, length, leb, if◌then◌else◌}
use Rattle.text.specs.Text.{stands, find_in}
use Rattle.lines.specs.Lines.{fixed_text}
use Rattle.lines.specs.declared.Fixed.{Fixed}
use Rattle.lines.specs.declared.Fixed.TheVariants as fixed
use Rattle.places.specs.declared.Lines.{Lines}
use Rattle.places.specs.declared.Heads.{Heads}
use Rattle.places.specs.declared.Places.{Places}

-- On a level of the retry the heads are sought when they are asked for.
abbrev pub unsought : ℕ → Places
unsought e = record { from = e; heads = None }

-- Where the pass found that a text ends: one of its lines, or one of the heads.
abbrev pub line_end : Lines → Fixed → Option ℕ
line_end x fixed.Connect = Some x.connect
line_end x fixed.Error = Some x.error
line_end x fixed.CommandNotSupport = Some x.unsupported
line_end x fixed.NoCarrier = Some x.carrier
line_end x fixed.Busy = Some x.busy
line_end x fixed.NoAnswer = Some x.answer
line_end x fixed.NoDialtone = Some x.dialtone
line_end x _ = None

abbrev pub end_in : Heads → Fixed → Option ℕ
end_in h fixed.Cme = Some h.cme
end_in h fixed.Cms = Some h.cms
end_in h fixed.Modem = Some h.modem
end_in h _ = None

abbrev pub head_end : Places → Fixed → Option ℕ
head_end p l = option_and_then (λ h. end_in h l) p.heads

-- The first place of a text: where its end was found at n, 0 for nowhere, it counts only where the text stands there, and not before the place e; else it is sought.
unfoldable pub place_of : List ℕ → List ℕ → ℕ → Option ℕ → Option ℕ
place_of t s e (Some n) = if leb (e + length t) n && stands t s (n - length t) then Some (n - length t) else None
place_of t s e None = find_in t s e

unfoldable pub place_in : List ℕ → Places → Fixed → Option ℕ
place_in s p l = place_of (fixed_text l) s p.from (head_end p l)

unfoldable pub line_in : List ℕ → ℕ → Lines → Fixed → Option ℕ
line_in s e x l = place_of (fixed_text l) s e (line_end x l)

-- Each is the text's first place in s at or after e.
abbrev pub FirstPlaces : List ℕ → ℕ → Places → Type 0
FirstPlaces s e p = (l : Fixed) → place_in s p l ≡ find_in (fixed_text l) s e

abbrev pub FirstLines : List ℕ → ℕ → Lines → Type 0
FirstLines s e x = (l : Fixed) → line_in s e x l ≡ find_in (fixed_text l) s e
