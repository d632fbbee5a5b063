-- The rules of a level in their order, with the hints from the levels above. No promise of a public call of 01 cites it; that it says what rules 1 to 5 say is `level_says`, and of a level below `level_below_says`.
use Rattle.std.specs.Prelude.{Option, Some, None, ◌≡◌, Bool, true, false, List, [], ℕ, ◌≤◌, length}
use Rattle.std.specs.declared.ops.ControlFlow.{ControlFlow}
use Rattle.std.specs.declared.ops.ControlFlow.TheVariants.{Break, Continue}
use Rattle.table.specs.Table.{Token, Entry, same_mark, of_mark, entries}
use Rattle.table.specs.declared.Mark.{Mark}
use Rattle.table.specs.declared.Mark.TheVariants as mark
use Rattle.lines.specs.declared.Digester.{Digester}
use Rattle.places.specs.Places.{unsought}
use Rattle.pass.specs.Pass.{first_lines, first_places}
use Rattle.places.specs.declared.Lines.{Lines}
use Rattle.places.specs.declared.Places.{Places}
use Rattle.answers.specs.declared.Answer.{Answer}
use Rattle.items.specs.declared.Hints.{Hints}
use Rattle.items.specs.Rules.{notices, first_custom, successes, custom_prompts, custom_error, line_errors, not_allowed}
use Rattle.items.specs.Hints.{Level, before, onward, prompt_bytes, numerics, firsts, unknown}

-- a rule that answers ends its level
abbrev pub unless : Option Answer → ControlFlow Answer (Unit {0})
unless (Some a) = Break a
unless None = Continue tt

-- NA, and then the level below
abbrev pub not_allowed_from : List ℕ → ℕ → Hints → Level
not_allowed_from s e h = before (not_allowed s e) (Continue (e, h))

-- rule 5
unfoldable pub errors_from : List Entry → List ℕ → ℕ → Places → Hints → Level
unfolding before onward
errors_from l s e p h =
    before (custom_error (first_custom l s e)) (onward (numerics s e p h) (λ k. before (line_errors s e) (not_allowed_from s e k)))

-- rules 4 and 5 on the outermost level, by these first places of the heads
abbrev pub behind : List ℕ → List ℕ → ℕ → Places → Level
behind t s e p =
    before (custom_prompts (entries mark.Prompt t 0 0) s e)
    (onward (prompt_bytes s e p unknown) (errors_from (entries mark.Error t 0 0) s e p))

-- rules 2 to 5 there
unfoldable pub outermost : Digester → List ℕ → List ℕ → ℕ → Level
unfolding before onward errors_from
outermost d t s e =
    before (notices (entries mark.Notice t 0 0) s e)
    (before (successes d (entries mark.Success t 0 0) s e) (behind t s e (first_places s e)))

-- and on one below it
unfoldable pub below : List ℕ → List ℕ → ℕ → Hints → Level
unfolding before onward
below t s e h = before (notices (entries mark.Notice t 0 0) s e) (onward (firsts s e (unsought e) h) (not_allowed_from s e))

-- What of rules 3 to 5 looks for a line, or an end, in all of buf doesn't answer from e on; then it doesn't from anywhere behind it either (`gone_on`).
pub record Gone (d : Digester) (ts : List Token) (s : List ℕ) (e : ℕ) : Type 0 where
  pub success : successes d (of_mark mark.Success 0 ts) s e ≡ None
  pub prompt : custom_prompts (of_mark mark.Prompt 0 ts) s e ≡ None
  pub custom : custom_error (first_custom (of_mark mark.Error 0 ts) s e) ≡ None
  pub error : line_errors s e ≡ None

-- from no place of s
abbrev pub GoneAll : Digester → List Token → List ℕ → Type 0
GoneAll d ts s = (m : ℕ) → m ≤ length s → Gone d ts s m

-- P is known unless the flag is up
abbrev pub Unless : Bool → Type 0 → Type 0
Unless true P = Unit {0}
Unless false P = P

-- what the notices gave
abbrev pub noticed_tried : ControlFlow Answer Bool → Option Answer
noticed_tried (Break a) = Some a
noticed_tried (Continue b) = None

-- what rule 3 gave, and that the places that it hands on are the first ones
abbrev pub succeeded_tried : ControlFlow Answer (Lines × Places) → Option Answer
succeeded_tried (Break a) = Some a
succeeded_tried (Continue (x, p)) = None

abbrev pub PlacesTold : List ℕ → ℕ → ControlFlow Answer (Lines × Places) → Type 0
PlacesTold s e (Break a) = Unit {0}
PlacesTold s e (Continue (x, p)) = (x ≡ first_lines s e) × (p ≡ first_places s e)

-- Rules 3 to 5 read no UR record: those with another mark are the same in the two tables.
abbrev pub SameCustoms : List ℕ → List ℕ → Type 0
SameCustoms t u = (m : Mark) → same_mark mark.Notice m ≡ false → entries m t 0 0 ≡ entries m u 0 0

-- the table has none, where the notices say so
abbrev pub OthersTold : List ℕ → ControlFlow Answer Bool → Type 0
OthersTold t (Break a) = Unit {0}
OthersTold t (Continue others) = Unless others (SameCustoms [] t)
