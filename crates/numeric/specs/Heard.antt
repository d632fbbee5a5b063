-- Demands 2 and 3 for modems in V0, by position: what the leftmost code decides, and that there is none where nothing is heard. No search.
use Rattle.std.specs.Prelude.{◌≡◌, ◌⊎◌, true, false, List, ℕ, ◌+◌, ◌-◌, ◌≤◌, ◌<◌, length}
use Rattle.outcome.specs.Outcome.{Outcome, answered, refused}
use Rattle.answers.specs.declared.Answer.{Answer}
use Rattle.answers.specs.Answer.{is_found, nothing}
use Rattle.numeric.specs.Numeric.{lone_cr, line_start, code_at, behind, said}

-- no line start holds a code
abbrev pub NoCode : List ℕ → Type 0
NoCode s = (p : ℕ) → code_at s p ≡ false

-- What stands before p begins at q: at the first byte or behind a CR without LF, and no other stands between.
pub record Behind (s : List ℕ) (p q : ℕ) : Type 0 where
  pub before : q ≤ p
  pub opens : (q ≡ 0) ⊎ ((0 < q) × (lone_cr s (q - 1) ≡ true))
  pub last : (j : ℕ) → q ≤ j → j < p → lone_cr s j ≡ false

-- The leftmost code, at p, decides the answer; what is left begins at a line start of the whole.
pub record Leftmost (s : List ℕ) (a : Answer) : Type 0 where
  pub p : ℕ
  pub here : code_at s p ≡ true
  pub first : (j : ℕ) → j < p → code_at s j ≡ false
  pub is : a ≡ said s p
  pub begins : Behind s p (behind s p)
  pub consumed : a.consumed ≡ p + 2
  pub rest : line_start s a.consumed ≡ true

-- None exactly when no line start holds a code (none, only), and then 0 is consumed. Else the leftmost code is there, and at least one byte and at most the input is consumed.
pub record Heard (s : List ℕ) (a : Answer) : Type 0 where
  pub none : is_found a ≡ false → NoCode s
  pub only : NoCode s → is_found a ≡ false
  pub skip : is_found a ≡ false → a ≡ nothing 0
  pub code : is_found a ≡ true → Leftmost s a
  pub some : is_found a ≡ true → 1 ≤ a.consumed
  pub within : a.consumed ≤ length s

abbrev pub HeardIn : List ℕ → Outcome Answer → Type 0
HeardIn s (answered a) = Heard s a
HeardIn s (refused n v) = Unit {0}
