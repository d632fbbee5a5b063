-- What a call says in document 01's terms.
use Rattle.std.specs.Prelude.{List, ℕ}

-- an answer, or a refusal by its number with the values that 01 has it answer
pub data Outcome (A : Type 0) : Type 0 where
  answered : A → Outcome A
  refused : ℕ → List ℕ → Outcome A
