-- The steps of an input s that is digested to its end under a table t.
use Rattle.std.specs.Prelude.{Option, Some, None, List, [], ◌∷◌, ℕ, zero, suc, ◌+◌, length, drop, eqb, if◌then◌else◌}
use Rattle.lines.specs.declared.Digester.TheVariants as digester
use Rattle.digest.specs.Digest.{digest_unchecked}
use Rattle.steps.specs.declared.Step.{Step}

-- from the place i on, with fuel, of which one more than the bytes is enough
unfoldable pub steps_by : ℕ → List ℕ → List ℕ → ℕ → List Step
steps_by zero t s i = []
steps_by (suc n) t s i =
    let a = digest_unchecked digester.Verbose t (drop i s) in
    let r = steps_by n t s (i + a.consumed) in
    if eqb a.consumed 0 then [] else record { from = i; answer = a } ∷ r

unfoldable pub steps_from : List ℕ → List ℕ → ℕ → List Step
unfolding steps_by
steps_from t s i = steps_by (suc (length s)) t s i

abbrev pub steps : List ℕ → List ℕ → List Step
steps t s = steps_from t s 0

abbrev pub first_of : List Step → Option Step
first_of [] = None
first_of (x ∷ l) = Some x

-- the bytes that steps consume
unfoldable pub eaten : List Step → ℕ
eaten [] = 0
eaten (x ∷ l) = let n = eaten l in x.answer.consumed + n
