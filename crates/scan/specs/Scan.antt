-- One pass over the bytes: what was found so far, what the next byte adds, and what it all comes to.
use Rattle.std.specs.Prelude.{Option, Some, None, ◌≡◌, List, [], ◌∷◌, map, ℕ, ◌+◌, ◌≤◌, ◌<◌, length, get_or, drop, set, replicate, eqb, ltb, if◌then◌else◌}
use Rattle.text.specs.Text.{find_in}
use Rattle.scan.specs.Words.{texts}
use Rattle.scan.specs.Table.{next, finished}
use Rattle.scan.specs.declared.Findings.{Findings}

-- the text k, if there is one, ends at n; that counts where it has no end yet
unfoldable pub noted : List ℕ → Option ℕ → ℕ → List ℕ
noted ends (Some k) n = if eqb (get_or ends k 0) 0 then set ends k n else ends
noted ends None n = ends

-- the findings after one more byte
unfoldable pub read : Findings → ℕ → Findings
read f b = record { seen = f.seen + 1; state = next f.state b; ends = noted f.ends (finished f.state b) (f.seen + 1) }

-- and after all of s
unfoldable pub run : Findings → List ℕ → Findings
run f [] = f
run f (b ∷ s) = run (read f b) s

-- a state out of range is the start
unfoldable pub state_of : ℕ → ℕ
state_of q = if ltb q 98 then q else 0

-- the findings f, whoever says so, carried on over the bytes of s behind those that were looked at
unfoldable pub extended : Findings → List ℕ → Findings
extended f s = run (record { seen = f.seen; state = state_of f.state; ends = f.ends }) (drop f.seen s)

-- nothing found yet, and the bytes before d not looked at
unfoldable pub fresh : ℕ → Findings
fresh d = record { seen = d; state = 0; ends = replicate 11 0 }

-- what one pass over s from d on finds
unfoldable pub scanned : ℕ → List ℕ → Findings
scanned d s = run (fresh d) (drop d s)

-- where what was found ends, 0 for nothing
unfoldable pub end_of : List ℕ → Option ℕ → ℕ
end_of t (Some p) = p + length t
end_of t None = 0

-- where the first occurrence of each text from d on ends
unfoldable pub first_ends : ℕ → List ℕ → List ℕ
first_ends d s = map (λ (t : List ℕ). end_of t (find_in t s d)) texts

-- r is a place from i on, not past the end; what lies between is no CR, and there is something between in the start state only
pub record Ahead (q : ℕ) (s : List ℕ) (i r : ℕ) : Type 0 where
  pub after : i ≤ r
  pub within : r ≤ length s
  pub plain : (j : ℕ) → i ≤ j → j < r → get_or s j 0 ≡ 13 → ⊥
  pub start : i < r → q ≡ 0
