-- A list read byte by byte: what may come next, and the first fault. Nothing here is promised: it is how the laws reach from a place in the bytes to the derivations.
use Rattle.std.specs.Prelude.{Bool, true, false, ◌&&◌, List, [], ◌∷◌, ℕ, zero, suc, eqb, leb, if◌then◌else◌}
use Rattle.parser.specs.Parser.{is_digit, value}
use Rattle.pieces.specs.Pieces.{heard}
use Rattle.pieces.specs.declared.Heard.{Heard}
use Rattle.pieces.specs.declared.Heard.TheVariants.{Owes, Closes, Breaks}

-- where an element is to begin; in a number, behind its dash, in the second number; in a string with so many hexadecimal digits owed; behind an element
pub data Mode : Type 0 where
  start low dash high done : Mode
  text : ℕ → Mode

-- within so many brackets, so many elements begun; or what no list begins with
pub data State : Type 0 where
  at : Mode → ℕ → ℕ → State
  dead : State

unfoldable pub closed : ℕ → ℕ → State
closed zero n = dead
closed (suc d) n = at done d n

unfoldable pub behind : ℕ → ℕ → ℕ → State
unfolding closed
behind d n b = if eqb b 44 then at start d n else if eqb b 41 then closed d n else dead

unfoldable pub in_string : Heard → ℕ → ℕ → State
in_string (Owes k) d n = at (text k) d n
in_string Closes d n = at done d n
in_string Breaks d n = dead

unfoldable pub step : State → ℕ → State
unfolding behind in_string
step (at start d n) b =
    if is_digit b then at low d (suc n)
    else if eqb b 32 then at start d n
    else if eqb b 34 then at (text 0) d (suc n)
    else if eqb b 40 then at start (suc d) (suc n)
    else behind d (suc n) b
step (at low d n) b = if is_digit b then at low d n else if eqb b 45 then at dash d n else behind d n b
step (at dash d n) b = if is_digit b then at high d n else dead
step (at high d n) b = if is_digit b then at high d n else behind d n b
step (at done d n) b = behind d n b
step (at (text k) d n) b = in_string (heard k b) d n
step dead b = dead

unfoldable pub run : State → List ℕ → State
unfolding step
run σ [] = σ
run σ (b ∷ x) = run (step σ b) x

unfoldable pub is_dead : State → Bool
is_dead (at m d n) = false
is_dead dead = true

-- may a list end here?
unfoldable pub rests : Mode → Bool
rests start = true
rests low = true
rests dash = false
rests high = true
rests done = true
rests (text k) = false

-- outside of all brackets?
abbrev pub outside : ℕ → Bool
outside zero = true
outside (suc d) = false

unfoldable pub final : State → Bool
unfolding rests
final (at m d n) = rests m && outside d
final dead = false

unfoldable pub many : ℕ → ℕ
many n = if leb 256 n then 9 else 0

-- the limit that is passed where x is still to come, 0 for none
unfoldable pub limit : State → List ℕ → ℕ
unfolding many
limit (at start d n) [] = many n
limit (at start d n) (b ∷ x) =
    if is_digit b then (if leb (value 0 (b ∷ x)) 4294967295 then many n else 8)
    else if eqb b 32 then 0
    else if eqb b 40 then (if leb 4 d then 7 else many n)
    else many n
limit (at low d n) x = 0
limit (at dash d n) x = if leb (value 0 x) 4294967295 then 0 else 8
limit (at high d n) x = 0
limit (at done d n) x = 0
limit (at (text k) d n) x = 0
limit dead x = 0

-- the fault where x is still to come, 0 for none
unfoldable pub fault_in : State → List ℕ → ℕ
unfolding final limit is_dead step
fault_in σ [] = if final σ then limit σ [] else 6
fault_in σ (b ∷ x) = if is_dead (step σ b) then 6 else limit σ (b ∷ x)

pub data Verdict : Type 0 where
  fine : Verdict
  stop : ℕ → ℕ → Verdict

unfoldable pub told : ℕ → ℕ → Verdict → Verdict
told zero p r = r
told (suc k) p r = stop (suc k) p

-- the first fault of x, which begins at the place p
unfoldable pub scan : State → ℕ → List ℕ → Verdict
unfolding fault_in told
scan σ p [] = told (fault_in σ []) p fine
scan σ p (b ∷ x) = let r = scan (step σ b) (suc p) x in told (fault_in σ (b ∷ x)) p r
