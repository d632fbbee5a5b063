-- Texts in lent memory: what the memory holds and where the text ends, and what numbers and bytes are as text.
use Rattle.std.specs.Prelude.{List, [], ◌∷◌, ◌++◌, ℕ, zero, suc, ◌+◌, ◌/◌, ◌%◌, length, leb, ltb, if◌then◌else◌}
use Rattle.moves.specs.Moves.{put}

-- memory with a text put into it, and where the text ends
pub record Ink : Type 0 where
  pub out : List ℕ
  pub at : ℕ

abbrev pub inked : List ℕ → ℕ → Ink
inked o n = record { out = o; at = n }

-- o with the text p from the place n on; where it doesn't fit, all is as it was
unfoldable pub ink : List ℕ → ℕ → List ℕ → Ink
ink o n p = if ltb (length o) (n + length p) then inked o n else inked (put o n p) (n + length p)

-- decimal digits without leading zeros, with fuel, of which 20 is enough for 64 bits
unfoldable pub decimal_by : ℕ → ℕ → List ℕ
decimal_by zero n = []
decimal_by (suc f) n = let r = decimal_by f (n / 10) in (if leb 1 (n / 10) then r else []) ++ ((48 + n % 10) ∷ [])

unfoldable pub decimal : ℕ → List ℕ
unfolding decimal_by
decimal n = decimal_by 20 n

-- two hexadecimal digits for each byte, in upper case
unfoldable pub hex_digit : ℕ → ℕ
hex_digit n = if ltb n 10 then 48 + n else 55 + n

unfoldable pub hex : List ℕ → List ℕ
unfolding hex_digit
hex [] = []
hex (b ∷ p) = let r = hex p in hex_digit (b / 16) ∷ hex_digit (b % 16) ∷ r
