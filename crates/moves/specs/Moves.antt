-- What lent memory holds after bytes were put into it, and after its bytes went to the front: every byte is said.
use Rattle.std.specs.Prelude.{◌&&◌, List, ◌++◌, ℕ, ◌+◌, ◌-◌, min, length, take, drop, leb, if◌then◌else◌}

-- m with p from the place i on, where it fits
unfoldable pub put : List ℕ → ℕ → List ℕ → List ℕ
put m i p = if leb (i + length p) (length m) then take i m ++ p ++ drop (i + length p) m else m

-- b with its bytes from n up to e at the front, where these are ends of it
unfoldable pub moved : List ℕ → ℕ → ℕ → List ℕ
moved b n e = if leb n e && leb e (length b) then take (e - n) (drop n b) ++ drop (e - n) b else b

-- the two lost counts stay at 4,294,967,295 once there
abbrev pub one_more : ℕ → ℕ
one_more n = min (n + 1) 4294967295
