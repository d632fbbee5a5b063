-- What the steps of a search by blocks promise one another. The public functions promise `text`'s definitions, `find_in` and `past`, and nothing here.
use Rattle.std.specs.Prelude.{Option, Some, None, ◌≡◌, ◌⊎◌, Bool, true, false, ◌&&◌, ◌||◌, List, ℕ, zero, suc, ◌+◌, ◌*◌, ◌≤◌, ◌<◌, get_or, eqb}

-- b stands j bytes on from a, and c j bytes on from d
unfoldable pub both_at : List ℕ → ℕ → ℕ → ℕ → ℕ → ℕ → Bool
both_at s a b d c j = eqb (get_or s (a + j) 0) b && eqb (get_or s (d + j) 0) c

-- a space stands j bytes on from a
unfoldable pub space_at : List ℕ → ℕ → ℕ → Bool
space_at s a j = eqb (get_or s (a + j) 0) 32

-- f holds of a number below n
unfoldable pub any_of : (ℕ → Bool) → ℕ → Bool
any_of f zero = false
any_of f (suc n) = any_of f n || f n

-- f holds of every number below n
unfoldable pub all_of : (ℕ → Bool) → ℕ → Bool
all_of f zero = true
all_of f (suc n) = all_of f n && f n

-- what was found, or else what the next search finds
abbrev pub or_next : Option ℕ → Option ℕ → Option ℕ
or_next (Some p) r = Some p
or_next None r = r

-- r is a place from i on, not past e, with the same answer
pub record Later (answer : ℕ → Option ℕ) (i e r : ℕ) : Type 0 where
  pub after : i ≤ r
  pub within : r ≤ e
  pub same : answer i ≡ answer r

-- none of the n bytes from a on is below m
abbrev pub NoneBelow : List ℕ → ℕ → ℕ → ℕ → Type 0
NoneBelow s a n m = (j : ℕ) → j < n → m ≤ get_or s (a + j) 0

-- none of the n bytes 16 apart from a on is below m
abbrev pub ColumnAbove : List ℕ → ℕ → ℕ → ℕ → Type 0
ColumnAbove s a n m = (i : ℕ) → i < n → m ≤ get_or s (a + i * 16) 0

-- r is j where b is a CR, else 255
abbrev pub IfCr : ℕ → ℕ → ℕ → Type 0
IfCr b j r = ((b ≡ 13) × (r ≡ j)) ⊎ ((b ≡ 13 → ⊥) × (r ≡ 255))

-- of the n bytes from a on the one at m is the first CR, or m is 255 and none of them is one
pub record FirstIn (s : List ℕ) (a n m : ℕ) : Type 0 where
  pub none : (k : ℕ) → k < n → k < m → get_or s (a + k) 0 ≡ 13 → ⊥
  pub there : (m ≡ 255) ⊎ ((m < n) × (get_or s (a + m) 0 ≡ 13))
