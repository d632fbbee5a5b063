-- Where one of the eleven texts of the pass may begin, and what lets the pass go over the places where none does.
use Rattle.std.specs.Prelude.{◌≡◌, Bool, true, false, ◌&&◌, ◌||◌, List, [], ◌∷◌, length, get_or, eqb, leb, if◌then◌else◌}
use Prim.Native.Nat.{ℕ, ◌+◌, ◌≤◌, ◌<◌}
use Rattle.text.specs.Text.{stands}
use Rattle.lines.specs.Lines.{fixed_text}
use Rattle.lines.specs.declared.Fixed.{Fixed}
use Rattle.lines.specs.declared.Fixed.TheVariants.{Ok, Connect, Error, CommandNotSupport, NoCarrier, Busy, NoAnswer, NoDialtone, Na, Cme, Cms, Modem, ConnectText}

-- The eleven: all but NA and CONNECT with text.
abbrev pub is_eleventh : Fixed → Bool
is_eleventh Ok = true
is_eleventh Connect = true
is_eleventh Error = true
is_eleventh CommandNotSupport = true
is_eleventh NoCarrier = true
is_eleventh Busy = true
is_eleventh NoAnswer = true
is_eleventh NoDialtone = true
is_eleventh Na = false
is_eleventh Cme = true
is_eleventh Cms = true
is_eleventh Modem = true
is_eleventh ConnectText = false

-- LF behind the first byte, and as the second byte of the line a letter from K to U, or C with M behind it
unfoldable pub may_begin : List ℕ → ℕ → Bool
may_begin s p =
    eqb (get_or s (p + 1) 0) 10
    && ((leb 75 (get_or s (p + 3) 0) && leb (get_or s (p + 3) 0) 85) || (eqb (get_or s (p + 3) 0) 67 && eqb (get_or s (p + 4) 0) 77))

abbrev pub begin_from : List ℕ → ℕ → ℕ → Bool
begin_from s i j = may_begin s (i + j)

-- None of the eleven texts stands at a place from i on and before r, which is not before i.
pub record Clear (s : List ℕ) (i r : ℕ) : Type 0 where
  pub after : i ≤ r
  pub none : (l : Fixed) → is_eleventh l ≡ true → (j : ℕ) → i ≤ j → j < r → stands (fixed_text l) s j ≡ false

-- Where a text ends if only what stands at p may stand, and where the eleven do, in the order of the pass, if that isn't OK.
unfoldable pub end_here : List ℕ → ℕ → Fixed → ℕ
end_here s p l = if stands (fixed_text l) s p then p + length (fixed_text l) else 0

abbrev pub ends_here : List ℕ → ℕ → List ℕ
ends_here s p =
    0 ∷
    end_here s p Connect ∷
    end_here s p Error ∷
    end_here s p CommandNotSupport ∷
    end_here s p NoCarrier ∷
    end_here s p Busy ∷
    end_here s p NoAnswer ∷
    end_here s p NoDialtone ∷
    end_here s p Cme ∷
    end_here s p Cms ∷
    end_here s p Modem ∷
    []
