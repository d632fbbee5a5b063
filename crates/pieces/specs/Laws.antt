-- Laws of the pieces: the ways out of each function, over plain numbers and lists.
use Rattle.std.specs.Prelude.{Ok, Err, ◌≡◌, List, ℕ, suc, ◌+◌, ◌≤◌, ◌<◌, length, get_or, drop}
use Rattle.std.proofs.Math.Path.{sym}
use Rattle.std.proofs.Common.{◌∙◌, drop_of_length-le, drop-cons}
use Rattle.std.proofs.Math.Numerals.{add-one}
use Rattle.pieces.specs.declared.Heard.{Heard}
use Rattle.pieces.specs.declared.Heard.TheVariants.{Owes, Closes, Breaks}
use Rattle.pieces.specs.declared.StringError.TheVariants.{Broken}
use Rattle.pieces.specs.Pieces.{heard, goes_on, string_end}

-- the loop of `string_end`: the string that goes on at p goes on at i, where n digits are owed
abbrev pub SameEnd : List ℕ → ℕ → ℕ → ℕ → Type 0
SameEnd s p i n = string_end 0 p (drop p s) ≡ string_end n i (drop i s)

module _ (s : List ℕ) (p i n : ℕ) (w : SameEnd s p i n) where
  pub string_open : length s ≤ i → Err (Broken i) ≡ string_end 0 p (drop p s)
  unfolding string_end
  string_open h = sym (w ∙ rw (drop_of_length-le s h))

  module _ (h : i < length s) (r : Heard) (q : r ≡ heard n (get_or s i 0)) where
    string_on : string_end 0 p (drop p s) ≡ goes_on r i (λ m. string_end m (suc i) (drop (suc i) s))
    unfolding string_end
    string_on = w ∙ rw (drop-cons s i 0 h, q)

    pub string_more : (m : ℕ) → r ≡ Owes m → SameEnd s p (i + 1) m
    unfolding goes_on
    string_more m e = rw add-one (rw e at string_on)

    pub string_closed : r ≡ Closes → Ok (i + 1) ≡ string_end 0 p (drop p s)
    unfolding goes_on
    string_closed e = rw add-one (sym (rw e at string_on))

    pub string_broken : r ≡ Breaks → Err (Broken i) ≡ string_end 0 p (drop p s)
    unfolding goes_on
    string_broken e = sym (rw e at string_on)
