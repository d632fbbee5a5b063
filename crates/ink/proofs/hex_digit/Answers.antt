-- Each digit of the table is the one that is promised.
use Rattle.std.proofs.Common.{◌≡◌, ◌==◌, ◌&&◌, ◌<◌, ℕ, zero, suc, Bool, true, get_or, refl, inl, inr, arith}
use Rattle.std.proofs.lemmas.Bool.{and_parts, cases_lt, eqb-true}
use Rattle.ink.specs.Ink.{hex_digit}
use Rattle.ink.specs.declared.TheConstants.{DIGITS}
use Rattle.ink.proofs.hex_digit.Goals as goal

is_digit : ℕ → Bool
is_digit k = get_or DIGITS.now k 0 == hex_digit k

are_digits : ℕ → Bool
are_digits zero = true
are_digits (suc n) = is_digit n && are_digits n

digit_below : (n k : ℕ) → are_digits n ≡ true → k < n → get_or DIGITS.now k 0 ≡ hex_digit k
unfolding is_digit are_digits
digit_below zero k h g = absurd (omega arith)
digit_below (suc n) k h g =
    let p = and_parts (is_digit n) (are_digits n) h in
    elim (cases_lt k n) [
      | inl below ↦ digit_below n k p.1 below
      | inr top ↦ let e : k ≡ n = omega arith in rw e (eqb-true _ _ p.0)
    ]

pub returns : goal.returns
unfolding is_digit are_digits hex_digit
returns c = digit_below 16 c.args.n refl c.requires
