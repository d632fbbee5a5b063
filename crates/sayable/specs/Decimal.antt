-- A number's decimal digits are digits, at least one, and the value that rule 5 makes of them is the number (`decimal_digits`, `decimal_some`, `decimal_value`).
-- By induction on the fuel, of which 20 is enough below the twentieth power of ten.
use Rattle.std.specs.Prelude.{◌≡◌, refl, true, List, [], ◌∷◌, ◌++◌, ℕ, zero, suc, ◌+◌, ◌-◌, ◌*◌, ◌/◌, ◌%◌, ◌^◌, ◌≤◌, ◌<◌, length, get_or, leb, if◌then◌else◌}
use Rattle.std.proofs.Common.{sym, ap, ◌∙◌, ⊎_elim, suc-le-suc, pow-suc, arith, length-append, get_or-append-add, le-leb, leb-false}
use Rattle.std.proofs.Math.ListN.{get_or-append}
use Rattle.outcome.specs.Laws.{ways}
use Rattle.text.specs.Logic.{order}
use Rattle.lines.specs.Lines.{crlf}
use Rattle.parser.specs.Parser.{is_digit, value}
use Rattle.parser.specs.Laws.{digit_from}
use Rattle.ink.specs.Ink.{decimal_by, decimal}
use Rattle.digest.specs.Finished.{All}

-- digits alone
abbrev pub Digits : List ℕ → Type 0
Digits l = All is_digit l 0 (length l)

digit_made : (n : ℕ) → is_digit (48 + n % 10) ≡ true
digit_made n = sym (digit_from (48 + n % 10) (omega arith)) ∙ le-leb (48 + n % 10) 57 (omega arith)

digits_more : (l : List ℕ) (x : ℕ) → Digits l → is_digit x ≡ true → Digits (l ++ (x ∷ []))
digits_more l x w e j h g =
    ⊎_elim
    (λ (q : j < length l). ap is_digit (get_or-append l (x ∷ []) 0 j q) ∙ w j h q)
    (λ (q : length l ≤ j).
    let z : j ≡ length l + 0 = omega (arith, length-append l (x ∷ [])) in
    ap (λ (k : ℕ). is_digit (get_or (l ++ (x ∷ [])) k 0)) z ∙ ap is_digit (get_or-append-add l (x ∷ []) 0 0) ∙ e)
    (order j (length l))

none_digits : Digits []
none_digits j h g = absurd (omega arith)

by_digits : (f n : ℕ) → Digits (decimal_by f n)
unfolding decimal_by
by_digits zero n = none_digits
by_digits (suc f) n = ways (λ (r : List ℕ). Digits (r ++ ((48 + n % 10) ∷ []))) (leb 1 (n / 10)) (λ q. digits_more (decimal_by f (n / 10)) (48 + n % 10) (by_digits f (n / 10)) (digit_made n)) (λ q. digits_more [] (48 + n % 10) none_digits (digit_made n))

pub decimal_digits : (n : ℕ) → Digits (decimal n)
unfolding decimal
decimal_digits n = by_digits 20 n

pub decimal_some : (n : ℕ) → 0 < length (decimal n)
unfolding decimal
decimal_some n = omega (arith, length-append (if leb 1 (n / 10) then decimal_by 19 (n / 10) else []) ((48 + n % 10) ∷ []))

-- the value of digits and what stands behind them
value_on : (a : ℕ) (l m : List ℕ) → Digits l → value a (l ++ m) ≡ value (value a l) m
unfolding value
value_on a [] m w = refl
value_on a (x ∷ l) m w =
    let e : is_digit x ≡ true = w 0 (omega arith) (omega arith) in
    rw e (value_on (a * 10 + (x - 48)) l m (λ j h g. w (suc j) (omega arith) (suc-le-suc g)))

value_one : (a n : ℕ) → value a ((48 + n % 10) ∷ []) ≡ a * 10 + n % 10
unfolding value
value_one a n = rw (digit_made n) (omega arith)

by_value : (f n : ℕ) → n < 10 ^ f → value 0 (decimal_by f n) ≡ n
unfolding decimal_by value
by_value zero n h = omega arith
by_value (suc f) n h =
    ways (λ (r : List ℕ). value 0 (r ++ ((48 + n % 10) ∷ [])) ≡ n) (leb 1 (n / 10))
    (λ q.
    let v = by_value f (n / 10) (omega (arith, pow-suc 10 f)) in
    value_on 0 (decimal_by f (n / 10)) ((48 + n % 10) ∷ []) (by_digits f (n / 10)) ∙ ap (λ (a : ℕ). value a ((48 + n % 10) ∷ [])) v ∙ value_one (n / 10) n ∙ omega arith)
    (λ q. value_one 0 n ∙ omega (arith, leb-false 1 (n / 10) q))

-- alone, and with the line's end behind them
module _ (n : ℕ) (h : n < 10 ^ 20) where
  pub decimal_value : value 0 (decimal n) ≡ n
  unfolding decimal
  decimal_value = by_value 20 n h

  pub decimal_read : value 0 (decimal n ++ crlf) ≡ n
  unfolding value
  decimal_read = value_on 0 (decimal n) crlf (decimal_digits n) ∙ decimal_value
