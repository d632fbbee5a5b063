-- What is left from a line start on is heard as in the whole: its line starts and its codes are those of the whole. What a code leaves begins at one (`Leftmost`),
-- so this carries demand 3 through an advance, turn by turn.
use Rattle.std.specs.Prelude.{◌≡◌, refl, true, false, ◌&&◌, ◌||◌, List, drop}
use Rattle.std.proofs.Math.Path.{sym, ap}
use Rattle.std.proofs.Common.{◌∙◌, add-zero, get_or-drop, eqb-true}
use Rattle.std.proofs.Math.Bool.{not}
use Prim.Native.Nat.{ℕ, zero, suc, ◌+◌}
use native.Mathlib.Omega.{arith}
use Rattle.std.proofs.Math.ListN.{get_or}
use Rattle.text.specs.Logic.{not_true_false, and_both}
use Rattle.numeric.specs.Numeric.{is_cr, is_lf, lone_cr, line_start, is_listed, code_at}
use Rattle.numeric.specs.Laws.{no_crlf}

-- the byte behind a line start's first
start_next : (s : List ℕ) (c : ℕ) → line_start s c ≡ true → line_start s (c + 1) ≡ lone_cr s c
unfolding line_start
start_next s zero h = refl
start_next s (suc i) h =
    let n : is_cr (get_or s i 0) && is_lf (get_or s (suc i) 0) ≡ false =
    not_true_false (is_cr (get_or s i 0) && is_lf (get_or s (suc i) 0)) (λ e.
    let w = and_both (is_cr (get_or s i 0)) (is_lf (get_or s (suc i) 0)) e in
    no_crlf s (suc i) h i (omega arith) (eqb-true (get_or s i 0) 13 w.0) (eqb-true (get_or s (suc i) 0) 10 w.1)) in
    let z : suc i + 1 ≡ suc (suc i) = omega arith in
    ap (line_start s) z ∙ rw n

module _ (s : List ℕ) (c : ℕ) (h : line_start s c ≡ true) where
  rest_lone : (i : ℕ) → lone_cr (drop c s) i ≡ lone_cr s (c + i)
  unfolding lone_cr
  rest_lone i =
      let z : c + (i + 1) ≡ c + i + 1 = omega arith in
      λ j. is_cr (get_or-drop c s i 0 j) && not (is_lf ((get_or-drop c s (i + 1) 0 ∙ ap (λ (n : ℕ). get_or s n 0) z) j))

  pub rest_starts : (j : ℕ) → line_start (drop c s) j ≡ line_start s (c + j)
  unfolding line_start
  rest_starts zero = sym h ∙ ap (line_start s) (sym (add-zero c))
  rest_starts (suc zero) = rest_lone 0 ∙ ap (lone_cr s) (add-zero c) ∙ sym (start_next s c h)
  rest_starts (suc (suc i)) =
      let z : c + suc i ≡ suc (c + i) = omega arith in
      let y : c + suc (suc i) ≡ suc (suc (c + i)) = omega arith in
      (λ j. (is_cr (get_or-drop c s i 0 j) && is_lf ((get_or-drop c s (suc i) 0 ∙ ap (λ (n : ℕ). get_or s n 0) z) j)) || (rest_lone (suc i) ∙ ap (lone_cr s) z) j)
      ∙ ap (line_start s) (sym y)

  pub rest_codes : (j : ℕ) → code_at (drop c s) j ≡ code_at s (c + j)
  unfolding code_at
  rest_codes j =
      let z : c + (j + 1) ≡ c + j + 1 = omega arith in
      λ i. rest_starts j i && (is_listed (get_or-drop c s j 0 i) && (rest_lone (j + 1) ∙ ap (lone_cr s) z) i)
