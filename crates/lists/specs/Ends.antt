-- What has a derivation is read to its end, limits or not: the state behind it takes a comma, a closing bracket or the end as the grammar does.
use Rattle.std.specs.Prelude.{◌≡◌, false, length, replicate}
use Rattle.std.proofs.Math.Path.{refl, ap}
use Rattle.std.proofs.Common.{sym, ◌∙◌, arith, length-append}
use Rattle.std.proofs.Math.Bool.{true}
use mathlib.Core.List.{List, [], ◌∷◌}
use Prim.Native.Nat.{ℕ, zero, suc, ◌+◌}
use Rattle.text.specs.Logic.{false_true, and_both}
use Rattle.parser.specs.Parser.{is_digit}
use Rattle.pieces.specs.Pieces.{is_char, is_hex, heard}
use Rattle.lists.specs.Grammar.{digits, is_number, Piece, char, escape, Symbol, Derivation, empty, number, range, string, bracket, spaced, one, more, piece_word, word, elements}
use Rattle.lists.specs.Scan.{State, at, dead, start, low, dash, high, done, text, closed, behind, in_string, step, run, is_dead, rests, final, outside}
use Rattle.lists.specs.Places.{run_append}

-- behind an element within d brackets, with n elements begun
pub record Ends (d n : ℕ) (σ : State) : Type 0 where
  pub comma : step σ 44 ≡ at start d n
  pub close : step σ 41 ≡ closed d n
  pub end : final σ ≡ outside d

module _ (d n : ℕ) where
  start_ends : Ends d (suc n) (at start d n)
  unfolding step behind final rests is_digit
  start_ends = record { comma = refl; close = refl; end = refl }

  low_ends : Ends d n (at low d n)
  unfolding step behind final rests is_digit
  low_ends = record { comma = refl; close = refl; end = refl }

  high_ends : Ends d n (at high d n)
  unfolding step behind final rests is_digit
  high_ends = record { comma = refl; close = refl; end = refl }

  done_ends : Ends d n (at done d n)
  unfolding step behind final rests is_digit
  done_ends = record { comma = refl; close = refl; end = refl }

-- a number that isn't empty begins with a digit, and digits follow
pub record Number (w : List ℕ) : Type 0 where
  pub first : ℕ
  pub others : List ℕ
  pub parts : w ≡ first ∷ others
  pub digit : is_digit first ≡ true
  pub rest : digits others ≡ true

pub is_number_lem : (w : List ℕ) → is_number w ≡ true → Number w
unfolding is_number digits
is_number_lem [] e = absurd (false_true e refl)
is_number_lem (b ∷ w) e = let h = and_both (is_digit b) (digits w) e in record { first = b; others = w; parts = refl; digit = h.0; rest = h.1 }

pub number_digits : (w : List ℕ) → is_number w ≡ true → digits w ≡ true
unfolding is_number digits
number_digits [] e = refl
number_digits (b ∷ w) e = e

module _ (σ : State) (stays : (b : ℕ) → is_digit b ≡ true → step σ b ≡ σ) where
  run_digits : (w : List ℕ) → digits w ≡ true → run σ w ≡ σ
  unfolding run digits
  run_digits [] e = refl
  run_digits (b ∷ w) e =
      let h = and_both (is_digit b) (digits w) e in
      ap (λ (τ : State). run τ w) (stays b h.0) ∙ run_digits w h.1

module _ (d : ℕ) where
  run_low : (n : ℕ) (w : List ℕ) → digits w ≡ true → run (at low d n) w ≡ at low d n
  unfolding step
  run_low n = run_digits (at low d n) (λ b e. rw e)

  run_high : (n : ℕ) (w : List ℕ) → digits w ≡ true → run (at high d n) w ≡ at high d n
  unfolding step
  run_high n = run_digits (at high d n) (λ b e. rw e)

  pub run_number : (n : ℕ) (w : List ℕ) → is_number w ≡ true → run (at start d n) w ≡ at low d (suc n)
  unfolding run step
  run_number n w e =
      let h = is_number_lem w e in
      ap (run (at start d n)) h.parts ∙ ap (λ (τ : State). run τ h.others) (first h.first h.digit) ∙ run_low (suc n) h.others h.rest
    where
      first : (b : ℕ) → is_digit b ≡ true → step (at start d n) b ≡ at low d (suc n)
      first b q = rw q

  run_second : (n : ℕ) (w : List ℕ) → is_number w ≡ true → run (at dash d n) w ≡ at high d n
  unfolding run step
  run_second n w e =
      let h = is_number_lem w e in
      ap (run (at dash d n)) h.parts ∙ ap (λ (τ : State). run τ h.others) (first h.first h.digit) ∙ run_high n h.others h.rest
    where
      first : (b : ℕ) → is_digit b ≡ true → step (at dash d n) b ≡ at high d n
      first b q = rw q

  pub run_spaces : (n m : ℕ) → run (at start d n) (replicate m 32) ≡ at start d n
  unfolding run step is_digit
  run_spaces n zero = refl
  run_spaces n (suc m) = run_spaces n m

  pub text_char : (n b : ℕ) → is_char b ≡ true → step (at (text 0) d n) b ≡ at (text 0) d n
  unfolding step heard in_string
  text_char n b e = rw e

  pub text_hex : (n k b : ℕ) → is_hex b ≡ true → step (at (text (suc k)) d n) b ≡ at (text k) d n
  unfolding step heard in_string
  text_hex n k b e = rw e

  run_pieces : (n : ℕ) (ps : List Piece) → run (at (text 0) d n) (piece_word ps) ≡ at (text 0) d n
  unfolding run step heard in_string piece_word is_char
  run_pieces n [] = refl
  run_pieces n (char b h ∷ ps) = ap (λ (τ : State). run τ (piece_word ps)) (text_char n b h) ∙ run_pieces n ps
  run_pieces n (escape h i p q ∷ ps) =
      ap (λ (τ : State). run (step τ i) (piece_word ps)) (text_hex n 1 h p)
      ∙ ap (λ (τ : State). run τ (piece_word ps)) (text_hex n 0 i q)
      ∙ run_pieces n ps

ends_as : {d m n : ℕ} {σ τ : State} → m ≡ n → σ ≡ τ → Ends d n τ → Ends d m σ
ends_as {d} {m} {n} {σ} {τ} e f h =
    record {
      comma = ap (λ (x : State). step x 44) f ∙ h.comma ∙ ap (at start d) (sym e);
      close = ap (λ (x : State). step x 41) f ∙ h.close ∙ ap (closed d) (sym e);
      end = ap final f ∙ h.end;
    }

-- the bytes of a derivation are read to its end
pub ends : {c : Symbol} (t : Derivation c) (d p n : ℕ) → Ends d (n + length (elements t d p)) (run (at start d n) (word t))
unfolding word elements run step behind is_digit heard in_string is_char closed
ends empty d p n = ends_as (omega arith) refl (start_ends d n)
ends (number w h) d p n = ends_as (omega arith) (run_number d n w h) (low_ends d (suc n))
ends (range w x h g) d p n =
    ends_as
    (omega arith)
    (run_append (at start d n) w (45 ∷ x)
    ∙ ap (λ (τ : State). run τ (45 ∷ x)) (run_number d n w h)
    ∙ run_second d (suc n) x g)
    (high_ends d (suc n))
ends (string ps) d p n =
    ends_as
    (omega arith)
    (run_append (at (text 0) d (suc n)) (piece_word ps) (34 ∷ []) ∙ ap (λ (τ : State). run τ (34 ∷ [])) (run_pieces d (suc n) ps))
    (done_ends d (suc n))
ends (bracket l) d p n =
    ends_as
    (omega arith)
    (run_append (at start (suc d) (suc n)) (word l) (41 ∷ []) ∙ (ends l (suc d) (suc p) (suc n)).close)
    (done_ends d (suc n + length (elements l (suc d) (suc p))))
ends (spaced m t) d p n =
    ends_as
    refl
    (run_append (at start d n) (replicate m 32) (word t) ∙ ap (λ (τ : State). run τ (word t)) (run_spaces d n m))
    (ends t d (p + m) n)
ends (one e) d p n = ends e d p n
ends (more e l) d p n =
    ends_as
    (omega (arith, length-append (elements e d p) (elements l d (suc (p + length (word e))))))
    (run_append (at start d n) (word e) (44 ∷ word l) ∙ ap (λ (τ : State). run τ (word l)) (ends e d p n).comma)
    (ends l d (suc (p + length (word e))) (n + length (elements e d p)))

pub alive : (d n : ℕ) (σ : State) → Ends d n σ → is_dead σ ≡ false
unfolding is_dead step
alive d n (at m c k) h = refl
alive d n dead h = absurd (false_true refl (ap is_dead h.comma))
