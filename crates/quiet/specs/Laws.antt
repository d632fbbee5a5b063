-- What the code and its callers know of `counts`.
use Rattle.std.specs.Prelude.{Option, Some, None, ◌≡◌, true, List, [], ◌∷◌, ℕ, ◌+◌, ◌-◌, ◌≤◌, ◌<◌, length, get_or, eqb}
use Rattle.std.proofs.Math.Path.{refl, sym, ap}
use Rattle.std.proofs.Common.{◌∙◌, arith, drop-cons, le-leb}
use Rattle.std.proofs.Math.Bool.{false, and-true}
use Rattle.std.proofs.lemmas.Bool.{lt-leb}
use Rattle.text.specs.Logic.{false_true, not_true_false}
use Rattle.text.specs.Text.{begins, stands, find_in}
use Rattle.text.specs.Laws.{found_at, found_none, stands_byte}
use Rattle.scan.specs.Scan.{end_of}
use Rattle.quiet.specs.Quiet.{counts, Absent}

module _ (t s : List ℕ) where
  pub counts_early : (n : ℕ) → n < length t → false ≡ counts t s n
  unfolding counts
  counts_early n h = rw (lt-leb (length t) n h)

  pub counts_is : (n : ℕ) → length t ≤ n → stands t s (n - length t) ≡ counts t s n
  unfolding counts
  counts_is n h = rw (le-leb (length t) n h)

  -- a text that was found counts at its end
  pub found_counts : (k : ℕ) → find_in t s 0 ≡ Some k → counts t s (k + length t) ≡ true
  found_counts k e =
      let i : k + length t - length t ≡ k = omega arith in
      sym (counts_is (k + length t) (omega arith)) ∙ ap (stands t s) i ∙ (found_at t s 0 k e).here

  -- so one that doesn't count where its first occurrence would end stands nowhere
  pub counts_absent : counts t s (end_of t (find_in t s 0)) ≡ false → Absent t s
  unfolding end_of
  counts_absent h = go (find_in t s 0) refl h
    where
      go : (r : Option ℕ) → find_in t s 0 ≡ r → counts t s (end_of t r) ≡ false → Absent t s
      go (Some k) e f = absurd (false_true (found_counts k e) f)
      go None e f = λ j. found_none t s 0 e j (omega arith)

-- a text of one byte: past the end it doesn't count, else where it is the byte
module _ (c : ℕ) (s : List ℕ) (n : ℕ) where
  pub counts_past : length s < n → counts (c ∷ []) s n ≡ false
  counts_past h = sym (counts_is (c ∷ []) s n (omega arith)) ∙ not_true_false (stands (c ∷ []) s (n - 1)) (λ e. omega (arith, (stands_byte c [] s (n - 1) e).0))

  pub counts_byte : 0 < n → n ≤ length s → counts (c ∷ []) s n ≡ eqb (get_or s (n - 1) 0) c
  unfolding stands begins
  counts_byte h g = sym (counts_is (c ∷ []) s n (omega arith)) ∙ ap (begins (c ∷ [])) (drop-cons s (n - 1) 0 (omega arith)) ∙ and-true _
