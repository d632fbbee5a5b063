-- The ways out of the functions, as the code takes them. Rests on text's laws of `keep` and `find_in`.
use Rattle.std.specs.Prelude.{Some, ◌≡◌, Bool, true, false, List, ℕ, ◌+◌, ◌-◌, ◌≤◌, ◌<◌, length, get_or, drop}
use Rattle.std.proofs.Common.{sym, ◌∙◌, ⊎_elim, arith, length-drop, get_or-drop}
use Rattle.std.proofs.Math.Path.{ap}
use borrow.Author.Tests.{eq-eqb, ne_eqb}
use Rattle.text.specs.Logic.{false_true, order}
use Rattle.text.specs.Text.{keep, find_in}
use Rattle.text.specs.Laws.{found_at, stands_fits, keep_is, keep_le, keep_stops}
use Rattle.lines.specs.Lines.{fixed_text}
use Rattle.lines.specs.declared.Fixed.TheVariants.{Na}
use Rattle.findings.specs.Findings.{not_lf, na_end, last_end}

-- the NA line: known, found, or not there
pub na_fits : (s : List ℕ) (i p : ℕ) → find_in (fixed_text Na) s i ≡ Some p → p + 6 ≤ length s
na_fits s i p e = stands_fits (fixed_text Na) s p (omega arith) (found_at (fixed_text Na) s i p e).here

module _ (s : List ℕ) (n e : ℕ) where
  pub na_known : (e ≡ 0 → ⊥) → e ≡ na_end s n e
  unfolding na_end
  na_known h = rw (ne_eqb e 0 h)

-- the last byte that fails f, k being what is kept of those behind the first n
module _ (f : ℕ → Bool) (s : List ℕ) (n e k : ℕ) (w : k ≡ keep f (drop n s)) where
  pub last_none : k ≡ 0 → e ≡ last_end f s n e
  unfolding last_end
  last_none z = rw (eq-eqb (keep f (drop n s)) 0 (sym w ∙ z))

  pub last_some : 0 < k → n + k ≡ last_end f s n e
  unfolding last_end
  last_some h = rw (w, ne_eqb (keep f (drop n s)) 0 (λ z. absurd (omega arith)))

-- the bytes of s from i on pass f
pub record Passing (f : ℕ → Bool) (s : List ℕ) (i : ℕ) : Type 0 where
  pub within : i ≤ length s
  pub pass : (j : ℕ) → i ≤ j → j < length s → f (get_or s j 0) ≡ true

pub passing_end : (f : ℕ → Bool) (s : List ℕ) → Passing f s (length s)
passing_end f s = record { within = omega arith; pass = λ j g h. absurd (omega arith) }

module _ (f : ℕ → Bool) (s : List ℕ) (i : ℕ) (p : Passing f s i) where
  pub passing_more : 0 < i → f (get_or s (i - 1) 0) ≡ true → Passing f s (i - 1)
  passing_more h e =
      record {
        within = omega (arith, p.within);
        pass = λ j g l. ⊎_elim (λ (q : j < i). let m : i - 1 ≡ j = omega arith in ap (λ (x : ℕ). f (get_or s x 0)) (sym m) ∙ e) (λ (q : i ≤ j). p.pass j q l) (order j i);
      }

  module _ (n e : ℕ) where
    behind : (j : ℕ) → i ≤ n + j → j < length (drop n s) → f (get_or (drop n s) j 0) ≡ true
    behind j g l = ap f (get_or-drop n s j 0) ∙ p.pass (n + j) g (omega (arith, length-drop n s))

    -- the byte before them doesn't, and is behind the first n
    pub passing_stop : n < i → f (get_or s (i - 1) 0) ≡ false → i ≡ last_end f s n e
    passing_stop h x =
        let m : n + (i - n - 1) ≡ i - 1 = omega arith in
        let k = keep_is f (drop n s) (i - n) (omega arith) (rw length-drop (omega (arith, p.within))) (ap f (get_or-drop n s (i - n - 1) 0 ∙ ap (λ (y : ℕ). get_or s y 0) m) ∙ x) (λ j g l. behind j (omega arith) l) in
        let w : n + (i - n) ≡ i = omega arith in
        sym w ∙ last_some f s n e (i - n) (sym k) (omega arith)

    -- there is no other behind the first n
    pub passing_none : i ≤ n → e ≡ last_end f s n e
    passing_none h =
        ⊎_elim
        (λ (q : 0 < keep f (drop n s)). absurd (false_true (behind (keep f (drop n s) - 1) (omega arith) (omega (arith, keep_le f (drop n s)))) (keep_stops f (drop n s) q)))
        (λ (q : keep f (drop n s) ≤ 0). last_none f s n e 0 (omega arith) (omega arith))
        (order 0 (keep f (drop n s)))

pub lf_is : (b : ℕ) → b ≡ 10 → not_lf b ≡ false
unfolding not_lf
lf_is b e = rw (eq-eqb b 10 e)

pub lf_not : (b : ℕ) → (b ≡ 10 → ⊥) → not_lf b ≡ true
unfolding not_lf
lf_not b e = rw (ne_eqb b 10 e)
