-- Laws of the steps, without fuel: what they are, one by one and all together.
use Rattle.std.specs.Prelude.{Some, None, ◌≡◌, length, drop, eqb}
use Rattle.std.proofs.Math.Path.{refl, ap}
use Rattle.std.proofs.Common.{sym, ◌∙◌, length-drop}
use mathlib.Core.List.{List, [], ◌∷◌}
use Prim.Native.Nat.{ℕ, zero, suc, ◌+◌, ◌-◌, ◌≤◌, ◌<◌}
use native.Mathlib.Omega.{arith}
use borrow.Author.Tests.{eqb-true, eqb-false}
use Rattle.outcome.specs.Laws.{ways}
use Rattle.answers.specs.declared.Answer.{Answer}
use Rattle.answers.specs.Answer.{Within}
use Rattle.lines.specs.declared.Digester.TheVariants as digester
use Rattle.digest.specs.Digest.{digest_unchecked}
use Rattle.digest.specs.Calls.{unchecked_inside, unchecked_within}
use Rattle.steps.specs.declared.Step.{Step}
use Rattle.steps.specs.Steps.{steps_by, steps_from, first_of, eaten}

module _ (t s : List ℕ) where
  abbrev says : ℕ → Answer
  says i = digest_unchecked digester.Verbose t (drop i s)

  says_within : (i : ℕ) → (says i).consumed ≤ length s - i
  says_within i = omega (arith, unchecked_within digester.Verbose t (drop i s), length-drop i s)

  -- x begins at i, answers what the digest says there, and consumes something
  pub record Begins (i : ℕ) (x : Step) : Type 0 where
    pub from : x.from ≡ i
    pub says : x.answer ≡ digest_unchecked digester.Verbose t (drop i s)
    pub eats : 0 < x.answer.consumed

  -- Each step from i on begins where the one before it ended; behind the last nothing is consumed.
  unfoldable pub Run : ℕ → List Step → Type 0
  Run i [] = (says i).consumed ≡ 0
  Run i (x ∷ l) = Begins i x × Run (i + x.answer.consumed) l

  by_run : (n i : ℕ) → length s - i < n → Run i (steps_by n t s i)
  unfolding steps_by Run
  by_run zero i h = absurd (omega arith)
  by_run (suc n) i h =
      ways (Run i) (eqb (says i).consumed 0) (λ q. eqb-true (says i).consumed 0 q)
      (λ q.
      let z = eqb-false (says i).consumed 0 q in
      let k : 0 < (says i).consumed = omega (arith, z) in
      (record { from = refl; says = refl; eats = k }, by_run n (i + (says i).consumed) (omega (arith, says_within i))))

  pub steps_run : (i : ℕ) → Run i (steps_from t s i)
  unfolding steps_from
  steps_run i = by_run (suc (length s)) i (omega arith)

  step_one : (i : ℕ) (x y : Step) → Begins i x → Begins i y → x ≡ y
  step_one i x y p q = let e = p.from ∙ sym q.from in let f = p.says ∙ sym q.says in λ k. record { from = e k; answer = f k }

  -- no other list is that
  pub run_one : (i : ℕ) (l m : List Step) → Run i l → Run i m → l ≡ m
  unfolding Run
  run_one i [] [] p q = refl
  run_one i [] (y ∷ m) p q = absurd (omega (arith, p, q.0.eats, ap (λ (a : Answer). a.consumed) q.0.says))
  run_one i (x ∷ l) [] p q = absurd (omega (arith, q, p.0.eats, ap (λ (a : Answer). a.consumed) p.0.says))
  run_one i (x ∷ l) (y ∷ m) p q =
      let e = step_one i x y p.0 q.0 in
      let r = run_one (i + x.answer.consumed) l m p.1 (rw e q.1) in
      λ k. e k ∷ r k

  module _ (i : ℕ) where
    pub steps_none : (says i).consumed ≡ 0 → steps_from t s i ≡ []
    unfolding Run
    steps_none z = run_one i (steps_from t s i) [] (steps_run i) z

    pub steps_more : (x : Step) → Begins i x → steps_from t s i ≡ x ∷ steps_from t s (i + x.answer.consumed)
    unfolding Run
    steps_more x b = run_one i (steps_from t s i) (x ∷ steps_from t s (i + x.answer.consumed)) (steps_run i) (b, steps_run (i + x.answer.consumed))

    -- the ways out of `next`
    pub next_past : length s < i → None ≡ first_of (steps_from t s i)
    next_past h = ap first_of (sym (steps_none (omega (arith, says_within i))))

    module _ (a : Answer) (d : List ℕ) (f : d ≡ drop i s) (e : a ≡ digest_unchecked digester.Verbose t d) where
      said : a ≡ says i
      said = e ∙ ap (digest_unchecked digester.Verbose t) f

      pub next_end : a.consumed ≡ 0 → None ≡ first_of (steps_from t s i)
      next_end z = ap first_of (sym (steps_none (sym (ap (λ (x : Answer). x.consumed) said) ∙ z)))

      pub next_is : (a.consumed ≡ 0 → ⊥) → Some (record { from = i; answer = a }) ≡ first_of (steps_from t s i)
      next_is z = ap first_of (sym (steps_more (record { from = i; answer = a }) (record { from = refl; says = said; eats = omega (arith, z) })))

    -- what a caller of `next` knows
    pub at_end : None ≡ first_of (steps_from t s i) → steps_from t s i ≡ []
    at_end e = go (steps_from t s i) e
      where
        go : (l : List Step) → None ≡ first_of l → l ≡ []
        go [] e = refl
        go (x ∷ l) e = cc

    pub at_step : (x : Step) → Some x ≡ first_of (steps_from t s i) → Begins i x
    unfolding Run
    at_step x e = go (steps_from t s i) (steps_run i) e
      where
        go : (l : List Step) → Run i l → Some x ≡ first_of l → Begins i x
        go [] r e = cc
        go (y ∷ l) r e = let f : x ≡ y = cc in rw f r.0

    pub step_within : i ≤ length s → (x : Step) → Begins i x → i + x.answer.consumed ≤ length s
    step_within h x b = omega (arith, ap (λ (a : Answer). a.consumed) b.says, says_within i)

  -- a step's answer lies within what it digested
  pub step_lies : (i : ℕ) (x : Step) → Begins i x → Within (length (drop i s)) x.answer
  step_lies i x b = rw b.says (unchecked_inside digester.Verbose t (drop i s))

  -- steps from a place of the input on stay within it
  pub eaten_within : (i : ℕ) (l : List Step) → Run i l → i ≤ length s → i + eaten l ≤ length s
  unfolding Run eaten
  eaten_within i [] r h = omega arith
  eaten_within i (x ∷ l) r h = omega (arith, eaten_within (i + x.answer.consumed) l r.1 (step_within i h x r.0))
