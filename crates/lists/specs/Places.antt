-- From a place to the verdict: what was read before a place decides the state there, and the first fault is at the place where it is told.
use Rattle.std.specs.Prelude.{◌≡◌, refl, ◌⊎◌, List, [], ◌∷◌, ◌++◌, ℕ, zero, suc, ◌+◌, ◌<◌, length}
use Rattle.std.proofs.Common.{sym, ap, ◌∙◌, inl, inr, ⊎_elim, arith}
use Rattle.lists.specs.Scan.{State, dead, step, run, fault_in, Verdict, fine, stop, told, scan}

pub run_append : (σ : State) (u v : List ℕ) → run σ (u ++ v) ≡ run (run σ u) v
unfolding run
run_append σ [] v = refl
run_append σ (b ∷ u) v = run_append (step σ b) u v

pub run_dead : (x : List ℕ) → run dead x ≡ dead
unfolding run step
run_dead [] = refl
run_dead (b ∷ x) = run_dead x

-- two verdicts of one reading are one
pub told_one : {r : Verdict} {k p j q : ℕ} → r ≡ stop k p → r ≡ stop j q → (k ≡ j) × (p ≡ q)
told_one e f = (ap number (sym e ∙ f), ap place (sym e ∙ f))
  where
    number : Verdict → ℕ
    number fine = 0
    number (stop k p) = k

    place : Verdict → ℕ
    place fine = 0
    place (stop k p) = p

pub not_fine : {r : Verdict} {k p : ℕ} → r ≡ fine → r ≡ stop k p → ⊥
not_fine e f = let z : ◌≡◌ {A = ℕ} 0 1 = ap number (sym e ∙ f) in omega arith
  where
    number : Verdict → ℕ
    number fine = 0
    number (stop k p) = 1

-- what was read stands before the place where the verdict was told
pub record Stopped (σ : State) (p : ℕ) (x : List ℕ) (k q : ℕ) : Type 0 where
  pub before : List ℕ
  pub behind : List ℕ
  pub parts : x ≡ before ++ behind
  pub place : q ≡ p + length before
  pub fault : fault_in (run σ before) behind ≡ k

told_is : (f p : ℕ) (r : Verdict) (k q : ℕ) → told f p r ≡ stop k q → ((f ≡ k) × (q ≡ p)) ⊎ (r ≡ stop k q)
unfolding told
told_is zero p r k q e = inr e
told_is (suc f) p r k q e = let w = told_one {r = stop (suc f) p} refl e in inl (w.0, sym w.1)

pub stopped : (x : List ℕ) (σ : State) (p k q : ℕ) → scan σ p x ≡ stop k q → Stopped σ p x k q
unfolding scan run
stopped [] σ p k q e =
    ⊎_elim
    (λ w. record { before = []; behind = []; parts = refl; place = omega (arith, w.1); fault = w.0 })
    (λ w. absurd (not_fine refl w))
    (told_is (fault_in σ []) p fine k q e)
stopped (b ∷ x) σ p k q e =
    ⊎_elim
    (λ w. record { before = []; behind = b ∷ x; parts = refl; place = omega (arith, w.1); fault = w.0 })
    (λ w. let h = stopped x (step σ b) (suc p) k q w in record { before = b ∷ h.before; behind = h.behind; parts = ap (λ (l : List ℕ). b ∷ l) h.parts; place = omega (arith, h.place); fault = h.fault })
    (told_is (fault_in σ (b ∷ x)) p (scan (step σ b) (suc p) x) k q e)

-- the reading comes to what follows u, or has stopped before
pub data Comes (σ : State) (p : ℕ) (u v : List ℕ) : Type 0 where
  there : scan σ p (u ++ v) ≡ scan (run σ u) (p + length u) v → Comes σ p u v
  before : (k q : ℕ) → q < p + length u → scan σ p (u ++ v) ≡ stop k q → Comes σ p u v

pub comes : (u v : List ℕ) (σ : State) (p : ℕ) → Comes σ p u v
unfolding run scan
comes [] v σ p = there (ap (λ (n : ℕ). scan σ n v) (omega arith))
comes (b ∷ u) v σ p = from (fault_in σ (b ∷ (u ++ v))) refl (comes u v (step σ b) (suc p))
  where
    onward : fault_in σ (b ∷ (u ++ v)) ≡ 0 → Comes (step σ b) (suc p) u v → Comes σ p (b ∷ u) v
    onward e (there h) = there (rw e (h ∙ ap (λ (n : ℕ). scan (run (step σ b) u) n v) (omega arith)))
    onward e (before k q l h) = before k q (omega arith) (rw e h)

    from : (f : ℕ) → fault_in σ (b ∷ (u ++ v)) ≡ f → Comes (step σ b) (suc p) u v → Comes σ p (b ∷ u) v
    from zero e w = onward e w
    from (suc f) e w = before (suc f) p (omega arith) (rw e refl)

pub scan_stops : (σ : State) (p : ℕ) (x : List ℕ) → 0 < fault_in σ x → scan σ p x ≡ stop (fault_in σ x) p
unfolding scan
scan_stops σ p [] h = is_told (fault_in σ []) h
  where
    is_told : (f : ℕ) → 0 < f → told f p fine ≡ stop f p
    is_told zero g = absurd (omega arith)
    is_told (suc f) g = refl
scan_stops σ p (b ∷ x) h = is_told (fault_in σ (b ∷ x)) h
  where
    is_told : (f : ℕ) → 0 < f → told f p (scan (step σ b) (suc p) x) ≡ stop f p
    is_told zero g = absurd (omega arith)
    is_told (suc f) g = refl

-- the verdict where the fault is known
pub here_stops : (σ : State) (p k : ℕ) (x : List ℕ) → fault_in σ x ≡ k → 0 < k → scan σ p x ≡ stop k p
here_stops σ p k x e h = scan_stops σ p x (omega arith) ∙ ap (λ (i : ℕ). stop i p) e
