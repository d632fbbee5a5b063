-- Laws of the calls with findings, for their programs. What they need of the layers below are the laws that they export.
use Rattle.std.specs.Prelude.{Result, Ok, Err, IsErrAnd, ◌≡◌, refl, Bool, true, false, List, [], ◌∷◌, ℕ, ◌+◌, ◌-◌, ◌≤◌, ◌<◌, length, eqb}
use Rattle.std.proofs.Common.{sym, ◌∙◌, arith}
use Rattle.std.proofs.Math.Path.{ap}
use Rattle.std.proofs.Math.ListN.{take}
use borrow.Author.Tests.{eq-eqb, ne_eqb, le-leb, lt-leb, le-ltb, lt-ltb}
use Rattle.moves.specs.Moves.{put}
use Rattle.outcome.specs.Outcome.{Outcome, answered, refused}
use Rattle.findings.specs.declared.Findings.{Findings}
use Rattle.findings.specs.Findings.{findings_in, numbers_of, findings_of, extended}
use Rattle.selector.specs.Selector.{Choice}
use Rattle.turn.specs.declared.Memories.{Memories}
use Rattle.turn.specs.declared.State.{State}
use Rattle.turn.specs.Turn.{with_end, World, world, with_state, held}
use Rattle.ingress.specs.declared.AdvanceError.{AdvanceError}
use Rattle.ingress.specs.declared.AdvanceError.TheVariants as advances
use Rattle.ingress.specs.declared.CheckError.{CheckError}
use Rattle.ingress.specs.declared.CheckError.TheVariants as judges
use Rattle.ingress.specs.declared.RunError.{RunError}
use Rattle.ingress.specs.declared.WriteError.{WriteError}
use Rattle.ingress.specs.Ingress.{done, refused_at, run, run_says, ran, refusal, judged, committed, advance_error, advance_says, result_of, written, write_error, write_says, taking}
use Rattle.ingress.specs.Laws.{passed}
use Rattle.feed.specs.Feed.{Fed, fed, fitting, judged_with, unless, renewed, turning, settled, advanced_with, afresh, took, write_in, written_with}

-- what `ingress::judge` answered, and whether the findings' length fits
module _ (o : Outcome (Unit {0})) (b : Bool) where
  pub fits_refused : (k : ℕ) (v : List ℕ) → refused k v ≡ o → refused k v ≡ fitting o b
  unfolding fitting
  fits_refused k v q = rw (sym q)

  fails_by_fit : (e : CheckError) → refusal (Err e) ≡ o → refusal (Err e) ≡ fitting o b
  fails_by_fit judges.TooLong p = fits_refused 1 [] p
  fails_by_fit (judges.BadTable k) p = fits_refused 2 (k ∷ []) p
  fails_by_fit judges.BadState p = fits_refused 3 [] p

  pub fits_fails : (e : CheckError) → refusal (Err e) ≡ o → (x : Result (Unit {0}) CheckError) → IsErrAnd x (λ f. f ≡ e) → refusal x ≡ fitting o b
  fits_fails e p (Ok s) q = absurd q
  fits_fails e p (Err f) q = rw q (fails_by_fit e p)

  module _ (g : answered tt ≡ o) where
    pub fits_not : b ≡ false → refused 3 [] ≡ fitting o b
    unfolding fitting
    fits_not h = rw (sym g, h)

    pub fits_so : b ≡ true → answered tt ≡ fitting o b
    unfolding fitting
    fits_so h = rw (sym g, h)

-- what fits isn't refused without findings either, so its end lies in the buffer
pub fits_judged : (o : Outcome (Unit {0})) (b : Bool) → answered tt ≡ fitting o b → answered tt ≡ o
unfolding fitting
fits_judged (answered x) b q = refl
fits_judged (refused k v) b q = q

pub fits_inside : (c : Choice) (m : List ℕ) (w : World) → answered tt ≡ judged_with c m w → w.state.end ≤ length w.buf
fits_inside c m w g = (passed c w (fits_judged (judged c w) (eqb (findings_in m).seen w.state.end) g)).inside

-- the findings after turns
module _ (f : Findings) (n e : ℕ) (b m : List ℕ) where
  pub renew_same : e ≡ n → m ≡ numbers_of f → m ≡ renewed f n e b
  unfolding renewed
  renew_same h q = rw (eq-eqb e n h) q

  pub renew_afresh : (e ≡ n → ⊥) → m ≡ numbers_of (findings_of (take e b)) → m ≡ renewed f n e b
  unfolding renewed
  renew_afresh h q = rw (ne_eqb e n h) q

-- the ways out of `settle`
module _ (c : Choice) (q : Findings → List ℕ → Bool) (m : List ℕ) (w : World) (s : List ℕ) (h : s ≡ held w) (f g : Findings) (i : f ≡ findings_in m) (j : g ≡ extended f s) (y : Bool) (z : y ≡ q g s) (n : List ℕ) where
  abbrev known : Findings
  known = extended (findings_in m) (held w)

  known_is : g ≡ known
  known_is = j ∙ (λ k. extended (i k) (h k))

  tells : q known (held w) ≡ y
  tells = sym (z ∙ (λ k. q (known_is k) (h k)))

  pub settle_still : y ≡ true → n ≡ numbers_of g → fed (done tt w) n ≡ settled c q m w
  unfolding settled
  settle_still t v = rw (tells ∙ t) (ap (fed (done tt w)) (v ∙ ap numbers_of known_is))

  pub settle_ran : y ≡ false → (r : Result State RunError) (k : Memories) → ran r k ≡ run c w → n ≡ renewed g w.state.end (run_says r).1.end k.buf.now → fed (ran r k) n ≡ settled c q m w
  unfolding settled
  settle_ran t r k u a =
      rw (tells ∙ t)
      (ap (fed (ran r k)) (a ∙ ap (λ (y : Findings). renewed y w.state.end (run_says r).1.end k.buf.now) known_is)
      ∙ ap (turning known w) u)

-- the ways out of `advance`
module _ (c : Choice) (q : Findings → List ℕ → Bool) (n : ℕ) (m : List ℕ) (w : World) where
  pub advance_refused : (k : ℕ) (v : List ℕ) → refused k v ≡ judged_with c m w → fed (refused_at k v w) m ≡ advanced_with c q n m w
  unfolding advanced_with unless
  advance_refused k v e = rw (sym e)

  fails_by : (e : CheckError) → refusal (Err e) ≡ judged_with c m w → fed (record { said = (advance_says w.state (Err (advance_error e))).0; left = with_state w (advance_says w.state (Err (advance_error e))).1 }) m ≡ advanced_with c q n m w
  fails_by judges.TooLong p = advance_refused 1 [] p
  fails_by (judges.BadTable k) p = advance_refused 2 (k ∷ []) p
  fails_by judges.BadState p = advance_refused 3 [] p

  pub advance_fails : (e : CheckError) → refusal (Err e) ≡ judged_with c m w → (x : Result State AdvanceError) → IsErrAnd x (λ f. f ≡ advance_error e) → fed (record { said = (advance_says w.state x).0; left = with_state w (advance_says w.state x).1 }) m ≡ advanced_with c q n m w
  advance_fails e p (Ok s) q = absurd q
  advance_fails e p (Err f) q = rw q (fails_by e p)

  module _ (g : answered tt ≡ judged_with c m w) where
    pub advance_room : length w.buf - w.state.end < n → fed (refused_at 4 [] w) m ≡ advanced_with c q n m w
    unfolding advanced_with unless
    advance_room h = rw (sym g, lt-ltb (length w.buf - w.state.end) n h)

    module _ (h : n ≤ length w.buf - w.state.end) (r : Result State RunError) (k : Memories) (o : List ℕ) (p : fed (ran r k) o ≡ settled c q m (committed w n)) where
      at_settled : fed (ran r k) o ≡ advanced_with c q n m w
      unfolding advanced_with unless
      at_settled = rw (sym g, le-ltb (length w.buf - w.state.end) n h) p

      pub advance_settled : (s : State) → r ≡ Ok s → fed (result_of w.state (Ok s) k) o ≡ advanced_with c q n m w
      advance_settled s e = rw e at at_settled

      pub advance_full : (x : RunError) → r ≡ Err x → (y : Result State AdvanceError) → IsErrAnd y (λ f. f ≡ advances.Full x.left) → fed (result_of w.state y k) o ≡ advanced_with c q n m w
      advance_full x e (Ok s) q = absurd q
      advance_full x e (Err f) q = rw q (rw e at at_settled)

-- the ways out of `write_in`
module _ (c : Choice) (q : Findings → List ℕ → Bool) (p m : List ℕ) (w : World) where
  pub in_long : length w.buf - w.state.end < length p → (r : Result (State × ℕ) WriteError) (k : Memories) → taking w.state r k ≡ written c p w → (x : ℕ) → x ≡ (write_says w.state r).1.end → (y : List ℕ) → y ≡ take x k.buf.now → (f : Findings) → f ≡ findings_of y → (o : List ℕ) → o ≡ numbers_of f → fed (taking w.state r k) o ≡ write_in c q p m w
  unfolding write_in afresh
  in_long h r k e x u y v f i o j =
      rw (lt-ltb (length w.buf - w.state.end) (length p) h)
      (ap (fed (taking w.state r k)) (j ∙ ap numbers_of (i ∙ ap findings_of (v ∙ ap (λ (n : ℕ). take n k.buf.now) u))) ∙ ap afresh e)

  module _ (h : length p ≤ length w.buf - w.state.end) where
    pub in_none : length p ≡ 0 → fed (done 0 w) m ≡ write_in c q p m w
    unfolding write_in
    in_none z = rw (le-ltb (length w.buf - w.state.end) (length p) h, lt-leb 1 (length p) (omega arith))

    pub in_settled : (length p ≡ 0 → ⊥) → (b : List ℕ) → b ≡ put w.buf w.state.end p → (r : Result State RunError) (k : Memories) (o : List ℕ) → fed (ran r k) o ≡ settled c q m (world (with_end w.state (w.state.end + length p)) b w.slot_memory w.queue_memory) → (x : Result State RunError) → r ≡ x → took (length p) (fed (ran x k) o) ≡ write_in c q p m w
    unfolding write_in
    in_settled z b u r k o v x e =
        rw (le-ltb (length w.buf - w.state.end) (length p) h, le-leb 1 (length p) (omega arith))
        (ap (λ (y : Result State RunError). took (length p) (fed (ran y k) o)) (sym e)
        ∙ ap (took (length p)) (v ∙ ap (λ (y : List ℕ). settled c q m (world (with_end w.state (w.state.end + length p)) y w.slot_memory w.queue_memory)) u))

-- the ways out of `write`
module _ (c : Choice) (q : Findings → List ℕ → Bool) (p m : List ℕ) (w : World) where
  pub write_refused : (n : ℕ) (v : List ℕ) → refused n v ≡ judged_with c m w → fed (refused_at n v w) m ≡ written_with c q p m w
  unfolding written_with unless
  write_refused n v e = rw (sym e)

  not_written : (e : CheckError) → refusal (Err e) ≡ judged_with c m w → fed (record { said = (write_says w.state (Err (write_error e))).0; left = with_state w (write_says w.state (Err (write_error e))).1 }) m ≡ written_with c q p m w
  not_written judges.TooLong p = write_refused 1 [] p
  not_written (judges.BadTable k) p = write_refused 2 (k ∷ []) p
  not_written judges.BadState p = write_refused 3 [] p

  pub write_fails : (e : CheckError) → refusal (Err e) ≡ judged_with c m w → (x : Result (State × ℕ) WriteError) → IsErrAnd x (λ f. f ≡ write_error e) → fed (record { said = (write_says w.state x).0; left = with_state w (write_says w.state x).1 }) m ≡ written_with c q p m w
  write_fails e p (Ok x) q = absurd q
  write_fails e p (Err f) q = rw q (not_written e p)

  pub write_goes : answered tt ≡ judged_with c m w → (r : Fed ℕ) → r ≡ write_in c q p m w → r ≡ written_with c q p m w
  unfolding written_with unless
  write_goes g r e = rw (sym g) e
