-- Laws of the ingress for its programs. What it needs of the layers below are the laws that they export.
use Rattle.std.proofs.Math.Path.{◌≡◌, refl, sym, ap}
use Rattle.std.proofs.Common.{Option, Some, None, Result, Ok, Err, ◌∙◌, length-drop}
use Rattle.std.specs.Prelude.{IsErrAnd, Bool, ◌&&◌, not, List, [], ◌∷◌, take, drop, leb, ltb, if◌then◌else◌}
use Rattle.std.proofs.Math.Bool.{true, false}
use Prim.Native.Nat.{ℕ, zero, suc, ◌+◌, ◌-◌, ◌≤◌, ◌<◌, min}
use native.Mathlib.Omega.{arith}
use Rattle.std.proofs.Math.ListN.{length}
use Rattle.std.proofs.Math.Seq.{length-take-le}
use borrow.Author.Tests.{le-leb, lt-leb, le-ltb, lt-ltb, leb-true, ltb-false}
use Rattle.text.specs.Logic.{and_both}
use Rattle.moves.specs.Moves.{put}
use Rattle.moves.specs.Laws.{put_length}
use Rattle.outcome.specs.Outcome.{Outcome, answered, refused}
use Rattle.outcome.specs.Laws.{ways, same_way}
use Rattle.queue.specs.Queue.{ours, capacity_of, in_bounds}
use Rattle.selector.specs.Selector.{Choice}
use Rattle.turn.specs.declared.State.{State}
use Rattle.turn.specs.declared.Memories.{Memories}
use Rattle.turn.specs.Turn.{with_end, is_refused, World, world, lent, with_state, Step, went, stuck, once, stepped}
use Rattle.turn.specs.Laws.{left_by_lem, once_end, once_less, once_long}
use Rattle.turn.specs.Kept.{Good}
use Rattle.ingress.specs.declared.CheckError.{CheckError}
use Rattle.ingress.specs.declared.CheckError.TheVariants as judges
use Rattle.ingress.specs.declared.AdvanceError.{AdvanceError}
use Rattle.ingress.specs.declared.AdvanceError.TheVariants as advances
use Rattle.ingress.specs.declared.WriteError.{WriteError}
use Rattle.ingress.specs.declared.WriteError.TheVariants as takes
use Rattle.ingress.specs.declared.CopyError.{CopyError}
use Rattle.ingress.specs.declared.RunError.{RunError}
use Rattle.ingress.specs.Story.{Passed}
use Rattle.ingress.specs.Ingress.{After, done, refused_at, then_run, run_by, run, ran, is_sound, under_table, checks, refusal, judged, unless_refused, committed, advance_error, advanced, advance_says, result_of, Writing, wrote, stopped, copied, after_copy, write_once, then_write, write_by, write_on, writing, answering, write_error, written, write_says, taking}

-- fuel does not matter
then_same : (s : Step) (f g : World → After (Unit {0})) → ((v : World) (n : ℕ) → s ≡ went v n → 1 ≤ n → f v ≡ g v) → then_run s f ≡ then_run s g
unfolding then_run
then_same (went v n) f g h = same_way (done tt v) (leb 1 n) (λ q. h v n refl (leb-true 1 n q))
then_same (stuck v) f g h = refl

same_fuel : (n k : ℕ) (c : Choice) (w : World) → w.state.end < n → w.state.end < k → run_by n c w ≡ run_by k c w
unfolding run_by
same_fuel zero k c w h g = absurd (omega arith)
same_fuel (suc n) zero c w h g = absurd (omega arith)
same_fuel (suc n) (suc k) c w h g =
    same_way (done tt w) (leb 1 w.state.end)
    (λ q. then_same (once c w) (run_by n c) (run_by k c) (λ v m e l. same_fuel n k c v (omega (arith, once_end c w v m (sym e))) (omega (arith, once_end c w v m (sym e)))))

run_step : (c : Choice) (w : World) → run c w ≡ (if leb 1 w.state.end then then_run (once c w) (run c) else done tt w)
unfolding run run_by
run_step c w =
    same_way (done tt w) (leb 1 w.state.end)
    (λ q. then_same (once c w) (run_by w.state.end c) (run c) (λ v m e l. same_fuel w.state.end (suc v.state.end) c v (omega (arith, once_end c w v m (sym e))) (omega arith)))

-- the ways on from a state, and out
module _ (c : Choice) (w : World) where
  pub run_empty : w.state.end ≤ 0 → done tt w ≡ run c w
  run_empty h = sym (run_step c w ∙ rw (lt-leb 1 w.state.end (omega arith)))

  module _ (h : 0 < w.state.end) where
    at_turn : then_run (once c w) (run c) ≡ run c w
    at_turn = sym (run_step c w ∙ rw (le-leb 1 w.state.end h))

    run_full : (v : World) → stuck v ≡ once c w → refused_at 5 [] v ≡ run c w
    unfolding then_run
    run_full v e = ap (λ (x : Step). then_run x (run c)) e ∙ at_turn

    pub run_still : (v : World) (n : ℕ) → went v n ≡ once c w → n ≡ 0 → done tt v ≡ run c w
    unfolding then_run
    run_still v n e z = (rw z) ∙ ap (λ (x : Step). then_run x (run c)) e ∙ at_turn

    pub run_goes : (v : World) (n : ℕ) → went v n ≡ once c w → (n ≡ 0 → ⊥) → run c v ≡ run c w
    unfolding then_run
    run_goes v n e z = (rw (le-leb 1 n (omega arith))) ∙ ap (λ (x : Step). then_run x (run c)) e ∙ at_turn

-- the loop: what is to be run from w₀ is what is to be run from w; and the ways on and out, from what `step` answered
module _ (c : Choice) (w₀ w : World) (g : run c w₀ ≡ run c w) (h : 0 < w.state.end) (s : State) (r : Option (State × ℕ)) (m : Memories) (e : stepped s r m ≡ once c w) where
  turned : (x : Option (State × ℕ)) → r ≡ x → stepped s x m ≡ once c w
  turned x q = ap (λ (y : Option (State × ℕ)). stepped s y m) (sym q) ∙ e

  pub turn_full : r ≡ None → refused_at 5 [] (lent s m) ≡ run c w₀
  turn_full q = run_full c w h (lent s m) (turned None q) ∙ sym g

  module _ (x : State) (k : ℕ) (q : r ≡ Some (x, k)) where
    pub turn_still : k ≡ 0 → done tt (lent x m) ≡ run c w₀
    turn_still z = run_still c w h (lent x m) k (turned (Some (x, k)) q) z ∙ sym g

    pub turn_less : (k ≡ 0 → ⊥) → x.end < w.state.end
    turn_less z = omega (arith, once_end c w (lent x m) k (turned (Some (x, k)) q))

    pub turn_on : (k ≡ 0 → ⊥) → run c w₀ ≡ run c (lent x m)
    turn_on z = g ∙ sym (run_goes c w h (lent x m) k (turned (Some (x, k)) q) z)

-- `is_sound`
module _ (s : State) (b m n : ℕ) where
  pub sound_end : b < s.end → false ≡ is_sound s b m n
  unfolding is_sound
  sound_end h = rw (lt-leb s.end b h)

  module _ (h : s.end ≤ b) where
    pub sound_slot : m < s.slot.len → false ≡ is_sound s b m n
    unfolding is_sound
    sound_slot g = rw (le-leb s.end b h, lt-leb s.slot.len m g)

    pub sound_queue : s.slot.len ≤ m → in_bounds (capacity_of ours n) s.queue ≡ is_sound s b m n
    unfolding is_sound
    sound_queue g = rw (le-leb s.end b h, le-leb s.slot.len m g)

  sound_parts : is_sound s b m n ≡ true → (s.end ≤ b) × ((s.slot.len ≤ m) × (in_bounds (capacity_of ours n) s.queue ≡ true))
  unfolding is_sound
  sound_parts h =
      let x = and_both (leb s.end b) (leb s.slot.len m && in_bounds (capacity_of ours n) s.queue) h in
      let y = and_both (leb s.slot.len m) (in_bounds (capacity_of ours n) s.queue) x.1 in
      (leb-true s.end b x.0, (leb-true s.slot.len m y.0, y.1))

-- `checks`
module _ (r : Outcome ℕ) (s : State) (b m n : ℕ) where
  pub checks_long : 4096 < b → refused 1 [] ≡ checks r s b m n
  unfolding checks
  checks_long h = rw (lt-ltb 4096 b h)

  module _ (l : b ≤ 4096) where
    pub checks_table : (k : ℕ) → refused 2 (k ∷ []) ≡ r → refused 2 (k ∷ []) ≡ checks r s b m n
    unfolding checks under_table
    checks_table k e = rw (le-ltb 4096 b l, sym e)

    pub checks_state : (k : ℕ) → answered k ≡ r → (x : Bool) → is_sound s b m n ≡ x → ◌≡◌ {A = Outcome (Unit {0})} (if not x then refused 3 [] else answered tt) (checks r s b m n)
    unfolding checks under_table
    checks_state k e x h = rw (le-ltb 4096 b l, sym e, h)

module _ (c : Choice) (w : World) where
  -- what `judge` answered, where a match tells which it was
  pub judged_as : (r : Result (Unit {0}) CheckError) → refusal r ≡ judged c w → (x : Result (Unit {0}) CheckError) → r ≡ x → refusal x ≡ judged c w
  judged_as r e x q = ap refusal (sym q) ∙ e

  -- what isn't refused 1, 2 or 3 is good
  passed_is : (a x : Bool) (r : Outcome ℕ) → ltb 4096 (length w.buf) ≡ a → is_sound w.state (length w.buf) (length w.slot_memory) (length w.queue_memory) ≡ x → c.rules ≡ r → ◌≡◌ {A = Outcome (Unit {0})} (answered tt) (if a then refused 1 [] else under_table r (if not x then refused 3 [] else answered tt)) → Good c w
  unfolding under_table
  passed_is false true (answered k) l s q e =
      let p = sound_parts w.state (length w.buf) (length w.slot_memory) (length w.queue_memory) s in
      record { long = ltb-false 4096 (length w.buf) l; records = k; ruled = q; inside = p.0; slot_fits = p.1.0; queue_fits = p.1.1 }
  passed_is false false (answered k) l s q e = let z : ◌≡◌ {A = ℕ} 0 1 = cc in absurd (omega arith)
  passed_is false x (refused n v) l s q e = let z : ◌≡◌ {A = ℕ} 0 1 = cc in absurd (omega arith)
  passed_is true x r l s q e = let z : ◌≡◌ {A = ℕ} 0 1 = cc in absurd (omega arith)

  pub passed : Passed c w → Good c w
  unfolding checks
  passed e = passed_is _ _ _ refl refl refl e

  pub passes : Good c w → Passed c w
  unfolding checks under_table
  passes g =
      let s = sym (sound_queue w.state (length w.buf) (length w.slot_memory) (length w.queue_memory) g.inside g.slot_fits) ∙ g.queue_fits in
      rw (le-ltb 4096 (length w.buf) g.long, g.ruled, s)

-- the ways out of `advance`
module _ (c : Choice) (n : ℕ) (w : World) where
  pub advance_refused : (k : ℕ) (v : List ℕ) → refused k v ≡ judged c w → refused_at k v w ≡ advanced c n w
  unfolding advanced unless_refused
  advance_refused k v e = rw (sym e)

  -- what `judge` refused is refused as that
  fails_by : (e : CheckError) → refusal (Err e) ≡ judged c w → record { said = (advance_says w.state (Err (advance_error e))).0; left = with_state w (advance_says w.state (Err (advance_error e))).1 } ≡ advanced c n w
  fails_by judges.TooLong p = advance_refused 1 [] p
  fails_by (judges.BadTable k) p = advance_refused 2 (k ∷ []) p
  fails_by judges.BadState p = advance_refused 3 [] p

  pub advance_fails : (e : CheckError) → refusal (Err e) ≡ judged c w → (x : Result State AdvanceError) → IsErrAnd x (λ f. f ≡ advance_error e) → record { said = (advance_says w.state x).0; left = with_state w (advance_says w.state x).1 } ≡ advanced c n w
  advance_fails e p (Ok s) q = absurd q
  advance_fails e p (Err f) q = rw q (fails_by e p)

  module _ (g : Passed c w) where
    pub advance_room : length w.buf - w.state.end < n → refused_at 4 [] w ≡ advanced c n w
    unfolding advanced unless_refused
    advance_room h = rw (sym g, lt-ltb (length w.buf - w.state.end) n h)

    module _ (h : n ≤ length w.buf - w.state.end) where
      pub at_run : run c (committed w n) ≡ advanced c n w
      unfolding advanced unless_refused
      at_run = rw (sym g, le-ltb (length w.buf - w.state.end) n h)

      module _ (r : Result State RunError) (m : Memories) (p : ran r m ≡ run c (committed w n)) where
        pub advance_ran : (s : State) → r ≡ Ok s → result_of w.state (Ok s) m ≡ advanced c n w
        advance_ran s e = (rw e at p) ∙ at_run

        pub advance_full : (x : RunError) → r ≡ Err x → (y : Result State AdvanceError) → IsErrAnd y (λ f. f ≡ advances.Full x.left) → result_of w.state y m ≡ advanced c n w
        advance_full x e (Ok s) q = absurd q
        advance_full x e (Err f) q = rw q ((rw e at p) ∙ at_run)

-- a run makes no more of what is held, and the buffer no longer or shorter
abbrev Shrinks : World → World → Type 0
Shrinks w v = (v.state.end ≤ w.state.end) × (length v.buf ≡ length w.buf)

then_less : (s : Step) (f : World → After (Unit {0})) → ((v : World) → Shrinks v (f v).left) → Shrinks (left_by_lem s) (then_run s f).left
unfolding then_run
then_less (went v n) f h = ways (λ (r : After (Unit {0})). Shrinks v r.left) (leb 1 n) (λ q. h v) (λ q. (omega arith, refl))
then_less (stuck v) f h = (omega arith, refl)

run_by_less : (n : ℕ) (c : Choice) (w : World) → Shrinks w (run_by n c w).left
unfolding run_by
run_by_less zero c w = (omega arith, refl)
run_by_less (suc n) c w =
    let l = then_less (once c w) (run_by n c) (run_by_less n c) in
    ways (λ (r : After (Unit {0})). Shrinks w r.left) (leb 1 w.state.end) (λ q. (omega (arith, l.0, once_less c w), l.1 ∙ once_long c w)) (λ q. (omega arith, refl))

run_less : (c : Choice) (w : World) → Shrinks w (run c w).left
unfolding run
run_less c w = run_by_less (suc w.state.end) c w

-- the ways out of a copy
module _ (c : Choice) (p : List ℕ) (w : World) where
  pub copy_none : min (length p) (length w.buf - w.state.end) ≡ 0 → wrote 0 w ≡ write_once c p w
  unfolding write_once
  copy_none e = rw (lt-leb 1 (min (length p) (length w.buf - w.state.end)) (omega arith))

  module _ (n : ℕ) (e : n ≡ min (length p) (length w.buf - w.state.end)) (h : n ≡ 0 → ⊥) where
    at_copy : after_copy (run c (copied w (take n p))) n ≡ write_once c p w
    unfolding write_once
    at_copy = rw e (rw (le-leb 1 (min (length p) (length w.buf - w.state.end)) (omega arith)))

    copied_is : (b : List ℕ) → b ≡ put w.buf w.state.end (take n p) → world (with_end w.state (w.state.end + n)) b w.slot_memory w.queue_memory ≡ copied w (take n p)
    copied_is b v =
        let l : n ≡ length (take n p) = sym (length-take-le n p (omega arith)) in
        (λ i. world (with_end w.state (w.state.end + l i)) (v i) w.slot_memory w.queue_memory)

    pub copy_ran : (b : List ℕ) → b ≡ put w.buf w.state.end (take n p) → (r : Result State RunError) (m : Memories) → ran r m ≡ run c (world (with_end w.state (w.state.end + n)) b w.slot_memory w.queue_memory) → (x : Result State RunError) → r ≡ x → after_copy (ran x m) n ≡ write_once c p w
    copy_ran b v r m k x e = ap (λ (z : Result State RunError). after_copy (ran z m) n) (sym e) ∙ ap (λ (z : After (Unit {0})). after_copy z n) (k ∙ ap (run c) (copied_is b v)) ∙ at_copy

-- a copy takes no more than there is, and leaves an end in the buffer
abbrev pub bytes_of : Writing → ℕ
bytes_of (wrote n w) = n
bytes_of (stopped n w) = n

abbrev left_of : Writing → World
left_of (wrote n w) = w
left_of (stopped n w) = w

after_copy_lem : (r : After (Unit {0})) (n : ℕ) → (bytes_of (after_copy r n) ≡ n) × (left_of (after_copy r n) ≡ r.left)
after_copy_lem r n = ways (λ x. (bytes_of x ≡ n) × (left_of x ≡ r.left)) (is_refused r.said) (λ q. (refl, refl)) (λ q. (refl, refl))

module _ (c : Choice) (p : List ℕ) (w : World) where
  pub once_taken : bytes_of (write_once c p w) ≤ length p
  unfolding write_once
  once_taken =
      let n = min (length p) (length w.buf - w.state.end) in
      ways (λ r. bytes_of r ≤ length p) (leb 1 n) (λ q. omega (arith, (after_copy_lem (run c (copied w (take n p))) n).0)) (λ q. omega arith)

  module _ (h : w.state.end ≤ length w.buf) where
    once_inside : let v = left_of (write_once c p w) in (v.state.end ≤ length w.buf) × (length v.buf ≡ length w.buf)
    unfolding write_once
    once_inside =
        let n = min (length p) (length w.buf - w.state.end) in
        let k : n ≤ length p = omega arith in
        let l = run_less c (copied w (take n p)) in
        let f = (after_copy_lem (run c (copied w (take n p))) n).1 in
        ways (λ r. ((left_of r).state.end ≤ length w.buf) × (length (left_of r).buf ≡ length w.buf)) (leb 1 n)
        (λ q. (omega (arith, ap (λ (y : World). y.state.end) f, l.0, length-take-le n p k), ap (λ (y : World). length y.buf) f ∙ l.1 ∙ put_length w.buf w.state.end (take n p)))
        (λ q. (h, refl))

-- a write's fuel does not matter
write_same : (s : Writing) (k : ℕ) (f g : ℕ → World → Writing) → ((v : World) (n : ℕ) → n ≡ bytes_of s → 1 ≤ n → f (k + n) v ≡ g (k + n) v) → then_write s k f ≡ then_write s k g
unfolding then_write
write_same (wrote n v) k f g h = same_way (wrote k v) (leb 1 n) (λ q. h v n refl (leb-true 1 n q))
write_same (stopped n v) k f g h = refl

same_write : (n m : ℕ) (c : Choice) (p : List ℕ) (k : ℕ) (w : World) → length p - k < n → length p - k < m → write_by n c p k w ≡ write_by m c p k w
unfolding write_by
same_write zero m c p k w h g = absurd (omega arith)
same_write (suc n) zero c p k w h g = absurd (omega arith)
same_write (suc n) (suc m) c p k w h g =
    write_same (write_once c (drop k p) w) k (write_by n c p) (write_by m c p) (λ v j e l.
    let z : j ≤ length p - k = omega (arith, once_taken c (drop k p) w, length-drop k p) in
    same_write n m c p (k + j) v (omega arith) (omega arith))

pub write_step : (c : Choice) (p : List ℕ) (k : ℕ) (w : World) → write_on c p k w ≡ then_write (write_once c (drop k p) w) k (write_on c p)
unfolding write_on write_by
write_step c p k w =
    write_same (write_once c (drop k p) w) k (write_by (length p - k) c p) (write_on c p) (λ v j e l.
    let z : j ≤ length p - k = omega (arith, once_taken c (drop k p) w, length-drop k p) in
    same_write (length p - k) (suc (length p - (k + j))) c p (k + j) v (omega arith) (omega arith))

-- the loop of a write: what is to be written from w₀ is what is to be written from w, with k bytes taken
pub record Writes (c : Choice) (p : List ℕ) (w₀ : World) (k : ℕ) (w : World) : Type 0 where
  pub same : write_on c p 0 w₀ ≡ write_on c p k w
  pub inside : w.state.end ≤ length w.buf
  pub within : k ≤ length p

-- the ways on and out, from what `write_once` answered for the bytes d not yet taken
module _ (c : Choice) (p : List ℕ) (w₀ : World) (k : ℕ) (w : World) (g : Writes c p w₀ k w) (d : List ℕ) (f : d ≡ drop k p) (r : Result (State × ℕ) CopyError) (m : Memories) (e : writing r m ≡ write_once c d w) where
  copied_on : (x : Result (State × ℕ) CopyError) → r ≡ x → writing x m ≡ write_once c (drop k p) w
  copied_on x v = ap (λ (y : Result (State × ℕ) CopyError). writing y m) (sym v) ∙ e ∙ ap (λ (y : List ℕ). write_once c y w) f

  at_write : (x : Result (State × ℕ) CopyError) → r ≡ x → then_write (writing x m) k (write_on c p) ≡ write_on c p 0 w₀
  at_write x v = ap (λ (y : Writing). then_write y k (write_on c p)) (copied_on x v) ∙ sym (write_step c p k w) ∙ sym g.same

  module _ (x : CopyError) (v : r ≡ Err x) where
    pub on_full : stopped (k + x.taken) (lent x.left m) ≡ write_on c p 0 w₀
    unfolding then_write
    on_full = at_write (Err x) v

    pub full_room : k + x.taken ≤ length p
    full_room = omega (arith, ap bytes_of (copied_on (Err x) v), once_taken c (drop k p) w, length-drop k p, g.within)

  module _ (x : State) (n : ℕ) (v : r ≡ Ok (x, n)) where
    pub on_still : n ≡ 0 → wrote k (lent x m) ≡ write_on c p 0 w₀
    unfolding then_write
    on_still z = rw (lt-leb 1 n (omega arith)) at (at_write (Ok (x, n)) v)

    pub on_room : k + n ≤ length p
    on_room = omega (arith, ap bytes_of (copied_on (Ok (x, n)) v), once_taken c (drop k p) w, length-drop k p, g.within)

    pub on_again : (n ≡ 0 → ⊥) → Writes c p w₀ (k + n) (lent x m)
    unfolding then_write
    on_again z =
        let l = once_inside c (drop k p) w g.inside in
        let f = copied_on (Ok (x, n)) v in
        record {
          same = sym (rw (le-leb 1 n (omega arith)) at (at_write (Ok (x, n)) v));
          inside = omega (arith, ap (λ (y : Writing). (left_of y).state.end) f, ap (λ (y : Writing). length (left_of y).buf) f, l.0, l.1);
          within = on_room;
        }

-- the ways out of `write`
module _ (c : Choice) (p : List ℕ) (w : World) where
  pub write_refused : (n : ℕ) (v : List ℕ) → refused n v ≡ judged c w → refused_at n v w ≡ written c p w
  unfolding written unless_refused
  write_refused n v e = rw (sym e)

  not_written : (e : CheckError) → refusal (Err e) ≡ judged c w → record { said = (write_says w.state (Err (write_error e))).0; left = with_state w (write_says w.state (Err (write_error e))).1 } ≡ written c p w
  not_written judges.TooLong p = write_refused 1 [] p
  not_written (judges.BadTable k) p = write_refused 2 (k ∷ []) p
  not_written judges.BadState p = write_refused 3 [] p

  pub write_fails : (e : CheckError) → refusal (Err e) ≡ judged c w → (x : Result (State × ℕ) WriteError) → IsErrAnd x (λ f. f ≡ write_error e) → record { said = (write_says w.state x).0; left = with_state w (write_says w.state x).1 } ≡ written c p w
  write_fails e p (Ok x) q = absurd q
  write_fails e p (Err f) q = rw q (not_written e p)

  module _ (g : Passed c w) (r : Result (State × ℕ) CopyError) (m : Memories) (e : writing r m ≡ write_on c p 0 w) where
    at_writing : answering (writing r m) ≡ written c p w
    unfolding written unless_refused
    at_writing = ap answering e ∙ rw (sym g)

    pub write_wrote : (x : State × ℕ) → r ≡ Ok x → taking w.state (Ok x) m ≡ written c p w
    write_wrote x v = rw v at at_writing

    pub write_full : (x : CopyError) → r ≡ Err x → (y : Result (State × ℕ) WriteError) → IsErrAnd y (λ f. f ≡ takes.Full x.left x.taken) → taking w.state y m ≡ written c p w
    write_full x v (Ok y) q = absurd q
    write_full x v (Err f) q = rw q (rw v at at_writing)
