-- Any two results that a contract of this crate allows are equal, every byte of the lent memories too: those of a turn can be read off it.
use Rattle.std.specs.Prelude.{Option, Some, None}
use mathlib.Core.Path.{◌≡◌, refl, sym, ap, ◌∙◌}
use Prim.Native.Nat.{ℕ}
use Rattle.outcome.specs.One.{Alike}
use Rattle.text.specs.Logic.{determined}
use Rattle.turn.specs.declared.Memories.{Memories}
use Rattle.turn.specs.declared.State.{State}
use Rattle.turn.specs.Turn.{Step, went, stuck, stepped}
use Rattle.turn.specs.Laws.{left_by_lem}
use Rattle.turn.proofs as calls

-- The bytes held; where they lie is the caller's buffer.
pub held_one : Alike calls.Memories.held.Reads.Post (λ κs x y s t. x.now ≡ y.now)
held_one κs a x y s t = determined

abbrev stepped_of : Step → Option (State × ℕ)
stepped_of (went w n) = Some (w.state, n)
stepped_of (stuck w) = None

module _ (s : State) (m : Memories) where
  stepped_back : (r : Option (State × ℕ)) → (stepped_of (stepped s r m) ≡ r) × (((left_by_lem (stepped s r m)).buf ≡ m.buf.now) × (((left_by_lem (stepped s r m)).slot_memory ≡ m.slot.now) × ((left_by_lem (stepped s r m)).queue_memory ≡ m.queue.now)))
  stepped_back (Some (x, k)) = (refl, (refl, (refl, refl)))
  stepped_back None = (refl, (refl, (refl, refl)))

-- behind selector, table and state: the buffer, the slot's memory, the queue's memory
pub step_one : Alike calls.step.Reads.Post (λ κs x y s t. let m = s.1.1.1.0.now in let n = t.1.1.1.0.now in (x ≡ y) × ((m.buf.now ≡ n.buf.now) × ((m.slot.now ≡ n.slot.now) × (m.queue.now ≡ n.queue.now))))
step_one κs a x y s t h g =
    let e = determined h.0 g.0 in
    let k = stepped_back a.1.1.0 s.1.1.1.0.now x in
    let l = stepped_back a.1.1.0 t.1.1.1.0.now y in (
      sym k.0 ∙ ap stepped_of e ∙ l.0,
      (
        sym k.1.0 ∙ ap (λ (z : Step). (left_by_lem z).buf) e ∙ l.1.0,
        (
          sym k.1.1.0 ∙ ap (λ (z : Step). (left_by_lem z).slot_memory) e ∙ l.1.1.0,
          sym k.1.1.1 ∙ ap (λ (z : Step). (left_by_lem z).queue_memory) e ∙ l.1.1.1,
        ),
      ),
    )
