-- Advanced and Written can be read off what `result_of` and `taking` make of them; so can the memories.
use Rattle.std.specs.Prelude.{Result, Ok, Err, ◌≡◌, refl, ℕ, get_or, eqb, if◌then◌else◌}
use Rattle.std.proofs.Common.{ap}
use Rattle.outcome.specs.Outcome.{Outcome, answered, refused}
use Rattle.turn.specs.declared.Memories.{Memories}
use Rattle.turn.specs.declared.State.{State}
use Rattle.ingress.specs.declared.AdvanceError.{AdvanceError}
use Rattle.ingress.specs.declared.AdvanceError.TheVariants as advances
use Rattle.ingress.specs.declared.WriteError.{WriteError}
use Rattle.ingress.specs.declared.WriteError.TheVariants as takes
use Rattle.ingress.specs.Ingress.{After, advance_says, write_says}

abbrev pub advanced_of : Outcome (Unit {0}) → State → Result State AdvanceError
advanced_of (answered x) s = Ok s
advanced_of (refused k v) s =
    if eqb k 1 then (Err advances.TooLong)
    else if eqb k 2 then Err (advances.BadTable (get_or v 0 0))
    else if eqb k 3 then (Err advances.BadState)
    else if eqb k 4 then (Err advances.NoRoom)
    else Err (advances.Full s)

pub advanced_back : (s : State) (r : Result State AdvanceError) → advanced_of (advance_says s r).0 (advance_says s r).1 ≡ r
advanced_back s (Ok x) = refl
advanced_back s (Err advances.TooLong) = refl
advanced_back s (Err (advances.BadTable k)) = refl
advanced_back s (Err advances.BadState) = refl
advanced_back s (Err advances.NoRoom) = refl
advanced_back s (Err (advances.Full x)) = refl

abbrev pub written_of : Outcome ℕ → State → Result (State × ℕ) WriteError
written_of (answered n) s = Ok (s, n)
written_of (refused k v) s =
    if eqb k 1 then (Err takes.TooLong)
    else if eqb k 2 then Err (takes.BadTable (get_or v 0 0))
    else if eqb k 3 then (Err takes.BadState)
    else Err (takes.Full s (get_or v 0 0))

pub written_back : (s : State) (r : Result (State × ℕ) WriteError) → written_of (write_says s r).0 (write_says s r).1 ≡ r
written_back s (Ok (x, n)) = refl
written_back s (Err takes.TooLong) = refl
written_back s (Err (takes.BadTable k)) = refl
written_back s (Err takes.BadState) = refl
written_back s (Err (takes.Full x n)) = refl

-- the same bytes in each of the three
abbrev pub SameMemories : Memories → Memories → Type 0
SameMemories m n = (m.buf.now ≡ n.buf.now) × ((m.slot.now ≡ n.slot.now) × (m.queue.now ≡ n.queue.now))

pub same_memories : {A : Type 0} (x y : After A) → x ≡ y → (x.left.buf ≡ y.left.buf) × ((x.left.slot_memory ≡ y.left.slot_memory) × (x.left.queue_memory ≡ y.left.queue_memory))
same_memories x y e = (ap (λ z. z.left.buf) e, (ap (λ z. z.left.slot_memory) e, ap (λ z. z.left.queue_memory) e))
