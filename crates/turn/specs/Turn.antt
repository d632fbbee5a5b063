-- One turn of the ingress in document 01's words: digest what is in the buffer, deliver, move the rest to the front.
use Rattle.std.specs.Prelude.{◌≡◌, Option, Some, None, Bool, true, false, List, ℕ, ◌-◌, length, take, if◌then◌else◌}
use Rattle.text.specs.Text.{part_of}
use Rattle.moves.specs.Moves.{moved}
use Rattle.outcome.specs.Outcome.{Outcome, answered, refused}
use Rattle.answers.specs.Answer.{is_notice, carried}
use Rattle.answers.specs.declared.Answer.{Answer}
use Rattle.selector.specs.Selector.{Choice}
use Rattle.slot.specs.Slot.{signalled}
use Rattle.slot.specs.Slot as slots
use Rattle.slot.specs.declared.Slot.{Slot}
use Rattle.queue.specs.Queue.{ours, put_into}
use Rattle.queue.specs.Queue as queues
use Rattle.queue.specs.declared.Queue.{Queue}
use Rattle.turn.specs.declared.State.{State}
use Rattle.turn.specs.declared.Memories.{Memories}

-- a state with another end, another slot, another queue
abbrev pub with_end : State → ℕ → State
with_end s e = record { end = e; slot = s.slot; queue = s.queue }

abbrev pub with_slot : State → Slot → State
with_slot s x = record { end = s.end; slot = x; queue = s.queue }

abbrev pub with_queue : State → Queue → State
with_queue s q = record { end = s.end; slot = s.slot; queue = q }

-- what a delivery leaves, and whether it must wait
pub record Delivery : Type 0 where
  pub waits : Bool
  pub state : State
  pub slot_memory : List ℕ
  pub queue_memory : List ℕ

-- a slot's or a queue's next value: the answer's, or at a refusal as it stood
abbrev pub or_same : {A : Type 0} → A → Outcome A → A
or_same x (answered y) = y
or_same x (refused n v) = x

abbrev pub is_refused : {A : Type 0} → Outcome A → Bool
is_refused (answered y) = false
is_refused (refused n v) = true

abbrev pub to_queue : State → List ℕ → queues.After → Delivery
to_queue s m w = record { waits = is_refused w.said; state = with_queue s (or_same s.queue w.said); slot_memory = m; queue_memory = w.memory }

abbrev pub to_slot : State → List ℕ → slots.After → Delivery
to_slot s n w = record { waits = is_refused w.said; state = with_slot s (or_same s.slot w.said); slot_memory = w.memory; queue_memory = n }

-- To deliver is to signal an answer to the slot, and to write a notice that isn't lost as the record next after those held; None delivers nothing.
unfoldable pub deliver : State → Answer → List ℕ → List ℕ → List ℕ → Delivery
deliver s a p m n =
    if is_notice a.kind then to_queue s m (put_into ours s.queue a.number p n)
    else to_slot s n (signalled s.slot a p m)

abbrev pub delivery : State → Option State → List ℕ → List ℕ → Delivery
delivery s (Some t) m n = record { waits = false; state = t; slot_memory = m; queue_memory = n }
delivery s None m n = record { waits = true; state = s; slot_memory = m; queue_memory = n }

-- the whole state: the numbers, and every byte of the three memories
pub record World : Type 0 where
  pub state : State
  pub buf : List ℕ
  pub slot_memory : List ℕ
  pub queue_memory : List ℕ

abbrev pub world : State → List ℕ → List ℕ → List ℕ → World
world s b m n = record { state = s; buf = b; slot_memory = m; queue_memory = n }

-- a state with the memories that are lent
abbrev pub lent : State → Memories → World
lent s m = world s m.buf.now m.slot.now m.queue.now

-- each memory is the one that was lent, and as long
abbrev pub SamePlaces : Memories → Memories → Type 0
SamePlaces m n =
    ((m.buf.ghost_name ≡ n.buf.ghost_name) × ((m.slot.ghost_name ≡ n.slot.ghost_name) × (m.queue.ghost_name ≡ n.queue.ghost_name)))
    × ((length m.buf.now ≡ length n.buf.now) × ((length m.slot.now ≡ length n.slot.now) × (length m.queue.now ≡ length n.queue.now)))

abbrev pub with_state : World → State → World
with_state w s = world s w.buf w.slot_memory w.queue_memory

-- what is in the buffer: the bytes before the end, all of them where it lies past the buffer
abbrev pub held : World → List ℕ
held w = take w.state.end w.buf

-- what the chosen digester says of the bytes held
unfoldable pub says : Choice → World → Answer
says c w = c.answers (held w)

-- no line start of the bytes held holds a finished item, by the digester's own line starts and items
abbrev pub Quiet : Choice → World → Type 0
Quiet c w = c.Quiet (held w)

abbrev pub payload_of : List ℕ → Answer → List ℕ
payload_of s a = part_of s a.payload.start a.payload.len

-- the bytes that go along: a numeric error's digits (R-2), else the payload
abbrev pub carried_of : List ℕ → Answer → List ℕ
carried_of s a = part_of s (carried a).start (carried a).len

-- what is delivered of it
abbrev pub delivering : Choice → World → Delivery
delivering c w = deliver w.state (says c w) (carried_of (held w) (says c w)) w.slot_memory w.queue_memory

-- one turn: what it leaves and the bytes it consumed, or that its notice meets a full queue
pub data Step : Type 0 where
  went : World → ℕ → Step
  stuck : World → Step

-- A notice that must wait stays; else what is consumed is gone, and the rest is at the front.
unfoldable pub onward : World → Answer → Delivery → Step
onward w a d =
    if d.waits then stuck (world w.state w.buf d.slot_memory d.queue_memory)
    else went (world (with_end d.state (length (held w) - a.consumed)) (moved w.buf a.consumed (length (held w))) d.slot_memory d.queue_memory) a.consumed

-- Digest what is in the buffer, deliver, move the rest to the front.
unfoldable pub once : Choice → World → Step
unfolding onward
once c w = onward w (says c w) (delivering c w)

abbrev pub stepped : State → Option (State × ℕ) → Memories → Step
stepped s (Some (t, n)) m = went (lent t m) n
stepped s None m = stuck (lent s m)
