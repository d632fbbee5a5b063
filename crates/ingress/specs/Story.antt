-- Where every byte goes and which notices come out, told as a story of events. Demand 3's second half and the winter's fault are stated over it.
use Rattle.std.specs.Prelude.{◌≡◌, Bool, true, false, List, [], ◌∷◌, ◌++◌, ℕ, ◌≤◌, length, get_or, take, drop, eqb, if◌then◌else◌}
use Rattle.text.specs.Text.{part_of}
use Rattle.outcome.specs.Outcome.{Outcome, answered, refused}
use Rattle.answers.specs.Answer.{is_notice}
use Rattle.answers.specs.declared.Answer.{Answer}
use Rattle.slot.specs.Slot.{was_reset}
use Rattle.slot.specs.declared.Slot.{Slot}
use Rattle.queue.specs.Queue.{ours, capacity_of, taken, got, Arrival, waiting, adds}
use Rattle.queue.specs.declared.Queue.{Queue}
use Rattle.queue.specs.declared.Notice.{Notice}
use Rattle.selector.specs.Selector.{Choice}
use Rattle.turn.specs.Turn.{with_end, with_slot, with_queue, is_refused, World, world, with_state, held, says, Quiet, payload_of, went, once}
use Rattle.ingress.specs.Ingress.{judged, cleared, After}

-- a stretch of bytes that a turn consumed, and what the digester said it was
pub record Stretch : Type 0 where
  pub bytes : List ℕ
  pub answer : Answer

-- What happens: bytes arrive behind those held; a turn consumes a stretch; a clear drops what is held; a take hands a notice out; a reset frees the slot, under its next serial number (R-11).
pub data Event : Type 0 where
  arrived : List ℕ → Event
  consumed : Stretch → Event
  dropped : List ℕ → Event
  handed : Arrival → Event
  freed : ℕ → Event

-- The notice that a turn delivers, where it is one of 1 to 1,024 bytes (R-9): that of its own stretch.
abbrev pub notice_of : Stretch → List Arrival
notice_of x = if is_notice x.answer.kind then adds ours x.answer.number (payload_of x.bytes x.answer) else []

-- what each event adds to the bytes that came, to those that went, to the notices delivered, and to those handed out
abbrev pub came_by : Event → List ℕ
came_by (arrived b) = b
came_by (consumed x) = []
came_by (dropped b) = []
came_by (handed a) = []
came_by (freed n) = []

abbrev pub went_by : Event → List ℕ
went_by (arrived b) = []
went_by (consumed x) = x.bytes
went_by (dropped b) = b
went_by (handed a) = []
went_by (freed n) = []

abbrev pub delivered_by : Event → List Arrival
delivered_by (arrived b) = []
delivered_by (consumed x) = notice_of x
delivered_by (dropped b) = []
delivered_by (handed a) = []
delivered_by (freed n) = []

abbrev pub handed_by : Event → List Arrival
handed_by (arrived b) = []
handed_by (consumed x) = []
handed_by (dropped b) = []
handed_by (handed a) = a ∷ []
handed_by (freed n) = []

-- all that the events add, in their order
unfoldable pub flat : {A : Type 0} → (Event → List A) → List Event → List A
flat f [] = []
flat f (e ∷ l) = let r = flat f l in f e ++ r

-- the notices that wait in the queue, oldest first
abbrev pub waiting_in : World → List Arrival
waiting_in w = waiting ours w.state.queue w.queue_memory

abbrev pub emptied : World → World
emptied w = with_state w (with_end w.state (cleared w.state.end))

-- no refusal of 1, 2 or 3 meets the state
abbrev pub Passed : Choice → World → Type 0
Passed c w = answered tt ≡ judged c w

-- Bytes arrive: they stand behind those held, and slot and queue are as they were, their memories too.
pub record Arrives (w : World) (b : List ℕ) (v : World) : Type 0 where
  pub behind : held v ≡ held w ++ b
  pub others : v ≡ world (with_end w.state v.state.end) v.buf w.slot_memory w.queue_memory

-- A turn: what the digester says of the bytes held is delivered, and the stretch, at least one byte, is consumed.
pub record Consumes (c : Choice) (w : World) (x : Stretch) (v : World) : Type 0 where
  pub passed : Passed c w
  pub said : x.answer ≡ says c w
  pub front : x.bytes ≡ take x.answer.consumed (held w)
  pub some : 1 ≤ x.answer.consumed
  pub goes : went v x.answer.consumed ≡ once c w

-- A take hands a notice out: its number, and the payload from the queue's memory.
pub record Hands (w : World) (a : Arrival) (v : World) : Type 0 where
  pub queue : Queue
  pub notice : Notice
  pub takes : answered (got queue notice) ≡ taken ours w.state.queue w.queue_memory
  pub is : a ≡ record { number = notice.number; payload = part_of w.queue_memory notice.place notice.len }
  pub left : v ≡ with_state w (with_queue w.state queue)

pub record Frees (w : World) (n : ℕ) (v : World) : Type 0 where
  pub slot : Slot
  pub resets : answered slot ≡ was_reset w.state.slot n w.slot_memory
  pub left : v ≡ with_state w (with_slot w.state slot)

abbrev pub Happens : Choice → World → Event → World → Type 0
Happens c w (arrived b) v = Arrives w b v
Happens c w (consumed x) v = Consumes c w x v
Happens c w (dropped b) v = (b ≡ held w) × (v ≡ emptied w)
Happens c w (handed a) v = Hands w a v
Happens c w (freed n) v = Frees w n v

-- something in between
pub record Via (P Q : World → Type 0) : Type 0 where
  pub at : World
  pub first : P at
  pub rest : Q at

-- The events happen one after the other, each in the state and memories that the last one left.
abbrev pub Story : Choice → World → List Event → World → Type 0
Story c w [] v = w ≡ v
Story c w (e ∷ l) v = Via (Happens c w e) (λ u. Story c u l v)

-- nothing is dropped, handed out or freed
abbrev pub Fed : List Event → Type 0
Fed [] = Unit {0}
Fed (arrived b ∷ l) = Fed l
Fed (consumed x ∷ l) = Fed l
Fed (dropped b ∷ l) = ⊥
Fed (handed a ∷ l) = ⊥
Fed (freed n ∷ l) = ⊥

-- Conservation: b came in behind what was held, and what was held with b is what went, stretch by stretch in order, followed by what is held now: each byte once.
pub record Over (c : Choice) (w : World) (b : List ℕ) (v : World) : Type 0 where
  pub events : List Event
  pub story : Story c w events v
  pub fed : Fed events
  pub came : flat came_by events ≡ b
  pub bytes : held w ++ b ≡ flat went_by events ++ held v

-- Refusal 5: no lower refusal meets the state, what the digester finds in the buffer is a notice of 1 to 1,024 bytes (R-9), and the queue is full.
pub record Waits (c : Choice) (w : World) : Type 0 where
  pub passed : Passed c w
  pub notice : is_notice (says c w).kind ≡ true
  pub some : 1 ≤ length (payload_of (held w) (says c w))
  pub most : length (payload_of (held w) (says c w)) ≤ ours.longest
  pub full : capacity_of ours (length w.queue_memory) ≤ w.state.queue.count

-- Are bytes taken? Where the call isn't refused, and at refusal 5.
abbrev pub takes_bytes : {A : Type 0} → Outcome A → Bool
takes_bytes (answered x) = true
takes_bytes (refused n v) = eqb n 5

-- What an advance or a write of the bytes b keeps: refused 1 to 4, everything; else every byte is conserved; refusal 5 only where a notice waits.
pub record Keeps {A : Type 0} (c : Choice) (w : World) (b : List ℕ) (r : After A) : Type 0 where
  pub same : takes_bytes r.said ≡ false → r.left ≡ w
  pub over : takes_bytes r.said ≡ true → Over c w b r.left
  pub waits : takes_bytes r.said ≡ true → is_refused r.said ≡ true → Waits c r.left

-- the bytes that a commit of n adds: those that lie behind the bytes held
abbrev pub committed_bytes : World → ℕ → List ℕ
committed_bytes w n = take n (drop w.state.end w.buf)

-- Demand 3, second half: not refused, then no line start of what is left in the buffer holds a finished item.
abbrev pub NothingLeft : {A : Type 0} → Choice → After A → Type 0
NothingLeft c r = is_refused r.said ≡ false → Quiet c r.left

-- how many bytes a write says it took
abbrev pub took_of : Outcome ℕ → ℕ
took_of (answered n) = n
took_of (refused k v) = if eqb k 5 then get_or v 0 0 else 0

-- For a write that took a byte: one that took none digested nothing.
abbrev pub NothingAfter : Choice → After ℕ → Type 0
NothingAfter c r = 1 ≤ took_of r.said → NothingLeft c r
