-- A client's calls under one table, each starting from the state and memories that the last one left; and what can be told of them: the winter's fault, shut out, over a restart too (R-9), and the serial number (R-11).
use Rattle.std.specs.Prelude.{◌≡◌, true, false, List, [], ◌∷◌, ◌++◌, map, ℕ, ◌+◌, length, take, if◌then◌else◌}
use Rattle.text.specs.Text.{part_of}
use Rattle.moves.specs.Moves.{put}
use Rattle.outcome.specs.Outcome.{Outcome, answered, refused}
use Rattle.slot.specs.Slot.{was_reset, was_read, Stands}
use Rattle.slot.specs.declared.Slot.{Slot}
use Rattle.queue.specs.Queue.{ours, older, capacity_of, taken, Got, got, empty, Arrival, waiting}
use Rattle.queue.specs.declared.Queue.{Queue}
use Rattle.convert.specs.Convert.{held_good}
use Rattle.selector.specs.Selector.{Choice}
use Rattle.turn.specs.Turn.{with_slot, with_queue, World, world, with_state, held, says, payload_of}
use Rattle.ingress.specs.Ingress.{advanced, written}
use Rattle.ingress.specs.Story.{Stretch, Event, consumed, notice_of, came_by, went_by, delivered_by, handed_by, flat, waiting_in, emptied, Story, takes_bytes, committed_bytes, took_of}

pub data Call : Type 0 where
  write : List ℕ → Call
  fill : ℕ → List ℕ → Call
  advance : ℕ → Call
  clear : Call
  take_one : Call
  reset : ℕ → Call

-- A fill: the caller lays bytes into the room, n behind the end; bytes that don't fit there change nothing. They arrive when an advance commits them.
abbrev pub after_fill : World → ℕ → List ℕ → World
after_fill w n p = world w.state (put w.buf (w.state.end + n) p) w.slot_memory w.queue_memory

-- what a take and a reset leave: refused, everything
abbrev pub after_take : World → Outcome Got → World
after_take w (answered (got q n)) = with_state w (with_queue w.state q)
after_take w (answered (empty q)) = with_state w (with_queue w.state q)
after_take w (refused n v) = w

abbrev pub after_reset : World → Outcome Slot → World
after_reset w (answered s) = with_state w (with_slot w.state s)
after_reset w (refused n v) = w

-- what each call leaves
abbrev pub left_by : Choice → Call → World → World
left_by c (write p) w = (written c p w).left
left_by c (fill n p) w = after_fill w n p
left_by c (advance n) w = (advanced c n w).left
left_by c clear w = emptied w
left_by c take_one w = after_take w (taken ours w.state.queue w.queue_memory)
left_by c (reset n) w = after_reset w (was_reset w.state.slot n w.slot_memory)

-- the bytes offered that it takes
abbrev pub took_by : Choice → Call → World → List ℕ
took_by c (write p) w = take (took_of (written c p w).said) p
took_by c (fill n p) w = []
took_by c (advance n) w = if takes_bytes (advanced c n w).said then committed_bytes w n else []
took_by c clear w = []
took_by c take_one w = []
took_by c (reset n) w = []

abbrev pub hands_out : List ℕ → Outcome Got → List Arrival
hands_out m (answered (got q n)) = record { number = n.number; payload = part_of m n.place n.len } ∷ []
hands_out m (answered (empty q)) = []
hands_out m (refused n v) = []

-- the notices that it hands out
abbrev pub hands_by : Choice → Call → World → List Arrival
hands_by c (write p) w = []
hands_by c (fill n p) w = []
hands_by c (advance n) w = []
hands_by c clear w = []
hands_by c take_one w = hands_out w.queue_memory (taken ours w.state.queue w.queue_memory)
hands_by c (reset n) w = []

-- what the calls leave, one after the other, and all that they take or hand out
unfoldable pub left_after : Choice → List Call → World → World
left_after c [] w = w
left_after c (x ∷ l) w = left_after c l (left_by c x w)

unfoldable pub along : {A : Type 0} → Choice → (Call → World → List A) → List Call → World → List A
along c f [] w = []
along c f (x ∷ l) w = let r = along c f l (left_by c x w) in f x w ++ r

-- The winter's fault, shut out. What happened is a story of events, in which
-- `bytes`: every byte that was held or was offered and taken is in exactly one of three places: consumed or dropped, in order, or still in the buffer;
-- `notices`: what was handed out, followed by what waits, is what waited at first followed by the notices of the stretches consumed, each of its own stretch:
-- so no arrival is delivered twice.
pub record Told (c : Choice) (l : List Call) (w : World) : Type 0 where
  pub events : List Event
  pub story : Story c w events (left_after c l w)
  pub came : flat came_by events ≡ along c (took_by c) l w
  pub out : flat handed_by events ≡ along c (hands_by c) l w
  pub bytes : held w ++ along c (took_by c) l w ≡ flat went_by events ++ held (left_after c l w)
  pub notices : along c (hands_by c) l w ++ waiting_in (left_after c l w) ≡ waiting_in w ++ flat delivered_by events

-- After refusal 5 and a take that gave a notice, an advance by 0 delivers the waiting notice with its first turn, which consumes it, so once.
pub record GoesOn (c : Choice) (w : World) (q : Queue) : Type 0 where
  pub first : Stretch
  pub rest : List Stretch
  pub story : Story c (with_state w (with_queue w.state q)) (consumed first ∷ map consumed rest) (advanced c 0 (with_state w (with_queue w.state q))).left
  pub notice : notice_of first ≡ record { number = (says c w).number; payload = payload_of (held w) (says c w) } ∷ []

-- R-9: a gateway restarts with the numbers and memories that it kept, but for the queue: that is the converted one, in its own memory.
abbrev pub restarted : World → Queue → List ℕ → World
restarted w q m = world (with_queue w.state q) w.buf w.slot_memory m

-- A gateway kept w, with its queue in the old form, converted that and goes on from v.
-- `told`: from there on every byte is in one of the three places, and no arrival is delivered twice, as ever;
-- `notices`: what was handed out since, followed by what waits, is what waited in the old queue followed by the notices of the stretches consumed since:
-- so each notice that waited over the restart was handed out once, in its order and before any new one, or waits still;
-- `good`: each record that waits in v has its mark and a good length, which is all that a take asks of one.
pub record Restart (c : Choice) (l : List Call) (w v : World) : Type 0 where
  pub told : Told c l v
  pub notices : along c (hands_by c) l v ++ waiting_in (left_after c l v) ≡ waiting older w.state.queue w.queue_memory ++ flat delivered_by told.events
  pub good : let x = v.state.queue in held_good ours v.queue_memory (capacity_of ours (length v.queue_memory)) x.start 0 x.count ≡ true

-- R-11: the serial number that a call puts in force, where it is a reset and isn't refused
abbrev pub forced : ℕ → Outcome Slot → List ℕ
forced n (answered s) = n ∷ []
forced n (refused k v) = []

abbrev pub forced_by : Call → World → List ℕ
forced_by (write p) w = []
forced_by (fill n p) w = []
forced_by (advance n) w = []
forced_by clear w = []
forced_by take_one w = []
forced_by (reset n) w = forced n (was_reset w.state.slot n w.slot_memory)

abbrev pub last_of : ℕ → List ℕ → ℕ
last_of n [] = n
last_of n (k ∷ l) = last_of k l

-- The number in force behind the calls: that of the last answered reset, or with none the slot's before them, 0 of a new one.
abbrev pub in_force : Choice → List Call → World → ℕ
in_force c l w = last_of w.state.slot.serial (along c forced_by l w)

-- The call that stored what the slot holds behind the calls: the slot was free before it, what it stored stands since, and bears the number that was in force then.
pub record Stored (c : Choice) (l : List Call) (w : World) : Type 0 where
  pub before : List Call
  pub call : Call
  pub behind : List Call
  pub is : l ≡ before ++ (call ∷ behind)
  pub free : (left_after c before w).state.slot.signalled ≡ false
  pub stands : let u = left_by c call (left_after c before w) in let v = left_after c l w in Stands u.state.slot u.slot_memory v.state.slot v.slot_memory
  pub bears : (left_after c l w).state.slot.serial ≡ in_force c before w

-- The serial number over any calls.
-- `serial`: the slot's is the one in force, so between two answered resets it stands still;
-- `tells`: a lookup tells that one with the answer;
-- `stored`: from a free slot on, an answer that is held bears the number that was in force when it was stored.
pub record Serials (c : Choice) (l : List Call) (w : World) : Type 0 where
  pub serial : (left_after c l w).state.slot.serial ≡ in_force c l w
  pub tells : (x : Slot) → answered (record { there = true; slot = x }) ≡ was_read (left_after c l w).state.slot (left_after c l w).slot_memory → x.serial ≡ in_force c l w
  pub stored : w.state.slot.signalled ≡ false → (left_after c l w).state.slot.signalled ≡ true → Stored c l w
