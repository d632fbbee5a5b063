-- The calls of document 01 as numbers: what an export returns and leaves.
use Rattle.std.specs.Prelude.{Option, Some, None, Result, Ok, Err, ◌≡◌, Bool, List, [], ◌∷◌, ℕ, length, eqb, if◌then◌else◌}
use Rattle.text.specs.Text.{part_of, part_at}
use Rattle.outcome.specs.Outcome.{Outcome, answered, refused}
use Rattle.lists.specs.Grammar as lists
use Rattle.lists.specs.declared.ListError.{ListError}
use Rattle.slot.specs.Slot.{Reading}
use Rattle.slot.specs.Slot as slots
use Rattle.slot.specs.declared.Slot.{Slot}
use Rattle.queue.specs.Queue.{Got, got, empty}
use Rattle.queue.specs.Queue as queues
use Rattle.ingress.specs.Ingress.{After}
use Rattle.feed.specs.Feed.{Fed}
use Rattle.turn.specs.declared.State.{State}
use Rattle.writer.specs.Writer.{Saying}
use Rattle.numbers.specs.Numbers.{held_number, with_slot, with_queue, with_state, laid}

-- what is returned: the refusal's number, 0 where the call isn't refused
abbrev pub number_of : {A : Type 0} → Outcome A → ℕ
number_of (answered x) = 0
number_of (refused n v) = n

-- the values that a call answers: those of its answer, or those that go with the refusal
abbrev pub values_of : {A : Type 0} → (A → List ℕ) → Outcome A → List ℕ
values_of f (answered x) = f x
values_of f (refused n v) = v

-- a call that answers values: what it returns, and what it leaves of the lent array
pub record Call : Type 0 where
  pub number : ℕ
  pub out : List ℕ

abbrev pub call : ℕ → List ℕ → Call
call n o = record { number = n; out = o }

abbrev pub said : {A : Type 0} → (A → List ℕ) → Outcome A → List ℕ → Call
said f o out = call (number_of o) (laid (values_of f o) out)

-- an answer that is a count: a good table's records, the bytes that a write took
abbrev pub count_values : ℕ → List ℕ
count_values n = n ∷ []

-- a reading of R-4: how many elements, or the refusal with its place
abbrev pub listing : Result ℕ ListError → Outcome ℕ
listing (Ok n) = answered n
listing (Err why) = refused (lists.number_of why) (lists.place_of why ∷ [])

-- and what is left of the memory and of the lent array
pub record Listing (s m o : List ℕ) (r : ℕ) (after left : List ℕ) : Type 0 where
  pub listed : Result ℕ ListError
  pub reads : lists.Reading s m listed after
  pub says : call r left ≡ said count_values (listing listed) o

-- a part of the caller's memory: its place there and its length
abbrev pub part_values : List ℕ → ℕ → ℕ → List ℕ
part_values s place len = part_at s place len ∷ length (part_of s place len) ∷ []

-- the numbers that a call leaves; refused, each as it stood
abbrev pub numbers_by : {A : Type 0} → (List ℕ → A → List ℕ) → Outcome A → List ℕ → List ℕ
numbers_by f (answered x) v = f v x
numbers_by f (refused n w) v = v

-- a reset
abbrev pub reset_said : Outcome Slot → List ℕ → Call
reset_said o v = call (number_of o) (numbers_by with_slot o v)

-- a signal, a put or a conversion (R-9): what it returns, and what it leaves of the state's numbers and of the memory
pub record Turn : Type 0 where
  pub number : ℕ
  pub state : List ℕ
  pub memory : List ℕ

abbrev pub turn : ℕ → List ℕ → List ℕ → Turn
turn n v m = record { number = n; state = v; memory = m }

abbrev pub signal_said : slots.After → List ℕ → Turn
signal_said w v = turn (number_of w.said) (numbers_by with_slot w.said v) w.memory

abbrev pub put_said : queues.After → List ℕ → Turn
put_said w v = turn (number_of w.said) (numbers_by with_queue w.said v) w.memory

-- a look: 1, what is held, its number, its payload's length and the serial number that it bears (R-11); of a free slot 0 and no more
abbrev pub read_values : Reading → List ℕ
read_values r = if r.there then 1 ∷ held_number r.slot.held ∷ r.slot.number ∷ r.slot.len ∷ r.slot.serial ∷ [] else 0 ∷ []

-- a take: 1, the notice's table number, its payload's place and length; from an empty queue 0 and no more, and nothing changes
abbrev pub got_values : Got → List ℕ
got_values (got x n) = 1 ∷ n.number ∷ n.place ∷ n.len ∷ []
got_values (empty x) = 0 ∷ []

abbrev pub with_got : List ℕ → Got → List ℕ
with_got v (got x n) = with_queue v x
with_got v (empty x) = v

pub record Take : Type 0 where
  pub number : ℕ
  pub state : List ℕ
  pub out : List ℕ

abbrev pub took : ℕ → List ℕ → List ℕ → Take
took n v o = record { number = n; state = v; out = o }

abbrev pub take_said : Outcome Got → List ℕ → List ℕ → Take
take_said r v o = took (number_of r) (numbers_by with_got r v) (laid (values_of got_values r) o)

-- an advance or a write: what it returns, and all that it leaves
pub record Whole : Type 0 where
  pub number : ℕ
  pub state : List ℕ
  pub out : List ℕ
  pub buf : List ℕ
  pub slot_memory : List ℕ
  pub queue_memory : List ℕ

abbrev pub whole : ℕ → List ℕ → List ℕ → List ℕ → List ℕ → List ℕ → Whole
whole n v o b m q = record { number = n; state = v; out = o; buf = b; slot_memory = m; queue_memory = q }

-- Refused 1 to 4 the state's numbers are as they stood; else they are those of the state that is left.
abbrev pub numbers_left : {A : Type 0} → Outcome A → List ℕ → State → List ℕ
numbers_left (answered x) v s = with_state v s
numbers_left (refused n w) v s = if eqb n 5 then with_state v s else v

-- what it returns and leaves of the numbers and the array, by what it says and the state that is left
abbrev pub left_said : {A : Type 0} → (A → List ℕ) → Outcome A × State → List ℕ → List ℕ → Take
left_said f x v o = took (number_of x.0) (numbers_left x.0 v x.1) (laid (values_of f x.0) o)

abbrev pub whole_said : {A : Type 0} → (A → List ℕ) → After A → List ℕ → List ℕ → Whole
whole_said f r v o = whole (number_of r.said) (numbers_left r.said v r.left.state) (laid (values_of f r.said) o) r.left.buf r.left.slot_memory r.left.queue_memory

-- an advance answers nothing
abbrev pub no_values : {A : Type 0} → A → List ℕ
no_values x = []

-- an advance or a write with findings (R-14): that, and the findings' numbers that it leaves
pub record Feeding : Type 0 where
  pub call : Whole
  pub findings : List ℕ

abbrev pub feeding : Whole → List ℕ → Feeding
feeding w m = record { call = w; findings = m }

abbrev pub feed_said : {A : Type 0} → (A → List ℕ) → Fed A → List ℕ → List ℕ → Feeding
feed_said f r v o = feeding (whole_said f r.result v o) r.numbers

-- the number that goes along with a kind of R-12, or none
abbrev pub given_as : Bool → ℕ → Option ℕ
given_as b n = if b then Some n else None

-- an answer that is written (R-12): what is returned and left of the array, and the output memory that is left
pub record Spoken : Type 0 where
  pub call : Call
  pub output : List ℕ

abbrev pub spoken : Call → List ℕ → Spoken
spoken c m = record { call = c; output = m }

abbrev pub saying_said : Saying → List ℕ → Spoken
saying_said w o = spoken (said count_values w.said o) w.output
