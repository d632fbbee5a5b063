-- What each number of a lent array means: a state as ten numbers, what a call answers at the front of an array of nine, and a digester by its number.
use Rattle.std.specs.Prelude.{List, [], ◌∷◌, ℕ, ◌+◌, min, get_or, eqb, ltb, if◌then◌else◌}
use Rattle.std.proofs.lemmas.List.Edits.{sets}
use Rattle.text.specs.declared.Span.{Span}
use Rattle.lines.specs.declared.Digester.TheVariants.{Verbose, Connect}
use Rattle.answers.specs.declared.Kind.{Kind}
use Rattle.answers.specs.declared.Kind.TheVariants as kind
use Rattle.answers.specs.declared.Answer.{Answer}
use Rattle.answers.specs.Answer.{kind_number, kinds}
use Rattle.selector.specs.declared.Selector.{Selector}
use Rattle.selector.specs.declared.Selector.TheVariants.{Verbal, Numeric}
use Rattle.slot.specs.declared.Held.{Held}
use Rattle.slot.specs.declared.Held.TheVariants.{Heard, Capacity}
use Rattle.slot.specs.declared.Slot.{Slot}
use Rattle.queue.specs.declared.Queue.{Queue}
use Rattle.turn.specs.declared.State.{State}

-- The digesters by number: 0 document 01's, 1 the one that hears the text of a CONNECT line too (R-3), 2 the one for V0 (R-1); any other number reads as 0.
abbrev pub selector_of : ℕ → Selector
selector_of n = if eqb n 1 then Verbal Connect else if eqb n 2 then Numeric else Verbal Verbose

-- A number over 13 reads as None.
abbrev pub kind_of : ℕ → Kind
kind_of n = get_or kinds n kind.None

-- A number over 4,294,967,295 reads as that.
abbrev pub word : ℕ → ℕ
word n = min n 4294967295

-- a part of the input: its place, and behind that its length
abbrev pub span_of : List ℕ → ℕ → Span
span_of v i = record { start = get_or v i 0; len = get_or v (i + 1) 0 }

-- an answer from its nine numbers, in the order in which the digester's export leaves them
abbrev pub answer_of : List ℕ → Answer
answer_of v = record { kind = kind_of (get_or v 0 0); number = word (get_or v 1 0); payload = span_of v 2; digits = span_of v 5; text = span_of v 7; consumed = get_or v 4 0 }

-- what a slot holds: 0 to 13 a kind, 14 CapacityError; a number over 14 reads as CapacityError too
abbrev pub held_number : Held → ℕ
held_number (Heard k) = kind_number k
held_number Capacity = 14

abbrev pub held_of : ℕ → Held
held_of n = if ltb 13 n then Capacity else Heard (kind_of n)

-- The state is ten numbers: the end (0); of the slot signalled (1), held (2), number (3), stored length (4), lost answers (5); of the queue start (6), count (7), lost notices (8);
-- and the slot's serial number (9, R-11). Signalled is 1, free 0, and any number but 0 reads as signalled. Any ten numbers are a state.
abbrev pub slot_of : List ℕ → Slot
slot_of v = record { signalled = ltb 0 (get_or v 1 0); held = held_of (get_or v 2 0); number = word (get_or v 3 0); len = get_or v 4 0; lost = word (get_or v 5 0); serial = word (get_or v 9 0) }

abbrev pub queue_of : List ℕ → Queue
queue_of v = record { start = get_or v 6 0; count = get_or v 7 0; lost = word (get_or v 8 0) }

abbrev pub state_of : List ℕ → State
state_of v = record { end = get_or v 0 0; slot = slot_of v; queue = queue_of v }

-- What stands where `old` stood once `new` is to be read there. A number over the largest plain one, `most`, reads as that; one that reads as `new` already stays as it stood.
unfoldable pub kept : ℕ → ℕ → ℕ → ℕ
kept most old new = if eqb (min old most) new then old else new

-- A state's numbers v with another slot: signalled is at most 1, held at most 14, number, lost answers and serial number are of 32 bits; the length is taken whole.
abbrev pub with_slot : List ℕ → Slot → List ℕ
with_slot v x =
    sets
    (sets v 1
    (kept 1 (get_or v 1 0) (if x.signalled then 1 else 0)
    ∷ kept 14 (get_or v 2 0) (held_number x.held)
    ∷ kept 4294967295 (get_or v 3 0) x.number
    ∷ x.len
    ∷ kept 4294967295 (get_or v 5 0) x.lost
    ∷ []))
    9
    (kept 4294967295 (get_or v 9 0) x.serial ∷ [])

-- with another queue: start and count are taken whole
abbrev pub with_queue : List ℕ → Queue → List ℕ
with_queue v x = sets v 6 (x.start ∷ x.count ∷ kept 4294967295 (get_or v 8 0) x.lost ∷ [])

-- with another end, which is taken whole; and with all three
abbrev pub with_end : List ℕ → ℕ → List ℕ
with_end v n = sets v 0 (n ∷ [])

abbrev pub with_state : List ℕ → State → List ℕ
with_state v s = with_queue (with_slot (with_end v s.end) s.slot) s.queue

-- The values v that a call answers stand at the front of the lent array; its other numbers stay as they were.
abbrev pub laid : List ℕ → List ℕ → List ℕ
laid v o = sets o 0 v

-- an answer of the digester: kind, number, place, length, bytes consumed; behind them the places and lengths of the digits (R-2) and of the text (R-3)
abbrev pub answer_values : Answer → List ℕ
answer_values a = kind_number a.kind ∷ a.number ∷ a.payload.start ∷ a.payload.len ∷ a.consumed ∷ a.digits.start ∷ a.digits.len ∷ a.text.start ∷ a.text.len ∷ []
