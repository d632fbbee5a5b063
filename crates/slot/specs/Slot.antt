-- The response slot in document 01's words: what each call leaves of the slot and of its memory, and when it refuses.
use Rattle.std.specs.Prelude.{Result, Ok, Err, ◌≡◌, Bool, true, false, not, List, [], ℕ, length, ltb, eqb, if◌then◌else◌}
use Rattle.moves.specs.Moves.{put, one_more}
use Rattle.outcome.specs.Outcome.{Outcome, answered, refused}
use Rattle.answers.specs.Answer.{numbered, stored, is_numeric}
use Rattle.answers.specs.declared.Kind.{Kind}
use Rattle.answers.specs.declared.Kind.TheVariants as kind
use Rattle.answers.specs.declared.Answer.{Answer}
use Rattle.slot.specs.declared.Held.TheVariants.{Heard, Capacity}
use Rattle.slot.specs.declared.Slot.{Slot}
use Rattle.slot.specs.declared.SlotError.{SlotError}
use Rattle.slot.specs.declared.SlotError.TheVariants as turns
use Rattle.slot.specs.declared.ResetError.{ResetError}
use Rattle.slot.specs.declared.ResetError.TheVariants as resets
use Rattle.slot.specs.declared.Looked.{Looked}
use Rattle.slot.specs.declared.Looked.TheVariants as looks

-- None and notices are no answers for the slot
abbrev pub is_response : Kind → Bool
is_response kind.None = false
is_response kind.Notice = false
is_response _ = true

-- A signal's bytes are used for Ok and custom error, as the payload, and for the numeric errors, as the digits (R-2).
abbrev pub carries : Kind → Bool
carries kind.Ok = true
carries kind.Cme = true
carries kind.Cms = true
carries kind.Unknown = true
carries kind.Custom = true
carries _ = false

-- A new slot is free and holds an empty Ok, counts 0, and its serial number is 0 (R-11).
abbrev pub new_slot : Slot
new_slot = record { signalled = false; held = Heard kind.Ok; number = 0; len = 0; lost = 0; serial = 0 }

-- A signal on a free slot stores the answer.
abbrev pub filled : Slot → Kind → ℕ → ℕ → Slot
filled x k n len = record { signalled = true; held = Heard k; number = stored (numbered k n); len = len; lost = x.lost; serial = x.serial }

-- Bytes longer than the memory: digits are left out and their length is 0 (R-2); else the slot reads CapacityError.
abbrev pub overflowing : Slot → Kind → ℕ → Slot
overflowing x k n = if is_numeric k then filled x k n 0 else record { signalled = true; held = Capacity; number = 0; len = 0; lost = x.lost; serial = x.serial }

-- Nothing changes but a count of lost answers.
abbrev pub with_lost : Slot → ℕ → Slot
with_lost x n = record { signalled = x.signalled; held = x.held; number = x.number; len = x.len; lost = n; serial = x.serial }

abbrev pub lost_one : Slot → Slot
lost_one x = with_lost x (one_more x.lost)

-- Reset frees, takes the next serial number and stores it (R-11), and changes nothing else.
abbrev pub freed : Slot → ℕ → Slot
freed x n = record { signalled = false; held = x.held; number = x.number; len = x.len; lost = x.lost; serial = n }

-- what a call says, and the memory that it leaves
pub record After : Type 0 where
  pub said : Outcome Slot
  pub memory : List ℕ

abbrev pub after : Outcome Slot → List ℕ → After
after o m = record { said = o; memory = m }

-- a signal of the answer a with the bytes p, its payload or its digits, on the slot x with the memory m
unfoldable pub signalled : Slot → Answer → List ℕ → List ℕ → After
signalled x a p m =
    if ltb (length m) x.len then after (refused 3 []) m
    else if not (is_response a.kind) then after (answered x) m
    else if x.signalled then after (answered (lost_one x)) m
    else if not (carries a.kind) then after (answered (filled x a.kind a.number 0)) m
    else if ltb (length m) (length p) then after (answered (overflowing x a.kind a.number)) m
    else after (answered (filled x a.kind a.number (length p))) (put m 0 p)

-- document 01's number for each case of a signal's answer
abbrev pub outcome : Result Slot SlotError → Outcome Slot
outcome (Ok x) = answered x
outcome (Err turns.BadLength) = refused 3 []

-- a reset with the serial number n; the number already in force is refused (R-11)
unfoldable pub was_reset : Slot → ℕ → List ℕ → Outcome Slot
was_reset x n m =
    if ltb (length m) x.len then refused 3 []
    else if eqb n x.serial then refused 15 []
    else answered (freed x n)

-- and of a reset's
abbrev pub resetting : Result Slot ResetError → Outcome Slot
resetting (Ok x) = answered x
resetting (Err resets.BadLength) = refused 3 []
resetting (Err resets.Repeated) = refused 15 []

-- What a look says: whether there is an answer, and the slot as it stood.
pub record Reading : Type 0 where
  pub there : Bool
  pub slot : Slot

abbrev pub reading : Result Looked SlotError → Outcome Reading
reading (Ok (looks.Signalled x)) = answered (record { there = true; slot = x })
reading (Ok (looks.Nothing x)) = answered (record { there = false; slot = x })
reading (Err turns.BadLength) = refused 3 []

unfoldable pub was_read : Slot → List ℕ → Outcome Reading
was_read x m = if ltb (length m) x.len then refused 3 [] else answered (record { there = x.signalled; slot = x })

-- Reading a free slot answers nothing: how many bytes of the memory's front are a payload, or digits, to be read.
abbrev pub readable : Slot → ℕ
readable x = if x.signalled then x.len else 0

-- An answer that is stored stands (R-11): the slot y is x, its serial number with it, but for the count of lost answers, and its memory k is m, byte for byte.
abbrev pub Stands : Slot → List ℕ → Slot → List ℕ → Type 0
Stands x m y k = (y ≡ with_lost x y.lost) × (k ≡ m)
