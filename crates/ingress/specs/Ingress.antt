-- The ingress in document 01's words, over one turn of it.
use Rattle.std.specs.Prelude.{Result, Ok, Err, Bool, ◌&&◌, not, List, [], ◌∷◌, ℕ, zero, suc, ◌+◌, ◌-◌, min, length, take, drop, leb, ltb, if◌then◌else◌}
use Rattle.moves.specs.Moves.{put}
use Rattle.outcome.specs.Outcome.{Outcome, answered, refused}
use Rattle.table.specs.declared.TableError.{TableError}
use Rattle.table.specs.declared.TableError.TheVariants as tables
use Rattle.queue.specs.Queue.{ours, capacity_of, in_bounds}
use Rattle.selector.specs.Selector.{Choice}
use Rattle.turn.specs.Turn.{with_end, is_refused, World, world, lent, with_state, Step, went, stuck, once}
use Rattle.turn.specs.declared.State.{State}
use Rattle.turn.specs.declared.Memories.{Memories}
use Rattle.ingress.specs.declared.CheckError.{CheckError}
use Rattle.ingress.specs.declared.CheckError.TheVariants as judges
use Rattle.ingress.specs.declared.CopyError.{CopyError}
use Rattle.ingress.specs.declared.WriteError.{WriteError}
use Rattle.ingress.specs.declared.WriteError.TheVariants as takes
use Rattle.ingress.specs.declared.AdvanceError.{AdvanceError}
use Rattle.ingress.specs.declared.AdvanceError.TheVariants as advances
use Rattle.ingress.specs.declared.RunError.{RunError}

-- what a call says, and all that it leaves
pub record After (A : Type 0) : Type 0 where
  pub said : Outcome A
  pub left : World

abbrev pub done : {A : Type 0} → A → World → After A
done x w = record { said = answered x; left = w }

abbrev pub refused_at : {A : Type 0} → ℕ → List ℕ → World → After A
refused_at n v w = record { said = refused n v; left = w }

-- Refusal 5: the turn's notice meets a full queue, and stays in the buffer with what lay with it.
unfoldable pub then_run : Step → (World → After (Unit {0})) → After (Unit {0})
then_run (went w n) f = let r = f w in if leb 1 n then r else done tt w
then_run (stuck w) f = refused_at 5 [] w

-- with fuel, of which one more than the bytes held is enough
unfoldable pub run_by : ℕ → Choice → World → After (Unit {0})
unfolding then_run once
run_by zero c w = done tt w
run_by (suc n) c w = let r = then_run (once c w) (run_by n c) in if leb 1 w.state.end then r else done tt w

-- Repeats: digest, deliver, move, until the digest consumes 0 or nothing is left.
unfoldable pub run : Choice → World → After (Unit {0})
unfolding run_by
run c w = run_by (suc w.state.end) c w

abbrev pub run_says : Result State RunError → Outcome (Unit {0}) × State
run_says (Ok s) = (answered tt, s)
run_says (Err e) = (refused 5 [], e.left)

abbrev pub ran : Result State RunError → Memories → After (Unit {0})
ran r m = record { said = (run_says r).0; left = lent (run_says r).1 m }

-- Refusal 3: the end is past the buffer; a stored length is past the slot's memory; start or count outside its bounds.
unfoldable pub is_sound : State → ℕ → ℕ → ℕ → Bool
is_sound s b m n = leb s.end b && (leb s.slot.len m && in_bounds (capacity_of ours n) s.queue)

unfoldable pub under_table : {A : Type 0} → Outcome ℕ → Outcome A → Outcome A
under_table (answered k) r = r
under_table (refused n v) r = refused n v

-- Refusals 1, 2 and 3, in this order: the buffer is over 4,096 bytes, the table is none that the digester takes, the state isn't sound. What it says of the table is r.
unfoldable pub checks : Outcome ℕ → State → ℕ → ℕ → ℕ → Outcome (Unit {0})
unfolding under_table is_sound
checks r s b m n = if ltb 4096 b then refused 1 [] else under_table r (if not (is_sound s b m n) then refused 3 [] else answered tt)

-- a faulty table's refusal as a check's
abbrev pub table_error : TableError → CheckError
table_error (tables.Faulty k) = judges.BadTable k

abbrev pub refusal : Result (Unit {0}) CheckError → Outcome (Unit {0})
refusal (Ok tt) = answered tt
refusal (Err judges.TooLong) = refused 1 []
refusal (Err (judges.BadTable k)) = refused 2 (k ∷ [])
refusal (Err judges.BadState) = refused 3 []

abbrev pub judged : Choice → World → Outcome (Unit {0})
judged c w = checks c.rules w.state (length w.buf) (length w.slot_memory) (length w.queue_memory)

-- A call that is refused 1, 2 or 3 leaves everything.
unfoldable pub unless_refused : {A : Type 0} → Outcome (Unit {0}) → World → After A → After A
unless_refused (answered x) w r = r
unless_refused (refused n v) w r = refused_at n v w

-- n more bytes of the buffer are held
abbrev pub committed : World → ℕ → World
committed w n = with_state w (with_end w.state (w.state.end + n))

-- Advance adds the commit and runs turns, of which refusal 5 leaves those finished. Refusal 4: the commit is more than the room.
unfoldable pub advanced : Choice → ℕ → World → After (Unit {0})
unfolding unless_refused checks
advanced c n w = unless_refused (judged c w) w (if ltb (length w.buf - w.state.end) n then refused_at 4 [] w else run c (committed w n))

-- a check's refusals as an advance's
abbrev pub advance_error : CheckError → AdvanceError
advance_error judges.TooLong = advances.TooLong
advance_error (judges.BadTable k) = advances.BadTable k
advance_error judges.BadState = advances.BadState

-- document 01's number and values for each case, and the state that is left
abbrev pub advance_says : State → Result State AdvanceError → Outcome (Unit {0}) × State
advance_says s (Ok x) = (answered tt, x)
advance_says s (Err advances.TooLong) = (refused 1 [], s)
advance_says s (Err (advances.BadTable k)) = (refused 2 (k ∷ []), s)
advance_says s (Err advances.BadState) = (refused 3 [], s)
advance_says s (Err advances.NoRoom) = (refused 4 [], s)
advance_says s (Err (advances.Full x)) = (refused 5 [], x)

abbrev pub result_of : State → Result State AdvanceError → Memories → After (Unit {0})
result_of s r m = record { said = (advance_says s r).0; left = lent (advance_says s r).1 m }

-- how a write ends: the bytes taken and all that it leaves; or the same at a notice that meets a full queue
pub data Writing : Type 0 where
  wrote : ℕ → World → Writing
  stopped : ℕ → World → Writing

-- the bytes copied behind those held, and committed
abbrev pub copied : World → List ℕ → World
copied w p = committed (world w.state (put w.buf w.state.end p) w.slot_memory w.queue_memory) (length p)

abbrev pub after_copy : After (Unit {0}) → ℕ → Writing
after_copy r n = if is_refused r.said then stopped n r.left else wrote n r.left

-- Copies as much as fits, and advances. Where nothing fits, or nothing is left, nothing is digested.
unfoldable pub write_once : Choice → List ℕ → World → Writing
write_once c p w =
    let n = min (length p) (length w.buf - w.state.end) in
    if leb 1 n then after_copy (run c (copied w (take n p))) n else wrote 0 w

-- after a copy that took n bytes, where k were taken before it
unfoldable pub then_write : Writing → ℕ → (ℕ → World → Writing) → Writing
then_write (wrote n w) k f = let r = f (k + n) w in if leb 1 n then r else wrote k w
then_write (stopped n w) k f = stopped (k + n) w

-- with fuel, of which one more than the bytes not yet taken is enough
unfoldable pub write_by : ℕ → Choice → List ℕ → ℕ → World → Writing
unfolding then_write write_once
write_by zero c p k w = wrote k w
write_by (suc n) c p k w = then_write (write_once c (drop k p) w) k (write_by n c p)

-- Goes on until the piece is used up or there is no room, k bytes of it taken already.
unfoldable pub write_on : Choice → List ℕ → ℕ → World → Writing
unfolding write_by
write_on c p k w = write_by (suc (length p - k)) c p k w

abbrev pub writing : Result (State × ℕ) CopyError → Memories → Writing
writing (Ok (s, n)) m = wrote n (lent s m)
writing (Err e) m = stopped e.taken (lent e.left m)

-- It answers the bytes taken; with refusal 5 it answers that too, the last copy included.
abbrev pub answering : Writing → After ℕ
answering (wrote n w) = done n w
answering (stopped n w) = refused_at 5 (n ∷ []) w

unfoldable pub written : Choice → List ℕ → World → After ℕ
unfolding unless_refused checks write_on
written c p w = unless_refused (judged c w) w (answering (write_on c p 0 w))

-- a check's refusals as a write's
abbrev pub write_error : CheckError → WriteError
write_error judges.TooLong = takes.TooLong
write_error (judges.BadTable k) = takes.BadTable k
write_error judges.BadState = takes.BadState

abbrev pub write_says : State → Result (State × ℕ) WriteError → Outcome ℕ × State
write_says s (Ok (x, n)) = (answered n, x)
write_says s (Err takes.TooLong) = (refused 1 [], s)
write_says s (Err (takes.BadTable k)) = (refused 2 (k ∷ []), s)
write_says s (Err takes.BadState) = (refused 3 [], s)
write_says s (Err (takes.Full x n)) = (refused 5 (n ∷ []), x)

abbrev pub taking : State → Result (State × ℕ) WriteError → Memories → After ℕ
taking s r m = record { said = (write_says s r).0; left = lent (write_says s r).1 m }

-- Clear takes the end alone and makes it 0.
abbrev pub cleared : ℕ → ℕ
cleared end = 0
