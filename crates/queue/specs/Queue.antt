-- The notice queue in document 01's words, over a geometry of records: what each call leaves of queue and memory, and when it refuses.
use Rattle.std.specs.Prelude.{Option, Some, None, Result, Ok, Err, ◌≡◌, Bool, ◌&&◌, not, List, [], ◌∷◌, ◌++◌, ℕ, zero, suc, ◌+◌, ◌-◌, ◌*◌, ◌/◌, ◌%◌, ◌≤◌, min, length, get_or, take, drop, eqb, leb, ltb, if◌then◌else◌}
use Rattle.text.specs.Bytes.{bytes}
use Rattle.text.specs.Text.{stands, part_of}
use Rattle.moves.specs.Moves.{put, one_more}
use Rattle.outcome.specs.Outcome.{Outcome, answered, refused}
use Rattle.queue.specs.declared.Queue.{Queue}
use Rattle.queue.specs.declared.Notice.{Notice}
use Rattle.queue.specs.declared.PutError.{PutError}
use Rattle.queue.specs.declared.PutError.TheVariants as puts
use Rattle.queue.specs.declared.TakeError.{TakeError}
use Rattle.queue.specs.declared.TakeError.TheVariants as takes

-- How records lie. A record is `size` bytes: a head, which is a mark of two bytes, the table number and the payload's length as it is `spelled` and `read`, then the
-- payload. `head` is how long the head is, `longest` how long a payload may be, `most` how many records there are at most.
pub record Geometry : Type 0 where
  pub size : ℕ
  pub mark : List ℕ
  pub spelled : ℕ → List ℕ
  pub read : List ℕ → ℕ
  pub head : ℕ
  pub longest : ℕ
  pub most : ℕ

-- R-9: records of 1,029 bytes: mark `UX`, table number, payload length 1 to 1,024 in two bytes, high byte first, 1,024 payload bytes.
abbrev pub ours : Geometry
ours = record { size = 1029; mark = bytes "UX"; spelled = λ n. n / 256 % 256 ∷ n % 256 ∷ []; read = λ b. 256 * get_or b 0 0 + get_or b 1 0; head = 5; longest = 1024; most = 16 }

-- Document 01's before R-9, of which queues are still there to be converted: 132 bytes: mark `UR`, table number, payload length 1 to 128 in one byte, 128 payload bytes.
abbrev pub older : Geometry
older = record { size = 132; mark = bytes "UR"; spelled = λ n. n ∷ []; read = λ b. get_or b 0 0; head = 4; longest = 128; most = 16 }

-- What a geometry must satisfy: its head holds mark, number and length; a length up to the longest is read as it was spelled; head and longest payload fit the size.
pub record Sound (g : Geometry) : Type 0 where
  pub marked : length g.mark ≡ 2
  pub holds : (n : ℕ) → 3 + length (g.spelled n) ≡ g.head
  pub back : (n : ℕ) → n ≤ g.longest → g.read (g.spelled n) ≡ n
  pub fits : g.head + g.longest ≤ g.size

-- The memory's length divided by the record's, rounded down, at most 16.
abbrev pub capacity_of : Geometry → ℕ → ℕ
capacity_of g n = min (n / g.size) g.most

-- A start below the capacity (0 if that is 0).
unfoldable pub start_in : ℕ → ℕ → Bool
start_in zero start = eqb start 0
start_in (suc c) start = ltb start (suc c)

-- And a count up to it.
unfoldable pub in_bounds : ℕ → Queue → Bool
unfolding start_in
in_bounds cap x = start_in cap x.start && leb x.count cap

-- the place i records on from start, round the ring
unfoldable pub ring_place : ℕ → ℕ → ℕ → ℕ
ring_place start i cap = if ltb (start + i) cap then start + i else start + i - cap

abbrev pub new_queue : Queue
new_queue = record { start = 0; count = 0; lost = 0 }

abbrev pub lost_one : Queue → Queue
lost_one x = record { start = x.start; count = x.count; lost = one_more x.lost }

abbrev pub longer : Queue → Queue
longer x = record { start = x.start; count = x.count + 1; lost = x.lost }

-- what a call says, and the memory that it leaves
pub record After : Type 0 where
  pub said : Outcome Queue
  pub memory : List ℕ

abbrev pub after : Outcome Queue → List ℕ → After
after o m = record { said = o; memory = m }

-- a record's head
abbrev pub head_of : Geometry → ℕ → ℕ → List ℕ
head_of g number n = g.mark ++ (number ∷ g.spelled n)

-- a notice written as the record at `base`: its head, and the payload behind it; unused bytes untouched
unfoldable pub recorded : Geometry → ℕ → List ℕ → ℕ → List ℕ → List ℕ
recorded g number p base m = put (put m base (head_of g number (length p))) (base + g.head) p

-- the record next after those held
unfoldable pub written : Geometry → Queue → ℕ → List ℕ → List ℕ → List ℕ
unfolding ring_place recorded
written g x number p m = recorded g number p (g.size * ring_place x.start x.count (capacity_of g (length m))) m

-- In this order: 3, a lost notice even when full, 5.
unfoldable pub put_into : Geometry → Queue → ℕ → List ℕ → List ℕ → After
unfolding written
put_into g x number p m =
    let cap = capacity_of g (length m) in
    if not (in_bounds cap x) then after (refused 3 []) m
    else if not (leb 1 (length p) && leb (length p) g.longest) then after (answered (lost_one x)) m
    else if leb cap x.count then after (refused 5 []) m
    else after (answered (longer x)) (written g x number p m)

-- document 01's number for each case
abbrev pub outcome : Result Queue PutError → Outcome Queue
outcome (Ok x) = answered x
outcome (Err puts.BadBounds) = refused 3 []
outcome (Err puts.Full) = refused 5 []

-- What taking gives: the next queue, and the oldest record's number with its payload's place and length, or nothing.
pub data Got : Type 0 where
  got : Queue → Notice → Got
  empty : Queue → Got

abbrev pub taking : Result (Queue × Option Notice) TakeError → Outcome Got
taking (Ok (x, Some n)) = answered (got x n)
taking (Ok (x, None)) = answered (empty x)
taking (Err takes.Bad) = refused 3 []

-- Moves the start one on round the ring and lowers the count.
unfoldable pub shorter : ℕ → Queue → Queue
unfolding ring_place
shorter cap x = record { start = ring_place x.start 1 cap; count = x.count - 1; lost = x.lost }

-- the payload's length in the head at `base`
abbrev pub length_at : Geometry → List ℕ → ℕ → ℕ
length_at g m base = g.read (take (g.head - 3) (drop (base + 3) m))

-- the record at `base` has the mark and a length of 1 to the longest
unfoldable pub record_good : Geometry → List ℕ → ℕ → Bool
record_good g m base = let len = length_at g m base in stands g.mark m base && (leb 1 len && leb len g.longest)

abbrev pub notice_at : Geometry → List ℕ → ℕ → Notice
notice_at g m base = record { number = get_or m (base + 2) 0; place = base + g.head; len = length_at g m base }

-- what reading the record at `base` gives
abbrev pub notice_in : Geometry → List ℕ → ℕ → Option Notice
notice_in g m base = if record_good g m base then Some (notice_at g m base) else None

-- Taking from an empty queue answers nothing; taking changes no byte.
unfoldable pub taken : Geometry → Queue → List ℕ → Outcome Got
unfolding shorter
taken g x m =
    let cap = capacity_of g (length m) in
    if not (in_bounds cap x) then refused 3 []
    else if eqb x.count 0 then answered (empty x)
    else if not (record_good g m (g.size * x.start)) then refused 3 []
    else answered (got (shorter cap x) (notice_at g m (g.size * x.start)))

-- a notice as the queue holds it: its table number and its payload
pub record Arrival : Type 0 where
  pub number : ℕ
  pub payload : List ℕ

-- the bytes of the record at a place of the ring
abbrev pub record_bytes : Geometry → List ℕ → ℕ → List ℕ
record_bytes g m place = take g.size (drop (g.size * place) m)

-- what a record's bytes say
unfoldable pub arrival_of : Geometry → List ℕ → Arrival
arrival_of g r = record { number = get_or r 2 0; payload = part_of r g.head (length_at g r 0) }

-- n notices from the i-th held on, in a ring of cap places whose oldest is at start
unfoldable pub held_from : Geometry → List ℕ → ℕ → ℕ → ℕ → ℕ → List Arrival
held_from g m cap start i zero = []
held_from g m cap start i (suc n) = let r = held_from g m cap start (suc i) n in arrival_of g (record_bytes g m (ring_place start i cap)) ∷ r

-- the notices that the queue holds, oldest first
unfoldable pub waiting : Geometry → Queue → List ℕ → List Arrival
waiting g x m = held_from g m (capacity_of g (length m)) x.start 0 x.count

-- what a put adds: a notice with 1 byte of payload to the longest; another is lost
unfoldable pub adds : Geometry → ℕ → List ℕ → List Arrival
adds g number p = if leb 1 (length p) && leb (length p) g.longest then record { number = number; payload = p } ∷ [] else []
