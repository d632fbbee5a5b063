-- The conversion of R-9 over two geometries: a queue in the old form is read, and written in the new form into other memory.
use Rattle.std.specs.Prelude.{Result, Ok, Err, ◌⊎◌, Bool, true, ◌&&◌, not, List, [], ◌∷◌, ℕ, zero, suc, ◌+◌, ◌*◌, ◌≤◌, ◌<◌, length, ltb, if◌then◌else◌}
use Rattle.outcome.specs.Outcome.{Outcome, answered, refused}
use Rattle.queue.specs.Queue.{Geometry, capacity_of, in_bounds, ring_place, recorded, record_good, After, after, Arrival, waiting}
use Rattle.queue.specs.declared.Queue.{Queue}
use Rattle.convert.specs.declared.ConvertError.{ConvertError}
use Rattle.convert.specs.declared.ConvertError.TheVariants as converts

-- Has each of the n records from the i-th held on the mark and a good length, in a ring of cap places whose oldest is at start?
unfoldable pub held_good : Geometry → List ℕ → ℕ → ℕ → ℕ → ℕ → Bool
held_good g m cap start i zero = true
held_good g m cap start i (suc n) = let r = held_good g m cap start (suc i) n in record_good g m (g.size * ring_place start i cap) && r

-- notices written as records one behind the other, the first at `base`; other bytes untouched
unfoldable pub laid : Geometry → ℕ → List Arrival → List ℕ → List ℕ
laid g base [] m = m
laid g base (a ∷ l) m = laid g (base + g.size) l (recorded g a.number a.payload base m)

-- The queue x in the memory m, converted into the memory k. In this order: 3 over bounds and every held record, 13 when the new memory holds fewer records than
-- are held; else the notices that wait, from the front on, with start 0 and the same counts.
unfoldable pub converted : Geometry → Geometry → Queue → List ℕ → List ℕ → After
converted old new x m k =
    let cap = capacity_of old (length m) in
    if not (in_bounds cap x && held_good old m cap x.start 0 x.count) then after (refused 3 []) k
    else if ltb (capacity_of new (length k)) x.count then after (refused 13 []) k
    else after (answered (record { start = 0; count = x.count; lost = x.lost })) (laid new 0 (waiting old x m) k)

-- The byte i is in no written head and no written payload.
abbrev pub Outside : Geometry → ℕ → List Arrival → ℕ → Type 0
Outside g base [] i = Unit {0}
Outside g base (a ∷ l) i = ((i < base) ⊎ (base + (g.head + length a.payload) ≤ i)) × Outside g (base + g.size) l i

-- 02's number for each case
abbrev pub outcome : Result Queue ConvertError → Outcome Queue
outcome (Ok x) = answered x
outcome (Err converts.Bad) = refused 3 []
outcome (Err converts.TooFew) = refused 13 []
