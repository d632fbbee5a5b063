-- The ways out of the queue's calls, each with the tests that led there, and that their promises determine them.
use Rattle.std.specs.Prelude.{Option, Some, None, Result, Ok, Err, ◌≡◌, refl, true, List, ℕ, zero, suc, ◌+◌, ◌-◌, ◌*◌, ◌/◌, ◌≤◌, ◌<◌, length, eqb, leb, ltb}
use Rattle.std.proofs.Common.{sym, ◌∙◌, mul-suc, mul-le-mul_left, arith}
use Rattle.std.proofs.Math.Path.{ap}
use Rattle.std.proofs.Math.Nat.{mul-div-le}
use borrow.Author.Tests.{le-leb, lt-leb, lt-ltb, le-ltb, ltb-true, leb-true}
use Rattle.text.specs.Logic.{and_both}
use Rattle.outcome.specs.Outcome.{Outcome, answered}
use Rattle.outcome.specs.Laws.{ways}
use Rattle.queue.specs.declared.Queue.{Queue}
use Rattle.queue.specs.declared.Notice.{Notice}
use Rattle.queue.specs.declared.PutError.{PutError}
use Rattle.queue.specs.declared.PutError.TheVariants as puts
use Rattle.queue.specs.declared.TakeError.{TakeError}
use Rattle.queue.specs.declared.TakeError.TheVariants as takes
use Rattle.queue.specs.Queue.{Geometry, ours, older, Sound, capacity_of, start_in, in_bounds, ring_place, longer, After, after, recorded, written, put_into, outcome, taking}

-- two answers with the same outcome are equal
pub outcome_one : (r q : Result Queue PutError) → outcome r ≡ outcome q → r ≡ q
outcome_one (Ok x) (Ok y) e = cc
outcome_one (Ok x) (Err puts.BadBounds) e = cc
outcome_one (Ok x) (Err puts.Full) e = cc
outcome_one (Err puts.BadBounds) (Ok y) e = cc
outcome_one (Err puts.BadBounds) (Err puts.BadBounds) e = refl
outcome_one (Err puts.BadBounds) (Err puts.Full) e = cc
outcome_one (Err puts.Full) (Ok y) e = cc
outcome_one (Err puts.Full) (Err puts.BadBounds) e = cc
outcome_one (Err puts.Full) (Err puts.Full) e = refl

-- and where that is so of a call's answers, they are equal with the memories that they left
pub after_one : {R : Type 0} (outcome : R → Outcome Queue) → ((r q : R) → outcome r ≡ outcome q → r ≡ q) → (w : After) (r q : R) (m n : List ℕ) → after (outcome r) m ≡ w → after (outcome q) n ≡ w → (r ≡ q) × (m ≡ n)
after_one outcome one w r q m n e f =
    let g : after (outcome r) m ≡ after (outcome q) n = e ∙ sym f in
    (one r q (ap (λ (x : After). x.said) g), ap (λ (x : After). x.memory) g)

pub taking_one : (r q : Result (Queue × Option Notice) TakeError) → taking r ≡ taking q → r ≡ q
taking_one (Ok (x, Some n)) (Ok (y, Some k)) e = cc
taking_one (Ok (x, Some n)) (Ok (y, None)) e = cc
taking_one (Ok (x, Some n)) (Err takes.Bad) e = cc
taking_one (Ok (x, None)) (Ok (y, Some k)) e = cc
taking_one (Ok (x, None)) (Ok (y, None)) e = cc
taking_one (Ok (x, None)) (Err takes.Bad) e = cc
taking_one (Err takes.Bad) (Ok (y, Some k)) e = cc
taking_one (Err takes.Bad) (Ok (y, None)) e = cc
taking_one (Err takes.Bad) (Err takes.Bad) e = refl

-- `start_in`, `in_bounds`, `ring_place`
pub start_none : (cap start : ℕ) → cap ≡ 0 → eqb start 0 ≡ start_in cap start
unfolding start_in
start_none cap start e = rw e

pub start_some : (cap start : ℕ) → (cap ≡ 0 → ⊥) → ltb start cap ≡ start_in cap start
unfolding start_in
start_some zero start h = absurd (h refl)
start_some (suc c) start h = refl

module _ (cap : ℕ) (x : Queue) where
  -- with a record held, or room for one, the start is below the capacity
  pub bounds_room : in_bounds cap x ≡ true → 0 < cap → (x.start < cap) × (x.count ≤ cap)
  unfolding in_bounds
  bounds_room h g =
      let w = and_both (start_in cap x.start) (leb x.count cap) h in
      (ltb-true x.start cap (start_some cap x.start (λ z. omega arith) ∙ w.0), leb-true x.count cap w.1)

  pub bounds_count : in_bounds cap x ≡ true → x.count ≤ cap
  unfolding in_bounds
  bounds_count h = leb-true x.count cap (and_both (start_in cap x.start) (leb x.count cap) h).1

pub ring_near : (start i cap : ℕ) → start + i < cap → start + i ≡ ring_place start i cap
unfolding ring_place
ring_near start i cap h = rw (lt-ltb (start + i) cap h)

pub ring_far : (start i cap : ℕ) → cap ≤ start + i → start + i - cap ≡ ring_place start i cap
unfolding ring_place
ring_far start i cap h = rw (le-ltb (start + i) cap h)

pub ring_below : (start i cap : ℕ) → start < cap → i ≤ cap → ring_place start i cap < cap
unfolding ring_place
ring_below start i cap h g = ways (λ n. n < cap) (ltb (start + i) cap) (ltb-true (start + i) cap) (λ e. omega arith)

-- both geometries are sound
pub ours_sound : Sound ours
ours_sound = record { marked = refl; holds = λ n. refl; back = λ n h. omega arith; fits = omega arith }

pub older_sound : Sound older
older_sound = record { marked = refl; holds = λ n. refl; back = λ n h. refl; fits = omega arith }

pub ours_small : ours.size ≤ 4096
ours_small = omega arith

pub older_small : older.size ≤ 4096
older_small = omega arith

-- a record ends where the next begins, or before, and one below the capacity lies in the memory
module _ (g : Geometry) where
  pub size_next : (a b : ℕ) → a < b → g.size * a + g.size ≤ g.size * b
  size_next a b h = rw (sym (mul-suc g.size a)) (mul-le-mul_left g.size h)

  pub record_in : (n place : ℕ) → place < capacity_of g n → g.size * place + g.size ≤ n
  record_in n place h =
      let q : ℕ = n / g.size in
      let u : place < q = omega arith in
      omega (arith, size_next place q u, mul-div-le n g.size)

-- the last way out of `put`: the record is written next after those held
pub put_is : (g : Geometry) (x : Queue) (number : ℕ) (p m : List ℕ) (cap : ℕ) → cap ≡ capacity_of g (length m) → in_bounds cap x ≡ true → (length p ≡ 0 → ⊥) → length p ≤ g.longest → x.count < cap → (place : ℕ) → place ≡ ring_place x.start x.count cap → (d : List ℕ) → d ≡ recorded g number p (g.size * place) m → after (answered (longer x)) d ≡ put_into g x number p m
unfolding put_into written
put_is g x number p m cap c b l k e place q d w =
    let r : place ≡ ring_place x.start x.count (capacity_of g (length m)) = q ∙ ap (ring_place x.start x.count) c in
    ap (after (answered (longer x))) (w ∙ ap (λ (n : ℕ). recorded g number p (g.size * n) m) r)
    ∙ rw (rw c at b, le-leb 1 (length p) (omega arith), le-leb (length p) g.longest k, lt-leb (capacity_of g (length m)) x.count (rw c at e))

-- the record at the start lies in the memory
pub record_room : (g : Geometry) (x : Queue) (m : ℕ) (cap : ℕ) → cap ≡ capacity_of g m → in_bounds cap x ≡ true → (x.count ≡ 0 → ⊥) → g.size * x.start + g.size ≤ m
record_room g x m cap c b h =
    let k = bounds_count cap x b in
    let w = bounds_room cap x b (omega arith) in
    record_in g m x.start (rw (sym c) w.0)
