-- The walk round the old ring, what it has seen and written, and that the promise determines the conversion.
use Rattle.std.specs.Prelude.{Option, Some, None, is_some, Result, Ok, Err, ◌≡◌, Bool, refl, true, false, ◌&&◌, length, drop, leb, ltb, if◌then◌else◌}
use Rattle.std.proofs.Math.Path.{sym, ap}
use Rattle.std.proofs.Common.{◌∙◌, ⊎_elim, add-one}
use mathlib.Core.List.{List, ◌∷◌}
use Prim.Native.Nat.{ℕ, suc, ◌+◌, ◌-◌, ◌*◌, ◌≤◌, ◌<◌}
use native.Mathlib.Omega.{arith}
use Rattle.std.proofs.Math.ListN.{get_or, take}
use borrow.Author.Tests.{lt-ltb, le-ltb, eqb-true}
use Rattle.text.specs.Logic.{and_both, order}
use Rattle.text.specs.Text.{part_of}
use Rattle.text.specs.Laws.{part_is}
use Rattle.queue.specs.Queue.{ours, older, capacity_of, start_in, in_bounds, ring_place, recorded, length_at, record_good, notice_at, notice_in, Arrival, held_from}
use Rattle.queue.specs.Laws.{older_sound, start_none, bounds_room, bounds_count, ring_near, ring_far, ring_below, record_in}
use Rattle.queue.specs.Waiting.{arrival_is, good_length}
use Rattle.queue.specs.declared.Notice.{Notice}
use Rattle.queue.specs.declared.Queue.{Queue}
use Rattle.convert.specs.declared.ConvertError.{ConvertError}
use Rattle.convert.specs.declared.ConvertError.TheVariants as converts
use Rattle.convert.specs.Convert.{held_good, laid, outcome}

-- two answers with the same outcome are equal
pub outcome_one : (r q : Result Queue ConvertError) → outcome r ≡ outcome q → r ≡ q
outcome_one (Ok x) (Ok y) e = cc
outcome_one (Ok x) (Err converts.Bad) e = cc
outcome_one (Ok x) (Err converts.TooFew) e = cc
outcome_one (Err converts.Bad) (Ok y) e = cc
outcome_one (Err converts.Bad) (Err converts.Bad) e = refl
outcome_one (Err converts.Bad) (Err converts.TooFew) e = cc
outcome_one (Err converts.TooFew) (Ok y) e = cc
outcome_one (Err converts.TooFew) (Err converts.Bad) e = cc
outcome_one (Err converts.TooFew) (Err converts.TooFew) e = refl

-- a record is good where a notice is read of it
some_if : (b : Bool) (n : Notice) → is_some (if b then Some n else None) ≡ b
some_if true n = refl
some_if false n = refl

pub good_read : (m : List ℕ) (base : ℕ) (o : Option Notice) → o ≡ notice_in older m base → (b : Bool) → is_some o ≡ b → record_good older m base ≡ b
good_read m base o e b h = sym (some_if (record_good older m base) (notice_at older m base)) ∙ ap is_some (sym e) ∙ h

-- What is left once `seen` of the held records are behind the walk round the old ring: the next of them lies at `base`, and what is still to be asked is what was asked.
pub record Seen (m : List ℕ) (start count cap base seen : ℕ) : Type 0 where
  pub here : base ≡ 132 * ring_place start seen cap
  pub rest : held_good older m cap start 0 count ≡ held_good older m cap start seen (count - seen)

-- The same of the writing, which is at `to`: each record still to be written is good.
pub record Copied (m k : List ℕ) (start count cap base seen to : ℕ) (now : List ℕ) : Type 0 where
  pub here : base ≡ 132 * ring_place start seen cap
  pub at : to ≡ 1029 * seen
  pub good : held_good older m cap start seen (count - seen) ≡ true
  pub rest : laid ours 0 (held_from older m cap start 0 count) k ≡ laid ours to (held_from older m cap start seen (count - seen)) now

module _ (m : List ℕ) (x : Queue) (cap : ℕ) (c : cap ≡ capacity_of older (length m)) (b : in_bounds cap x ≡ true) where
  abbrev start : ℕ
  start = x.start

  abbrev count : ℕ
  count = x.count

  start_below : 0 < cap → start < cap
  start_below h = (bounds_room cap x b h).0

  pub start_within : start ≤ cap
  unfolding in_bounds
  start_within =
      ⊎_elim
      (λ (p : 0 < cap). omega (arith, start_below p))
      (λ (p : cap ≤ 0). let e = eqb-true start 0 (start_none cap start (omega arith) ∙ (and_both (start_in cap start) (leb count cap) b).0) in omega arith)
      (order 0 cap)

  ring_first : ring_place start 0 cap ≡ start
  ring_first =
      ⊎_elim
      (λ (p : 0 < cap). sym (ring_near start 0 cap (omega (arith, start_below p))) ∙ omega arith)
      (λ (p : cap ≤ 0). sym (ring_far start 0 cap (omega arith)) ∙ omega arith)
      (order 0 cap)

  pub seen_none : (base : ℕ) → base ≡ 132 * start → Seen m start count cap base 0
  seen_none base e = let z : count - 0 ≡ count = omega arith in record { here = omega (arith, ring_first); rest = rw z }

  pub copied_none : (base : ℕ) → base ≡ 132 * start → (k : List ℕ) → held_good older m cap start 0 count ≡ true → Copied m k start count cap base 0 0 k
  copied_none base e k g = let z : count - 0 ≡ count = omega arith in record { here = omega (arith, ring_first); at = refl; good = rw z g; rest = rw z }

  -- The next record: where it lies, what is asked of it and what it says.
  module _ (base seen : ℕ) (w : base ≡ 132 * ring_place start seen cap) (some : seen < count) where
    walk_below : (start < cap) × (ring_place start seen cap < cap)
    walk_below =
        let s : start < cap = start_below (omega (arith, bounds_count cap x b)) in
        (s, ring_below start seen cap s (omega (arith, bounds_count cap x b)))

    pub walk_in : (base + 132 ≤ 132 * cap) × (base + 132 ≤ length m)
    walk_in = (omega (arith, w, walk_below.1), omega (arith, w, walk_below.1, record_in older (length m) (ring_place start seen cap) (rw (sym c) walk_below.1)))

    -- the one behind it, round the ring
    walk_on : (next : ℕ) → next ≡ (if ltb (base + 132) (132 * cap) then base + 132 else 0) → next ≡ 132 * ring_place start (seen + 1) cap
    walk_on next e =
        let s = walk_below in
        ⊎_elim
        (λ (f : start + (seen + 1) < cap).
        let u = ring_near start (seen + 1) cap f in
        let v = ring_near start seen cap (omega arith) in
        e ∙ rw (lt-ltb (base + 132) (132 * cap) (omega (arith, w))) (omega (arith, w)))
        (λ (f : cap ≤ start + (seen + 1)).
        let u = ring_far start (seen + 1) cap f in
        ⊎_elim
        (λ (h : start + seen < cap).
        let v = ring_near start seen cap h in
        e ∙ rw (le-ltb (base + 132) (132 * cap) (omega (arith, w))) (omega arith))
        (λ (h : cap ≤ start + seen).
        let v = ring_far start seen cap h in
        e ∙ rw (lt-ltb (base + 132) (132 * cap) (omega (arith, w, s.0, bounds_count cap x b))) (omega (arith, w)))
        (order (start + seen) cap))
        (order (start + (seen + 1)) cap)

    more : count - seen ≡ suc (count - (seen + 1))
    more = omega arith

    pub good_here : held_good older m cap start seen (count - seen) ≡ (record_good older m base && held_good older m cap start (seen + 1) (count - (seen + 1)))
    unfolding held_good
    good_here = rw (more, w, add-one)

    held_here : record_good older m base ≡ true → held_from older m cap start seen (count - seen) ≡ record { number = get_or m (base + 2) 0; payload = part_of m (base + 4) (length_at older m base) } ∷ held_from older m cap start (seen + 1) (count - (seen + 1))
    unfolding held_from
    held_here g =
        let place = ring_place start seen cap in
        let inside = walk_in.1 in
        let l = (good_length older m base g).1 in
        rw (more, add-one)
        (ap (λ (y : Arrival). y ∷ held_from older m cap start (suc seen) (count - suc seen))
        (arrival_is older older_sound m place (omega (arith, w)) (rw (sym w) l)
        ∙ ap (λ (n : ℕ). record { number = get_or m (n + 2) 0; payload = take (length_at older m n) (drop (n + 4) m) }) (sym w)
        ∙ ap (λ (p : List ℕ). record { number = get_or m (base + 2) 0; payload = p }) (part_is m (base + 4) (length_at older m base) (omega arith))))

  module _ (base seen : ℕ) (some : seen < count) where
    pub seen_bad : Seen m start count cap base seen → record_good older m base ≡ false → false ≡ held_good older m cap start 0 count
    seen_bad s g = sym (s.rest ∙ good_here base seen s.here some ∙ rw g)

    pub seen_one : Seen m start count cap base seen → record_good older m base ≡ true → (next : ℕ) → next ≡ (if ltb (base + 132) (132 * cap) then base + 132 else 0) → Seen m start count cap next (seen + 1)
    seen_one s g next e = record { here = walk_on base seen s.here some next e; rest = s.rest ∙ good_here base seen s.here some ∙ rw g }

    pub copied_one : (k now : List ℕ) (to : ℕ) → Copied m k start count cap base seen to now → (d : List ℕ) → d ≡ recorded ours (get_or m (base + 2) 0) (part_of m (base + 4) (length_at older m base)) to now → (next : ℕ) → next ≡ (if ltb (base + 132) (132 * cap) then base + 132 else 0) → Copied m k start count cap next (seen + 1) (to + 1029) d
    unfolding laid
    copied_one k now to s d v next e =
        let q = and_both (record_good older m base) (held_good older m cap start (seen + 1) (count - (seen + 1))) (sym (good_here base seen s.here some) ∙ s.good) in
        record {
          here = walk_on base seen s.here some next e;
          at = omega (arith, s.at);
          good = q.1;
          rest = s.rest ∙ ap (λ (l : List Arrival). laid ours to l now) (held_here base seen s.here some q.0) ∙ ap (laid ours (to + 1029) (held_from older m cap start (seen + 1) (count - (seen + 1)))) (sym v);
        }

  module _ (base seen : ℕ) (all : count - seen ≡ 0) where
    pub seen_all : Seen m start count cap base seen → true ≡ held_good older m cap start 0 count
    unfolding held_good
    seen_all s = sym (s.rest ∙ ap (held_good older m cap start seen) all)

    pub copied_all : (to : ℕ) (k now : List ℕ) → Copied m k start count cap base seen to now → now ≡ laid ours 0 (held_from older m cap start 0 count) k
    unfolding laid held_from
    copied_all to k now s = sym (s.rest ∙ ap (λ (n : ℕ). laid ours to (held_from older m cap start seen n) now) all)
