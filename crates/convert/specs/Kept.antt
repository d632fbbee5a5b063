-- What a conversion keeps, over any two sound geometries: what waits in the new queue is what waited in the old one, same notices, same order, in good records; and
-- each byte of the new memory outside a written head or payload is as it was.
use Rattle.std.proofs.Math.Path.{◌≡◌, refl, sym, ap}
use Rattle.std.proofs.Common.{◌∙◌, ⊎_elim, mul-zero, le_refl, arith}
use Rattle.std.proofs.Math.Logic.{inl, inr}
use Rattle.std.proofs.Math.Bool.{true}
use Rattle.std.specs.Prelude.{◌&&◌, not, take, drop, ltb}
use mathlib.Core.List.{List, [], ◌∷◌}
use Prim.Native.Nat.{ℕ, zero, suc, ◌+◌, ◌*◌, ◌≤◌, ◌<◌}
use Rattle.std.proofs.Math.Nat.{mul-suc, zero-add}
use Rattle.std.proofs.Math.ListN.{length, get_or, length-drop}
use Rattle.std.proofs.Math.Seq.{length-take-le, get_or-take, get_or-drop}
use borrow.Author.Tests.{le-leb, lt-ltb, ltb-false, not-false}
use Rattle.text.specs.Logic.{and_both}
use Rattle.outcome.specs.Outcome.{answered, refused}
use Rattle.outcome.specs.Laws.{ways}
use Rattle.queue.specs.Queue.{Geometry, Sound, capacity_of, start_in, in_bounds, ring_place, recorded, length_at, record_good, After, after, Arrival, record_bytes, arrival_of, held_from, waiting}
use Rattle.queue.specs.Laws.{bounds_room, bounds_count, ring_near, ring_below, record_in}
use Rattle.queue.specs.Waiting.{good_length, good_own, arrival_is, recorded_length, recorded_elsewhere, recorded_good, recorded_new}
use Rattle.queue.specs.declared.Queue.{Queue}
use Rattle.convert.specs.Convert.{held_good, laid, converted, Outside}

-- 0 is a start of any ring
first_in : (cap : ℕ) → start_in cap 0 ≡ true
unfolding start_in
first_in zero = refl
first_in (suc c) = lt-ltb 0 (suc c) (omega arith)

-- each payload has 1 to n bytes
abbrev Sized : ℕ → List Arrival → Type 0
Sized n [] = Unit {0}
Sized n (a ∷ l) = ((1 ≤ length a.payload) × (length a.payload ≤ n)) × Sized n l

sized_up : (n k : ℕ) → n ≤ k → (l : List Arrival) → Sized n l → Sized k l
sized_up n k h [] s = tt
sized_up n k h (a ∷ l) s = ((s.0.0, omega (arith, s.0.1)), sized_up n k h l s.1)

-- Records laid one behind the other.
module _ (g : Geometry) (sound : Sound g) where
  laid_length : (l : List Arrival) (base : ℕ) (m : List ℕ) → length (laid g base l m) ≡ length m
  unfolding laid
  laid_length [] base m = refl
  laid_length (a ∷ l) base m = laid_length l (base + g.size) (recorded g a.number a.payload base m) ∙ recorded_length g sound a.number a.payload base m

  laid_before : (l : List Arrival) (base : ℕ) (m : List ℕ) (i n : ℕ) → i + n ≤ base → take n (drop i (laid g base l m)) ≡ take n (drop i m)
  unfolding laid
  laid_before [] base m i n h = refl
  laid_before (a ∷ l) base m i n h = laid_before l (base + g.size) (recorded g a.number a.payload base m) i n (omega arith) ∙ recorded_elsewhere g sound a.number a.payload base m i n (inl h)

  laid_outside : (l : List Arrival) (base : ℕ) (m : List ℕ) (i : ℕ) → Outside g base l i → get_or (laid g base l m) i 0 ≡ get_or m i 0
  unfolding laid
  laid_outside [] base m i o = refl
  laid_outside (a ∷ l) base m i o =
      let d : List ℕ = recorded g a.number a.payload base m in
      let byte : (s : List ℕ) → get_or (take 1 (drop i s)) 0 0 ≡ get_or s i 0 = λ s. get_or-take 1 (drop i s) 0 0 (omega arith) ∙ get_or-drop i s 0 0 ∙ ap (λ (n : ℕ). get_or s n 0) (omega arith) in
      laid_outside l (base + g.size) d i o.1
      ∙ sym (byte d)
      ∙ ap (λ (s : List ℕ). get_or s 0 0) (recorded_elsewhere g sound a.number a.payload base m i 1 (⊎_elim (λ (q : i < base). inl (omega arith)) (λ (q : base + (g.head + length a.payload) ≤ i). inr q) o.0))
      ∙ byte m

  -- are read back, each from a good record
  laid_held : (l : List Arrival) (j cap : ℕ) (m : List ℕ) → cap ≡ capacity_of g (length m) → j + length l ≤ cap → Sized g.longest l → (held_from g (laid g (g.size * j) l m) cap 0 j (length l) ≡ l) × (held_good g (laid g (g.size * j) l m) cap 0 j (length l) ≡ true)
  unfolding laid held_from held_good
  laid_held [] j cap m c h s = (refl, refl)
  laid_held (a ∷ l) j cap m c h s =
      let base = g.size * j in
      let d : List ℕ = recorded g a.number a.payload base m in
      let k : List ℕ = laid g (base + g.size) l d in
      let e : g.size * suc j ≡ base + g.size = mul-suc g.size j in
      let near : ring_place 0 j cap ≡ j = sym (ring_near 0 j cap (omega arith)) ∙ zero-add j in
      let room = record_in g (length m) j (rw (sym c) (omega arith)) in
      let long = recorded_length g sound a.number a.payload base m in
      let same : record_bytes g k j ≡ record_bytes g d j = laid_before l (base + g.size) d base g.size (le_refl (base + g.size)) in
      let here : arrival_of g (record_bytes g k j) ≡ a = ap (arrival_of g) same ∙ recorded_new g sound a.number a.payload j m room s.0.1 in
      let good : record_good g k base ≡ true = good_own g sound k base (omega (arith, laid_length l (base + g.size) d)) ∙ ap (λ (r : List ℕ). record_good g r 0) same ∙ sym (good_own g sound d base (omega arith)) ∙ recorded_good g sound a.number a.payload base m (omega (arith, s.0.1, sound.fits)) s.0.1 s.0.0 in
      let rest = laid_held l (suc j) cap d (c ∙ ap (capacity_of g) (sym long)) (omega arith) s.1 in
      ((λ i. arrival_of g (record_bytes g k (near i)) ∷ held_from g (laid g (sym e i) l d) cap 0 (suc j) (length l)) ∙ (λ i. here i ∷ rest.0 i), (λ i. record_good g k (g.size * near i) && held_good g (laid g (sym e i) l d) cap 0 (suc j) (length l)) ∙ rw (good, rest.1))

-- What a ring holds: so many notices, and where each record is good, each payload of its length.
module _ (g : Geometry) (m : List ℕ) (start : ℕ) where
  held_length : (cap i n : ℕ) → length (held_from g m cap start i n) ≡ n
  unfolding held_from
  held_length cap i zero = refl
  held_length cap i (suc n) = ap suc (held_length cap (suc i) n)

  held_sized : Sound g → (cap i n : ℕ) → cap ≡ capacity_of g (length m) → (0 < n → start < cap) → i + n ≤ cap → held_good g m cap start i n ≡ true → Sized g.longest (held_from g m cap start i n)
  unfolding held_from held_good
  held_sized sound cap i zero c s h e = tt
  held_sized sound cap i (suc n) c s h e =
      let place = ring_place start i cap in
      let w = and_both (record_good g m (g.size * place)) (held_good g m cap start (suc i) n) e in
      let l = good_length g m (g.size * place) w.0 in
      let r = record_in g (length m) place (rw (sym c) (ring_below start i cap (s (omega arith)) (omega arith))) in
      let u = ap (λ (y : Arrival). length y.payload) (arrival_is g sound m place r l.1) ∙ length-take-le (length_at g m (g.size * place)) (drop (g.size * place + g.head) m) (rw length-drop (omega (arith, r, l.1, sound.fits))) in
      ((omega (arith, u, l.0), omega (arith, u, l.1)), held_sized sound cap (suc i) n c (λ q. s (omega arith)) (omega arith) w.1)

module _ (old new : Geometry) (from : Sound old) (to : Sound new) (longer : old.longest ≤ new.longest) (x : Queue) (m k : List ℕ) where
  -- a refused conversion leaves every byte
  pub convert_stuck : (n : ℕ) (v d : List ℕ) → after (refused n v) d ≡ converted old new x m k → d ≡ k
  unfolding converted
  convert_stuck n v d =
      let cap = capacity_of old (length m) in
      let P : After → Type 0 = λ w. after (refused n v) d ≡ w → d ≡ k in
      ways P (not (in_bounds cap x && held_good old m cap x.start 0 x.count))
      (λ f e. ap (λ (w : After). w.memory) e)
      (λ f.
      ways P (ltb (capacity_of new (length k)) x.count)
      (λ h e. ap (λ (w : After). w.memory) e)
      (λ h e. let o = ap (λ (w : After). w.said) e in let z : ◌≡◌ {A = ℕ} 0 1 = cc in absurd (omega arith)))

  module _ (y : Queue) (d : List ℕ) (e : after (answered y) d ≡ converted old new x m k) where
    -- an answered one met no refusal, and laid the notices that waited
    record Laid : Type 0 where
      pub bounds : in_bounds (capacity_of old (length m)) x ≡ true
      pub good : held_good old m (capacity_of old (length m)) x.start 0 x.count ≡ true
      pub room : x.count ≤ capacity_of new (length k)
      pub queue : y ≡ record { start = 0; count = x.count; lost = x.lost }
      pub memory : d ≡ laid new 0 (waiting old x m) k

    convert_answers : Laid
    unfolding converted
    convert_answers =
        let cap = capacity_of old (length m) in
        let P : After → Type 0 = λ w. after (answered y) d ≡ w → Laid in
        ways P (not (in_bounds cap x && held_good old m cap x.start 0 x.count))
        (λ f o. let q = ap (λ (w : After). w.said) o in let z : ◌≡◌ {A = ℕ} 0 1 = cc in absurd (omega arith))
        (λ f.
        ways P (ltb (capacity_of new (length k)) x.count)
        (λ h o. let q = ap (λ (w : After). w.said) o in let z : ◌≡◌ {A = ℕ} 0 1 = cc in absurd (omega arith))
        (λ h o.
        let q = ap (λ (w : After). w.said) o in
        let b = and_both (in_bounds cap x) (held_good old m cap x.start 0 x.count) (not-false _ f) in
        record { bounds = b.0; good = b.1; room = ltb-false (capacity_of new (length k)) x.count h; queue = cc; memory = ap (λ (w : After). w.memory) o }))
        e

    -- the new memory is as long as it was, and the new queue within its bounds
    pub convert_kept : (length d ≡ length k) × (in_bounds (capacity_of new (length d)) y ≡ true)
    unfolding in_bounds
    convert_kept =
        let w = convert_answers in
        let l : length d ≡ length k = ap length w.memory ∙ laid_length new to (waiting old x m) 0 k in
        let cap = capacity_of new (length k) in
        (l, (λ i. in_bounds (capacity_of new (l i)) (w.queue i)) ∙ rw (first_in cap, le-leb x.count cap w.room))

    -- the notices that waited: as many as the count says, each of a length that the new form takes
    waited : (length (waiting old x m) ≡ x.count) × Sized new.longest (waiting old x m)
    unfolding waiting
    waited =
        let w = convert_answers in
        let cap = capacity_of old (length m) in
        let c = bounds_count cap x w.bounds in
        let s = held_sized old m x.start from cap 0 x.count refl (λ q. (bounds_room cap x w.bounds (omega arith)).0) (omega arith) w.good in
        (held_length old m x.start cap 0 x.count, sized_up old.longest new.longest longer (held_from old m cap x.start 0 x.count) s)

    -- what is asked of the new queue is asked of the records laid
    convert_as : {A : Type 0} (f : List ℕ → ℕ → ℕ → ℕ → A) → f d (capacity_of new (length d)) y.start y.count ≡ f (laid new (new.size * 0) (waiting old x m) k) (capacity_of new (length k)) 0 (length (waiting old x m))
    convert_as f =
        let w = convert_answers in
        ap (λ (q : Queue). f d (capacity_of new (length d)) q.start q.count) w.queue
        ∙ (λ i. f (w.memory i) (capacity_of new (convert_kept.0 i)) 0 (sym waited.0 i))
        ∙ ap (λ (b : ℕ). f (laid new b (waiting old x m) k) (capacity_of new (length k)) 0 (length (waiting old x m))) (sym (mul-zero new.size))

    read_back : (held_from new (laid new (new.size * 0) (waiting old x m) k) (capacity_of new (length k)) 0 0 (length (waiting old x m)) ≡ waiting old x m) × (held_good new (laid new (new.size * 0) (waiting old x m) k) (capacity_of new (length k)) 0 0 (length (waiting old x m)) ≡ true)
    read_back = laid_held new to (waiting old x m) 0 (capacity_of new (length k)) k refl (omega (arith, waited.0, convert_answers.room)) waited.1

    -- what waits in the new queue is what waited in the old one
    pub convert_waits : waiting new y d ≡ waiting old x m
    unfolding waiting
    convert_waits = convert_as (λ s cap start n. held_from new s cap start 0 n) ∙ read_back.0

    -- and each of its records has the mark and a good length
    pub convert_good : held_good new d (capacity_of new (length d)) y.start 0 y.count ≡ true
    convert_good = convert_as (λ s cap start n. held_good new s cap start 0 n) ∙ read_back.1

    -- each byte of the new memory outside a written head or payload is as it was
    pub convert_frame : (i : ℕ) → Outside new 0 (waiting old x m) i → get_or d i 0 ≡ get_or k i 0
    convert_frame i o = ap (λ (s : List ℕ). get_or s i 0) convert_answers.memory ∙ laid_outside new to (waiting old x m) 0 k i o
