-- What puts and takes do to the notices that wait: an answered put adds its own at the back or loses it, a refused one changes no byte, a take hands out the oldest.
use Rattle.std.proofs.Math.Path.{◌≡◌, refl, sym, ap}
use Rattle.std.proofs.Common.{◌∙◌, add-one, zero-add, take-append-drop, length-append, drop-drop, take_all}
use Rattle.std.specs.Prelude.{◌⊎◌, Bool, false, ◌&&◌, not, eqb, if◌then◌else◌}
use Rattle.std.proofs.Math.Logic.{inl, inr, ⊎_elim}
use Rattle.std.proofs.Math.Bool.{true}
use mathlib.Core.List.{List, [], ◌∷◌, ◌++◌, append-nil, append_assoc}
use Prim.Native.Nat.{ℕ, zero, suc, ◌+◌, ◌-◌, ◌*◌, ◌≤◌, ◌<◌}
use Rattle.std.proofs.Math.Nat.{add-zero}
use native.Mathlib.Omega.{arith}
use Rattle.std.proofs.Math.ListN.{length, get_or, take, drop, length-drop}
use Rattle.std.proofs.Math.Seq.{length-take-le, get_or-take, get_or-drop, take-nil, drop-append-add}
use Rattle.std.proofs.lemmas.List.{get_or_at}
use Rattle.std.proofs.Math.Dec.{leb}
use borrow.Author.Tests.{eq-eqb, le-leb, lt-ltb, leb-true, leb-false, eqb-false, not-true, not-false}
use Rattle.text.specs.Logic.{false_true, and_both, order}
use Rattle.text.specs.Text.{begins, stands, part_of}
use Rattle.text.specs.Laws.{part_is}
use Rattle.moves.specs.Moves.{put}
use Rattle.moves.specs.Laws.{put_there, put_elsewhere, put_length, part_first}
use Rattle.outcome.specs.Outcome.{Outcome, answered, refused}
use Rattle.outcome.specs.Laws.{ways}
use Rattle.queue.specs.declared.Queue.{Queue}
use Rattle.queue.specs.declared.Notice.{Notice}
use Rattle.queue.specs.Queue.{Geometry, Sound, capacity_of, start_in, in_bounds, ring_place, lost_one, longer, After, after, head_of, recorded, written, put_into, Got, got, empty, shorter, length_at, record_good, notice_at, taken, Arrival, record_bytes, arrival_of, held_from, waiting, adds}
use Rattle.queue.specs.Laws.{start_some, bounds_room, bounds_count, ring_near, ring_far, ring_below, size_next, record_in, put_is}

-- the ring: two of its places are apart, and from the next start each is one nearer
ring_apart : (start cap i j : ℕ) → start < cap → i < j → j < cap → (ring_place start i cap < ring_place start j cap) ⊎ (ring_place start j cap < ring_place start i cap)
ring_apart start cap i j s h g =
    ⊎_elim
    (λ (p : start + j < cap). inl (omega (arith, ring_near start j cap p, ring_near start i cap (omega arith))))
    (λ (p : cap ≤ start + j).
    ⊎_elim
    (λ (q : start + i < cap). inr (omega (arith, ring_far start j cap p, ring_near start i cap q)))
    (λ (q : cap ≤ start + i). inl (omega (arith, ring_far start j cap p, ring_far start i cap q)))
    (order (start + i) cap))
    (order (start + j) cap)

ring_next : (start cap i : ℕ) → start < cap → i < cap → ring_place start (suc i) cap ≡ ring_place (ring_place start 1 cap) i cap
ring_next start cap i s h =
    ⊎_elim
    (λ (p : start + 1 < cap).
    let e = ring_near start 1 cap p in
    ⊎_elim
    (λ (q : start + suc i < cap). sym (ring_near start (suc i) cap q) ∙ omega arith ∙ ring_near (ring_place start 1 cap) i cap (omega arith))
    (λ (q : cap ≤ start + suc i). sym (ring_far start (suc i) cap q) ∙ omega arith ∙ ring_far (ring_place start 1 cap) i cap (omega arith))
    (order (start + suc i) cap))
    (λ (p : cap ≤ start + 1).
    let e = ring_far start 1 cap p in sym (ring_far start (suc i) cap (omega arith)) ∙ omega arith ∙ ring_near (ring_place start 1 cap) i cap (omega arith))
    (order (start + 1) cap)

-- what is held: one more at the back, the same bytes, and the same notices counted from the next start
module _ (g : Geometry) (cap : ℕ) where
  held_back : (m : List ℕ) (start i n : ℕ) → held_from g m cap start i (suc n) ≡ held_from g m cap start i n ++ (arrival_of g (record_bytes g m (ring_place start (i + n) cap)) ∷ [])
  unfolding held_from
  held_back m start i zero = rw add-zero
  held_back m start i (suc n) =
      let e : suc i + n ≡ i + suc n = omega arith in
      ap (λ (l : List Arrival). arrival_of g (record_bytes g m (ring_place start i cap)) ∷ l) (held_back m start (suc i) n ∙ ap (λ (j : ℕ). held_from g m cap start (suc i) n ++ (arrival_of g (record_bytes g m (ring_place start j cap)) ∷ [])) e)

  held_same : (k m : List ℕ) (start i n : ℕ) → ((j : ℕ) → j < i + n → record_bytes g k (ring_place start j cap) ≡ record_bytes g m (ring_place start j cap)) → held_from g k cap start i n ≡ held_from g m cap start i n
  unfolding held_from
  held_same k m start i zero h = refl
  held_same k m start i (suc n) h = rw (h i (omega arith), held_same k m start (suc i) n (λ j q. h j (omega arith)))

  held_next : (m : List ℕ) (start i n : ℕ) → start < cap → i + n ≤ cap → held_from g m cap start (suc i) n ≡ held_from g m cap (ring_place start 1 cap) i n
  unfolding held_from
  held_next m start i zero s h = refl
  held_next m start i (suc n) s h = rw (ring_next start cap i s (omega arith), held_next m start (suc i) n s (omega arith))

-- bytes of a part of the memory are bytes of the memory
part_within : (m : List ℕ) (base size a n : ℕ) → base + size ≤ length m → a + n ≤ size → take n (drop a (take size (drop base m))) ≡ take n (drop (base + a) m)
part_within m base size a n h l =
    let w : length (take size (drop base m)) ≡ size = length-take-le size (drop base m) (rw length-drop (omega arith)) in
    sym (part_first (take size (drop base m)) (drop size (drop base m)) a n (rw w l))
    ∙ ap (λ (x : List ℕ). take n (drop a x)) (take-append-drop size (drop base m))
    ∙ ap (take n) (drop-drop a base m)

-- is the payload 1 byte long to the longest?
abbrev sized : Geometry → List ℕ → Bool
sized g p = leb 1 (length p) && leb (length p) g.longest

sized_both : (g : Geometry) (p : List ℕ) → sized g p ≡ true → (1 ≤ length p) × (length p ≤ g.longest)
sized_both g p e = let w = and_both (leb 1 (length p)) (leb (length p) g.longest) e in (leb-true 1 (length p) w.0, leb-true (length p) g.longest w.1)

-- a good record's length
pub good_length : (g : Geometry) (m : List ℕ) (base : ℕ) → record_good g m base ≡ true → (1 ≤ length_at g m base) × (length_at g m base ≤ g.longest)
unfolding record_good
good_length g m base h =
    let len = length_at g m base in
    let w = and_both (leb 1 len) (leb len g.longest) (and_both (stands g.mark m base) (leb 1 len && leb len g.longest) h).1 in
    (leb-true 1 len w.0, leb-true len g.longest w.1)

-- a list begins with its own front
begins_own : (t s : List ℕ) → begins t (t ++ s) ≡ true
unfolding begins
begins_own [] s = refl
begins_own (x ∷ t) s = rw (eq-eqb x x refl, begins_own t s)

begins_front : (t s : List ℕ) (n : ℕ) → length t ≤ n → begins t (take n s) ≡ begins t s
unfolding begins
begins_front [] s n h = refl
begins_front (x ∷ t) [] n h = rw take-nil
begins_front (x ∷ t) (y ∷ s) zero h = absurd (omega arith)
begins_front (x ∷ t) (y ∷ s) (suc n) h = ap (λ (b : Bool). eqb y x && b) (begins_front t s n (omega arith))

-- What follows holds of any sound geometry.
module _ (g : Geometry) (sound : Sound g) where
  -- the head of a record, and the longest payload behind it, lie in the record
  head_fits : (3 ≤ g.head) × (g.head + g.longest ≤ g.size)
  head_fits = (omega (arith, sound.holds 0), sound.fits)

  -- a record that lies in the memory is good by its own bytes
  pub good_own : (m : List ℕ) (base : ℕ) → base + g.size ≤ length m → record_good g m base ≡ record_good g (take g.size (drop base m)) 0
  unfolding record_good stands
  good_own m base h =
      let f = head_fits in
      let mark : begins g.mark (drop base m) ≡ begins g.mark (take g.size (drop base m)) = sym (begins_front g.mark (drop base m) g.size (omega (arith, sound.marked, f.0, f.1))) in
      let len : length_at g m base ≡ length_at g (take g.size (drop base m)) 0 = ap g.read (sym (part_within m base g.size 3 (g.head - 3) h (omega (arith, f.0, f.1)))) in
      λ i. mark i && (leb 1 (len i) && leb (len i) g.longest)

  -- what the record at a place says, where it lies in the memory with a length up to the longest
  pub arrival_is : (m : List ℕ) (place : ℕ) → g.size * place + g.size ≤ length m → length_at g m (g.size * place) ≤ g.longest → arrival_of g (record_bytes g m place) ≡ record { number = get_or m (g.size * place + 2) 0; payload = take (length_at g m (g.size * place)) (drop (g.size * place + g.head) m) }
  unfolding arrival_of
  arrival_is m place h l =
      let base = g.size * place in
      let r : List ℕ = record_bytes g m place in
      let f = head_fits in
      let w : length r ≡ g.size = length-take-le g.size (drop base m) (rw length-drop (omega arith)) in
      let len : length_at g r 0 ≡ length_at g m base = ap g.read (part_within m base g.size 3 (g.head - 3) h (omega (arith, f.0, f.1))) in
      let byte : get_or r 2 0 ≡ get_or m (base + 2) 0 = get_or-take g.size (drop base m) 2 0 (omega (arith, f.0, f.1)) ∙ get_or-drop base m 2 0 in
      let v : g.head + length_at g m base ≤ g.size = omega (arith, f.1) in
      let p : part_of r g.head (length_at g r 0) ≡ take (length_at g m base) (drop (base + g.head) m) = ap (part_of r g.head) len ∙ sym (part_is r g.head (length_at g m base) (rw w v)) ∙ part_within m base g.size g.head (length_at g m base) h v in
      λ i. record { number = byte i; payload = p i }

  -- a notice written as a record: the memory is as long, and its bytes elsewhere are as they were
  module _ (number : ℕ) (p : List ℕ) (base : ℕ) (m : List ℕ) where
    head_length : length (head_of g number (length p)) ≡ g.head
    head_length = rw (length-append, sound.marked) (omega (arith, sound.holds (length p)))

    pub recorded_length : length (recorded g number p base m) ≡ length m
    unfolding recorded
    recorded_length = put_length (put m base (head_of g number (length p))) (base + g.head) p ∙ put_length m base (head_of g number (length p))

    pub recorded_elsewhere : (a n : ℕ) → (a + n ≤ base) ⊎ (base + (g.head + length p) ≤ a) → take n (drop a (recorded g number p base m)) ≡ take n (drop a m)
    unfolding recorded
    recorded_elsewhere a n =
        let head : List ℕ = head_of g number (length p) in
        ⊎_elim
        (λ (q : a + n ≤ base). put_elsewhere (put m base head) (base + g.head) p a n (inl (omega arith)) ∙ put_elsewhere m base head a n (inl q))
        (λ (q : base + (g.head + length p) ≤ a). put_elsewhere (put m base head) (base + g.head) p a n (inr (omega arith)) ∙ put_elsewhere m base head a n (inr (omega (arith, head_length))))

    -- with room for it, it is read back
    module _ (h : base + (g.head + length p) ≤ length m) (l : length p ≤ g.longest) where
      recorded_head : take g.head (drop base (recorded g number p base m)) ≡ head_of g number (length p)
      unfolding recorded
      recorded_head =
          let head : List ℕ = head_of g number (length p) in
          put_elsewhere (put m base head) (base + g.head) p base g.head (inl (omega arith))
          ∙ ap (λ (n : ℕ). take n (drop base (put m base head))) (sym head_length)
          ∙ put_there m base head (omega (arith, head_length))

      recorded_number : get_or (recorded g number p base m) (base + 2) 0 ≡ number
      recorded_number =
          let d : List ℕ = recorded g number p base m in
          sym (get_or-drop base d 2 0)
          ∙ sym (get_or-take g.head (drop base d) 2 0 (omega (arith, head_fits.0)))
          ∙ ap (λ (y : List ℕ). get_or y 2 0) recorded_head
          ∙ get_or_at g.mark number (g.spelled (length p)) 0 2 sound.marked

      recorded_len : length_at g (recorded g number p base m) base ≡ length p
      recorded_len =
          let d : List ℕ = recorded g number p base m in
          let s : List ℕ = g.spelled (length p) in
          let three : 3 ≡ length g.mark + 1 = omega (arith, sound.marked) in
          ap g.read
          (sym (part_within d base g.head 3 (g.head - 3) (rw recorded_length (omega arith)) (omega (arith, head_fits.0)))
          ∙ (λ i. take (g.head - 3) (drop (three i) (recorded_head i)))
          ∙ ap (take (g.head - 3)) (drop-append-add g.mark (number ∷ s) 1)
          ∙ take_all (g.head - 3) s (omega (arith, sound.holds (length p))))
          ∙ sound.back (length p) l

      recorded_payload : take (length p) (drop (base + g.head) (recorded g number p base m)) ≡ p
      unfolding recorded
      recorded_payload = put_there (put m base (head_of g number (length p))) (base + g.head) p (omega (arith, put_length m base (head_of g number (length p))))

      -- and is a good record
      mark_here : stands g.mark (recorded g number p base m) base ≡ true
      unfolding stands
      mark_here =
          let d : List ℕ = drop base (recorded g number p base m) in
          ap (begins g.mark) (sym (take-append-drop g.head d) ∙ ap (λ (y : List ℕ). y ++ drop g.head d) recorded_head ∙ append_assoc g.mark (number ∷ g.spelled (length p)) (drop g.head d))
          ∙ begins_own g.mark ((number ∷ g.spelled (length p)) ++ drop g.head d)

      pub recorded_good : 1 ≤ length p → record_good g (recorded g number p base m) base ≡ true
      unfolding record_good
      recorded_good s = rw (mark_here, recorded_len, le-leb 1 (length p) s, le-leb (length p) g.longest l)

  -- the record at a place, written: what it says, and what the records at other places say still
  module _ (number : ℕ) (p : List ℕ) (place : ℕ) (m : List ℕ) (h : g.size * place + g.size ≤ length m) (l : length p ≤ g.longest) where
    pub recorded_new : arrival_of g (record_bytes g (recorded g number p (g.size * place) m) place) ≡ record { number = number; payload = p }
    recorded_new =
        let base = g.size * place in
        let d : List ℕ = recorded g number p base m in
        let room : base + (g.head + length p) ≤ length m = omega (arith, head_fits.1) in
        let len = recorded_len number p base m room l in
        arrival_is d place (rw (recorded_length number p base m) h) (rw len l)
        ∙ (λ i. record { number = recorded_number number p base m room l i; payload = take (len i) (drop (base + g.head) d) })
        ∙ ap (λ (x : List ℕ). record { number = number; payload = x }) (recorded_payload number p base m room l)

    pub recorded_old : (old : ℕ) → (old < place) ⊎ (place < old) → record_bytes g (recorded g number p (g.size * place) m) old ≡ record_bytes g m old
    recorded_old old =
        ⊎_elim
        (λ (q : old < place). recorded_elsewhere number p (g.size * place) m (g.size * old) g.size (inl (size_next g old place q)))
        (λ (q : place < old). recorded_elsewhere number p (g.size * place) m (g.size * old) g.size (inr (omega (arith, size_next g place old q, head_fits.1))))

  -- an answered put lost the notice, or wrote it
  module _ (x : Queue) (number : ℕ) (p m : List ℕ) where
    abbrev place : ℕ
    place = ring_place x.start x.count (capacity_of g (length m))

    module _ (y : Queue) (k : List ℕ) where
      abbrev LostIt : Type 0
      LostIt = (sized g p ≡ false) × ((y ≡ lost_one x) × (k ≡ m))

      abbrev WroteIt : Type 0
      WroteIt = ((sized g p ≡ true) × (x.count < capacity_of g (length m))) × ((y ≡ longer x) × (k ≡ recorded g number p (g.size * place) m))

      put_answers : after (answered y) k ≡ put_into g x number p m → (in_bounds (capacity_of g (length m)) x ≡ true) × (LostIt ⊎ WroteIt)
      unfolding put_into
      put_answers =
          let cap = capacity_of g (length m) in
          let P : After → Type 0 = λ w. after (answered y) k ≡ w → (in_bounds cap x ≡ true) × (LostIt ⊎ WroteIt) in
          ways P (not (in_bounds cap x))
          (λ f e. let o = ap (λ (w : After). w.said) e in let z : ◌≡◌ {A = ℕ} 0 1 = cc in absurd (omega arith))
          (λ f.
          ways P (not (sized g p))
          (λ i e. let o = ap (λ (w : After). w.said) e in (not-false _ f, inl (not-true _ i, (cc, ap (λ (w : After). w.memory) e))))
          (λ i.
          ways P (leb cap x.count)
          (λ h e. let o = ap (λ (w : After). w.said) e in let z : ◌≡◌ {A = ℕ} 0 1 = cc in absurd (omega arith))
          (λ h e. let o = ap (λ (w : After). w.said) e in (not-false _ f, inr ((not-false _ i, leb-false cap x.count h), (cc, ap (λ (w : After). w.memory) e))))))

      lost_waits : LostIt → waiting g y k ≡ waiting g x m ++ adds g number p
      unfolding waiting adds
      lost_waits w =
          (λ i. waiting g (w.1.0 i) (w.1.1 i))
          ∙ sym (append-nil (waiting g x m))
          ∙ ap (λ (b : Bool). waiting g x m ++ (if b then record { number = number; payload = p } ∷ [] else [])) (sym w.0)

      wrote_waits : in_bounds (capacity_of g (length m)) x ≡ true → WroteIt → waiting g y k ≡ waiting g x m ++ adds g number p
      unfolding waiting adds
      wrote_waits b w =
          let cap = capacity_of g (length m) in
          let c : x.count < cap = w.0.1 in
          let l : length p ≤ g.longest = (sized_both g p w.0.0).1 in
          let s : x.start < cap = (bounds_room cap x b (omega arith)).0 in
          let h : g.size * place + g.size ≤ length m = record_in g (length m) place (ring_below x.start x.count cap s (omega arith)) in
          let d : List ℕ = recorded g number p (g.size * place) m in
          let old : held_from g d cap x.start 0 x.count ≡ waiting g x m = held_same g cap d m x.start 0 x.count (λ j q. recorded_old number p place m h l (ring_place x.start j cap) (ring_apart x.start cap j x.count s (omega arith) c)) in
          let new : arrival_of g (record_bytes g d (ring_place x.start (0 + x.count) cap)) ≡ record { number = number; payload = p } = ap (λ (n : ℕ). arrival_of g (record_bytes g d (ring_place x.start n cap))) (zero-add x.count) ∙ recorded_new number p place m h l in
          (λ i. waiting g (w.1.0 i) (w.1.1 i))
          ∙ (λ i. held_from g d (capacity_of g (recorded_length number p (g.size * place) m i)) x.start 0 (add-one x.count i))
          ∙ held_back g cap d x.start 0 x.count
          ∙ (λ i. old i ++ (new i ∷ []))
          ∙ ap (λ (b : Bool). waiting g x m ++ (if b then record { number = number; payload = p } ∷ [] else [])) (sym w.0.0)

      -- an answered put adds its notice at the back, or nothing where that is lost, and keeps the memory's length and the bounds
      module _ (e : after (answered y) k ≡ put_into g x number p m) where
        pub put_waits : waiting g y k ≡ waiting g x m ++ adds g number p
        put_waits = let w = put_answers e in ⊎_elim lost_waits (wrote_waits w.0) w.1

        pub put_kept : (length k ≡ length m) × (in_bounds (capacity_of g (length k)) y ≡ true)
        unfolding in_bounds
        put_kept =
            let cap = capacity_of g (length m) in
            let w = put_answers e in
            ⊎_elim
            (λ (v : LostIt). (ap length v.1.1, (λ i. in_bounds (capacity_of g (length (v.1.1 i))) (v.1.0 i)) ∙ w.0))
            (λ (v : WroteIt).
            let l : length k ≡ length m = ap length v.1.1 ∙ recorded_length number p (g.size * place) m in
            let z : start_in cap x.start && leb (x.count + 1) cap ≡ true = rw ((and_both (start_in cap x.start) (leb x.count cap) w.0).0, le-leb (x.count + 1) cap (omega (arith, v.0.1))) in
            (l, (λ i. in_bounds (capacity_of g (l i)) (v.1.0 i)) ∙ z))
            w.1

    -- a refused put leaves every byte; within bounds it met a full queue with a payload that isn't lost
    module _ (n : ℕ) (v k : List ℕ) where
      put_refuses : after (refused n v) k ≡ put_into g x number p m → (k ≡ m) × (in_bounds (capacity_of g (length m)) x ≡ true → (capacity_of g (length m) ≤ x.count) × ((1 ≤ length p) × (length p ≤ g.longest)))
      unfolding put_into
      put_refuses =
          let cap = capacity_of g (length m) in
          let P : After → Type 0 = λ w. after (refused n v) k ≡ w → (k ≡ m) × (in_bounds cap x ≡ true → (cap ≤ x.count) × ((1 ≤ length p) × (length p ≤ g.longest))) in
          ways P (not (in_bounds cap x))
          (λ f e. (ap (λ (w : After). w.memory) e, λ t. absurd (false_true t (not-true _ f))))
          (λ f.
          ways P (not (sized g p))
          (λ i e. let o = ap (λ (w : After). w.said) e in let z : ◌≡◌ {A = ℕ} 0 1 = cc in absurd (omega arith))
          (λ i.
          ways P (leb cap x.count)
          (λ h e. (ap (λ (w : After). w.memory) e, λ t. (leb-true cap x.count h, sized_both g p (not-false _ i))))
          (λ h e. let o = ap (λ (w : After). w.said) e in let z : ◌≡◌ {A = ℕ} 0 1 = cc in absurd (omega arith))))

      pub put_stuck : after (refused n v) k ≡ put_into g x number p m → k ≡ m
      put_stuck e = (put_refuses e).0

      pub put_full_only : in_bounds (capacity_of g (length m)) x ≡ true → after (refused n v) k ≡ put_into g x number p m → (capacity_of g (length m) ≤ x.count) × ((1 ≤ length p) × (length p ≤ g.longest))
      put_full_only b e = (put_refuses e).1 b

    -- with room, a payload that isn't lost is written
    pub put_room : in_bounds (capacity_of g (length m)) x ≡ true → x.count < capacity_of g (length m) → 1 ≤ length p → length p ≤ g.longest → after (answered (longer x)) (written g x number p m) ≡ put_into g x number p m
    unfolding written
    put_room b c l h = put_is g x number p m (capacity_of g (length m)) refl b (λ z. omega arith) h c place refl (recorded g number p (g.size * place) m) refl

  -- A take that hands out a record: what it found, and what it answers.
  module _ (x y : Queue) (n : Notice) (m : List ℕ) (e : answered (got y n) ≡ taken g x m) where
    abbrev HandedIt : Type 0
    HandedIt = ((in_bounds (capacity_of g (length m)) x ≡ true) × ((1 ≤ x.count) × (length_at g m (g.size * x.start) ≤ g.longest))) × ((y ≡ shorter (capacity_of g (length m)) x) × (n ≡ notice_at g m (g.size * x.start)))

    take_gets : HandedIt
    unfolding taken
    take_gets =
        let P : Outcome Got → Type 0 = λ w. answered (got y n) ≡ w → HandedIt in
        ways P (not (in_bounds (capacity_of g (length m)) x))
        (λ f o. let z : ◌≡◌ {A = ℕ} 0 1 = cc in absurd (omega arith))
        (λ f.
        ways P (eqb x.count 0)
        (λ i o. let z : ◌≡◌ {A = ℕ} 0 1 = cc in absurd (omega arith))
        (λ i.
        ways P (not (record_good g m (g.size * x.start)))
        (λ h o. let z : ◌≡◌ {A = ℕ} 0 1 = cc in absurd (omega arith))
        (λ h o. let q = eqb-false x.count 0 i in ((not-false _ f, (omega arith, (good_length g m (g.size * x.start) (not-false _ h)).1)), (cc, cc)))))
        e

    take_start : (x.start < capacity_of g (length m)) × (x.count ≤ capacity_of g (length m))
    take_start = let w = take_gets in bounds_room (capacity_of g (length m)) x w.0.0 (omega (arith, w.0.1.0, bounds_count (capacity_of g (length m)) x w.0.0))

    take_first : arrival_of g (record_bytes g m (ring_place x.start 0 (capacity_of g (length m)))) ≡ record { number = n.number; payload = part_of m n.place n.len }
    take_first =
        let w = take_gets in
        let s = take_start.0 in
        let cap = capacity_of g (length m) in
        let base = g.size * x.start in
        let len = length_at g m base in
        let r = record_in g (length m) x.start s in
        ap (λ (j : ℕ). arrival_of g (record_bytes g m j)) (sym (ring_near x.start 0 cap (omega arith)) ∙ add-zero x.start)
        ∙ arrival_is m x.start r w.0.1.1
        ∙ ap (λ (p : List ℕ). record { number = get_or m (base + 2) 0; payload = p }) (part_is m (base + g.head) len (omega (arith, w.0.1.1, head_fits.1)))
        ∙ ap (λ (k : Notice). record { number = k.number; payload = part_of m k.place k.len }) (sym w.1.1)

    -- hands out the oldest notice and leaves the others
    pub take_waits : waiting g x m ≡ record { number = n.number; payload = part_of m n.place n.len } ∷ waiting g y m
    unfolding waiting held_from shorter
    take_waits =
        let w = take_gets in
        let v = take_start in
        let u : x.count ≡ suc (x.count - 1) = omega (arith, w.0.1.0) in
        ap (held_from g m (capacity_of g (length m)) x.start 0) u
        ∙ (λ i. take_first i ∷ held_next g (capacity_of g (length m)) m x.start 0 (x.count - 1) v.0 (omega (arith, v.1)) i)
        ∙ ap (λ (q : Queue). record { number = n.number; payload = part_of m n.place n.len } ∷ waiting g q m) (sym w.1.0)

    -- and keeps the bounds, with room for one more
    pub take_kept : (in_bounds (capacity_of g (length m)) y ≡ true) × (y.count < capacity_of g (length m))
    unfolding in_bounds shorter
    take_kept =
        let w = take_gets in
        let cap = capacity_of g (length m) in
        let h : 1 ≤ x.count = w.0.1.0 in
        let s : x.start < cap = take_start.0 in
        let c : x.count ≤ cap = take_start.1 in
        let u : start_in cap (ring_place x.start 1 cap) ≡ true = sym (start_some cap (ring_place x.start 1 cap) (λ z. omega arith)) ∙ lt-ltb (ring_place x.start 1 cap) cap (ring_below x.start 1 cap s (omega arith)) in
        let z : start_in cap (ring_place x.start 1 cap) && leb (x.count - 1) cap ≡ true = rw (u, le-leb (x.count - 1) cap (omega arith)) in
        (ap (in_bounds cap) w.1.0 ∙ z, omega (arith, ap (λ (q : Queue). q.count) w.1.0))

  -- a take that finds nothing leaves the queue
  pub take_empty : (x y : Queue) (m : List ℕ) → answered (empty y) ≡ taken g x m → y ≡ x
  unfolding taken
  take_empty x y m =
      let P : Outcome Got → Type 0 = λ w. answered (empty y) ≡ w → y ≡ x in
      ways P (not (in_bounds (capacity_of g (length m)) x))
      (λ f o. let z : ◌≡◌ {A = ℕ} 0 1 = cc in absurd (omega arith))
      (λ f.
      ways P (eqb x.count 0)
      (λ i o. cc)
      (λ i.
      ways P (not (record_good g m (g.size * x.start)))
      (λ h o. let z : ◌≡◌ {A = ℕ} 0 1 = cc in absurd (omega arith))
      (λ h o. let z : ◌≡◌ {A = ℕ} 0 1 = cc in absurd (omega arith))))

-- a notice that isn't lost is added
pub adds_one : (g : Geometry) (number : ℕ) (p : List ℕ) → 1 ≤ length p → length p ≤ g.longest → adds g number p ≡ record { number = number; payload = p } ∷ []
unfolding adds
adds_one g number p h l = rw (le-leb 1 (length p) h, le-leb (length p) g.longest l)
