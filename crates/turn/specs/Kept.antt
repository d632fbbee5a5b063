-- What a turn keeps: it stays within the bounds, loses no byte, adds its notice once, and changes neither the serial number nor what is stored (R-11).
-- From laws that the layers below export.
use Rattle.std.specs.Prelude.{◌≡◌, Bool, List, [], ◌++◌, ℕ, ◌-◌, ◌≤◌, length, take, drop, if◌then◌else◌}
use Rattle.std.proofs.Math.Path.{refl, ap}
use Rattle.std.proofs.Common.{sym, ◌∙◌, append-nil, arith, take-append-drop}
use Rattle.std.proofs.Math.Bool.{true, false}
use Rattle.text.specs.Logic.{false_true, not_true_false}
use Rattle.moves.specs.Moves.{moved}
use Rattle.moves.specs.Laws.{moved_length, moved_held, moved_still}
use Rattle.outcome.specs.Outcome.{Outcome, answered, refused}
use Rattle.answers.specs.Answer.{is_found, is_notice}
use Rattle.answers.specs.Laws.{none_only, notice_plain}
use Rattle.outcome.specs.Laws.{ways, same_way}
use Rattle.answers.specs.declared.Answer.{Answer}
use Rattle.slot.specs.Slot.{is_response, signalled}
use Rattle.slot.specs.Slot as slots
use Rattle.slot.specs.Laws.{Leaves, leaves_same, signal_none, signal_kept, signal_leaves, signal_stuck}
use Rattle.slot.specs.declared.Slot.{Slot}
use Rattle.queue.specs.Queue.{ours, put_into, capacity_of, in_bounds, waiting, adds}
use Rattle.queue.specs.Queue as queues
use Rattle.queue.specs.Laws.{ours_sound}
use Rattle.queue.specs.Waiting.{put_waits, put_kept, put_stuck, put_full_only}
use Rattle.queue.specs.declared.Queue.{Queue}
use Rattle.selector.specs.Selector.{Trusted, Choice}
use Rattle.turn.specs.declared.State.{State}
use Rattle.turn.specs.Turn.{with_end, Delivery, or_same, is_refused, to_queue, to_slot, deliver, World, world, held, says, Quiet, payload_of, carried_of, delivering}
use Rattle.turn.specs.Says.{held_long, says_within, says_trusted}
use Rattle.turn.specs.Laws.{next, waits_at}

-- A delivery that doesn't wait stays within the bounds, and adds the notice that it was given.
pub record Delivers (s : State) (m n : List ℕ) (adding : List queues.Arrival) (d : Delivery) : Type 0 where
  pub slot_long : length d.slot_memory ≡ length m
  pub slot_fits : d.state.slot.len ≤ length d.slot_memory
  pub queue_long : length d.queue_memory ≡ length n
  pub queue_fits : in_bounds (capacity_of ours (length d.queue_memory)) d.state.queue ≡ true
  pub notices : waiting ours d.state.queue d.queue_memory ≡ waiting ours s.queue n ++ adding

module _ (s : State) (a : Answer) (p m n : List ℕ) (f : s.slot.len ≤ length m) (g : in_bounds (capacity_of ours (length n)) s.queue ≡ true) where
  queue_delivers : (o : Outcome Queue) (k : List ℕ) → queues.after o k ≡ put_into ours s.queue a.number p n → is_refused o ≡ false → Delivers s m n (adds ours a.number p) (to_queue s m (queues.after o k))
  queue_delivers (answered y) k e r =
      let w = put_kept ours ours_sound s.queue a.number p n y k e in
      record { slot_long = refl; slot_fits = f; queue_long = w.0; queue_fits = w.1; notices = put_waits ours ours_sound s.queue a.number p n y k e }
  queue_delivers (refused j v) k e r = absurd (false_true refl r)

  slot_delivers : (o : Outcome Slot) (k : List ℕ) → slots.after o k ≡ signalled s.slot a p m → is_refused o ≡ false → Delivers s m n [] (to_slot s n (slots.after o k))
  slot_delivers (answered y) k e r =
      let w = signal_kept s.slot a p m y k e in
      record { slot_long = w.0; slot_fits = w.1; queue_long = refl; queue_fits = g; notices = sym (append-nil (waiting ours s.queue n)) }
  slot_delivers (refused j v) k e r = absurd (false_true refl r)

  delivers : (deliver s a p m n).waits ≡ false → Delivers s m n (if is_notice a.kind then adds ours a.number p else []) (deliver s a p m n)
  unfolding deliver
  delivers = go (is_notice a.kind)
    where
      go : (b : Bool) → (if b then to_queue s m (put_into ours s.queue a.number p n) else to_slot s n (signalled s.slot a p m)).waits ≡ false → Delivers s m n (if b then adds ours a.number p else []) (if b then to_queue s m (put_into ours s.queue a.number p n) else to_slot s n (signalled s.slot a p m))
      go true = queue_delivers (put_into ours s.queue a.number p n).said (put_into ours s.queue a.number p n).memory refl
      go false = slot_delivers (signalled s.slot a p m).said (signalled s.slot a p m).memory refl

  -- One that waits is a notice of 1 to 1,024 bytes (R-9) at a full queue, and leaves every byte.
  abbrev Waited : Bool → Delivery → Type 0
  Waited b d = (b ≡ true) × ((capacity_of ours (length n) ≤ s.queue.count) × ((1 ≤ length p) × (length p ≤ ours.longest))) × ((d.slot_memory ≡ m) × (d.queue_memory ≡ n))

  queue_waited : (o : Outcome Queue) (k : List ℕ) → queues.after o k ≡ put_into ours s.queue a.number p n → is_refused o ≡ true → Waited true (to_queue s m (queues.after o k))
  queue_waited (answered y) k e r = absurd (false_true r refl)
  queue_waited (refused j v) k e r =
      (refl, put_full_only ours ours_sound s.queue a.number p n j v k g e, (refl, put_stuck ours ours_sound s.queue a.number p n j v k e))

  slot_waited : (o : Outcome Slot) (k : List ℕ) → slots.after o k ≡ signalled s.slot a p m → is_refused o ≡ true → Waited false (to_slot s n (slots.after o k))
  slot_waited (answered y) k e r = absurd (false_true r refl)
  slot_waited (refused j v) k e r = absurd (omega (arith, (signal_stuck s.slot a p m j v k e).1))

  waited : (deliver s a p m n).waits ≡ true → Waited (is_notice a.kind) (deliver s a p m n)
  unfolding deliver
  waited = go (is_notice a.kind)
    where
      go : (b : Bool) → (if b then to_queue s m (put_into ours s.queue a.number p n) else to_slot s n (signalled s.slot a p m)).waits ≡ true → Waited b (if b then to_queue s m (put_into ours s.queue a.number p n) else to_slot s n (signalled s.slot a p m))
      go true = queue_waited (put_into ours s.queue a.number p n).said (put_into ours s.queue a.number p n).memory refl
      go false = slot_waited (signalled s.slot a p m).said (signalled s.slot a p m).memory refl

  -- None delivers nothing.
  delivers_none : is_notice a.kind ≡ false → is_response a.kind ≡ false → to_slot s n (slots.after (answered s.slot) m) ≡ deliver s a p m n
  unfolding deliver
  delivers_none e h = ap (to_slot s n) (signal_none s.slot a p m f h) ∙ rw e

-- a state that fits its memories, a buffer of at most 4,096 bytes and a table that the digester takes
pub record Good (c : Choice) (w : World) : Type 0 where
  pub long : length w.buf ≤ 4096
  pub records : ℕ
  pub ruled : c.rules ≡ answered records
  pub inside : w.state.end ≤ length w.buf
  pub slot_fits : w.state.slot.len ≤ length w.slot_memory
  pub queue_fits : in_bounds (capacity_of ours (length w.queue_memory)) w.state.queue ≡ true

-- What goes along with a notice is its payload.
pub notice_carries : (s : List ℕ) (a : Answer) → is_notice a.kind ≡ true → carried_of s a ≡ payload_of s a
notice_carries s a e = rw (notice_plain a.kind e)

-- what a turn from a good state leaves
module _ (c : Choice) (w : World) (g : Good c w) where
  ends_there : length (held w) ≡ w.state.end
  ends_there = omega (arith, held_long w, g.inside)

  pub trusted : Trusted (says c w) (Quiet c w)
  trusted = says_trusted c w (omega (arith, ends_there, g.inside, g.long)) g.records g.ruled

  -- where nothing is consumed, nothing is finished, and the turn changes nothing
  module _ (z : (says c w).consumed ≡ 0) where
    unheard : is_found (says c w) ≡ false
    unheard = not_true_false (is_found (says c w)) (λ e. omega (arith, trusted.some e, z))

    pub idle : Quiet c w
    idle = trusted.quiet unheard

    pub idle_next : next c w ≡ w
    idle_next =
        let k = none_only (says c w).kind unheard in
        let d : to_slot w.state w.queue_memory (slots.after (answered w.state.slot) w.slot_memory) ≡ delivering c w = delivers_none w.state (says c w) (carried_of (held w) (says c w)) w.slot_memory w.queue_memory g.slot_fits g.queue_fits (ap is_notice k) (ap is_response k) in
        let e : length (held w) - (says c w).consumed ≡ w.state.end = omega (arith, ends_there) in
        let b : moved w.buf (says c w).consumed (length (held w)) ≡ w.buf = ap (λ (n : ℕ). moved w.buf n (length (held w))) z ∙ moved_still w.buf (length (held w)) in
        λ i. world (with_end (sym d i).state (e i)) (b i) (sym d i).slot_memory (sym d i).queue_memory

  -- a turn that goes on leaves a good state, and what is consumed goes from the front of what is held
  module _ (r : (delivering c w).waits ≡ false) where
    pub kept : Delivers w.state w.slot_memory w.queue_memory (if is_notice (says c w).kind then adds ours (says c w).number (payload_of (held w) (says c w)) else []) (delivering c w)
    kept =
        rw (same_way [] (is_notice (says c w).kind) (λ e. ap (adds ours (says c w).number) (notice_carries (held w) (says c w) e)))
        at (delivers w.state (says c w) (carried_of (held w) (says c w)) w.slot_memory w.queue_memory g.slot_fits g.queue_fits r)

    pub next_good : Good c (next c w)
    next_good =
        let l = moved_length w.buf (says c w).consumed (length (held w)) in
        record {
          long = omega (arith, l, g.long);
          records = g.records;
          ruled = g.ruled;
          inside = omega (arith, l, ends_there, g.inside);
          slot_fits = kept.slot_fits;
          queue_fits = kept.queue_fits;
        }

    pub next_held : held w ≡ take (says c w).consumed (held w) ++ held (next c w)
    next_held =
        let m = ap (λ (n : ℕ). take n w.buf) ends_there in
        sym (take-append-drop (says c w).consumed (held w))
        ∙ ap (λ (x : List ℕ). take (says c w).consumed (held w) ++ x) (sym (moved_held w.buf (says c w).consumed (length (held w)) (says_within c w) (omega (arith, ends_there, g.inside)) ∙ ap (λ (x : List ℕ). drop (says c w).consumed x) m))

  -- one that waits leaves everything, and its notice has 1 to 1,024 bytes and meets a full queue
  module _ (r : (delivering c w).waits ≡ true) where
    pub waits_full : (is_notice (says c w).kind ≡ true) × ((capacity_of ours (length w.queue_memory) ≤ w.state.queue.count) × ((1 ≤ length (payload_of (held w) (says c w))) × (length (payload_of (held w) (says c w)) ≤ ours.longest))) × (((delivering c w).slot_memory ≡ w.slot_memory) × ((delivering c w).queue_memory ≡ w.queue_memory))
    waits_full =
        let v = waited w.state (says c w) (carried_of (held w) (says c w)) w.slot_memory w.queue_memory g.slot_fits g.queue_fits r in
        (v.0, rw (notice_carries (held w) (says c w) v.0) at v.1, v.2)

    pub stays : waits_at c w ≡ w
    stays = λ i. world w.state w.buf (waits_full.2.0 i) (waits_full.2.1 i)

-- A turn changes no serial number, and no answer that is stored (R-11).
module _ (s : State) (a : Answer) (p m n : List ℕ) where
  slot_leaves : (o : Outcome Slot) (k : List ℕ) → slots.after o k ≡ signalled s.slot a p m → Leaves s.slot m (or_same s.slot o) k
  slot_leaves (answered y) k e = signal_leaves s.slot a p m y k e
  slot_leaves (refused j v) k e = rw (signal_stuck s.slot a p m j v k e).0 (leaves_same s.slot m)

  deliver_leaves : Leaves s.slot m (deliver s a p m n).state.slot (deliver s a p m n).slot_memory
  unfolding deliver
  deliver_leaves = ways (λ (d : Delivery). Leaves s.slot m d.state.slot d.slot_memory) (is_notice a.kind) (λ e. leaves_same s.slot m) (λ e. slot_leaves (signalled s.slot a p m).said (signalled s.slot a p m).memory refl)

pub next_leaves : (c : Choice) (w : World) → Leaves w.state.slot w.slot_memory (next c w).state.slot (next c w).slot_memory
next_leaves c w = deliver_leaves w.state (says c w) (carried_of (held w) (says c w)) w.slot_memory w.queue_memory
