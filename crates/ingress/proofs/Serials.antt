-- R-11 over any sequence of calls: the number in force, and the one that an answer bears. From what a signal, a reset and a turn leave of the slot.
use mathlib.Core.Path.{◌≡◌, refl, sym, ap, ◌∙◌}
use mathlib.Core.Logic.{◌⊎◌, inl, inr}
use mathlib.Core.Bool.{Bool, true, false}
use mathlib.Core.List.{List, [], ◌∷◌, ◌++◌}
use Prim.Native.Nat.{ℕ}
use Rattle.text.specs.Logic.{false_true}
use Rattle.outcome.specs.Outcome.{Outcome, answered, refused}
use Rattle.slot.specs.Slot.{was_reset}
use Rattle.slot.specs.Laws.{Leaves, leaves_same, leaves_more, reset_frees, read_tells}
use Rattle.slot.specs.declared.Slot.{Slot}
use Rattle.queue.specs.Queue.{ours, taken, Got, got, empty}
use Rattle.selector.specs.Selector.{Choice}
use Rattle.turn.specs.Turn.{World}
use Rattle.turn.specs.Laws.{once_went}
use Rattle.turn.specs.Kept.{next_leaves}
use Rattle.ingress.specs.Ingress.{After, advanced, written}
use Rattle.ingress.specs.Story.{Event, arrived, consumed, dropped, handed, freed, Story, Fed, takes_bytes, Keeps}
use Rattle.ingress.specs.Conserved.{advance_keeps, write_keeps}
use Rattle.ingress.specs.Calls.{Call, write, fill, advance, clear, take_one, reset, after_take, after_reset, left_by, left_after, along, forced, forced_by, last_of, in_force, Stored, Serials}

-- from the world w to v the number stands, and what is stored
abbrev Still : World → World → Type 0
Still w v = Leaves w.state.slot w.slot_memory v.state.slot v.slot_memory

still_same : (w v : World) → v ≡ w → Still w v
still_same w v e = rw e (leaves_same w.state.slot w.slot_memory)

still_more : (w u v : World) → Still w u → Still u v → Still w v
still_more w u v = leaves_more w.state.slot u.state.slot v.state.slot w.slot_memory u.slot_memory v.slot_memory

-- so over bytes that arrive and turns,
story_still : (c : Choice) (l : List Event) (w v : World) → Story c w l v → Fed l → Still w v
story_still c [] w v s f = still_same w v (sym s)
story_still c (arrived b ∷ l) w v s f =
    still_more w s.at v (rw s.first.others (leaves_same w.state.slot w.slot_memory)) (story_still c l s.at v s.rest f)
story_still c (consumed x ∷ l) w v s f =
    still_more w s.at v (rw (once_went c w s.at x.answer.consumed s.first.goes).1.0 (next_leaves c w)) (story_still c l s.at v s.rest f)
story_still c (dropped b ∷ l) w v s f = absurd f
story_still c (handed a ∷ l) w v s f = absurd f
story_still c (freed n ∷ l) w v s f = absurd f

-- over an advance and a write,
keeps_still : {A : Type 0} (c : Choice) (w : World) (b : List ℕ) (r : After A) → Keeps c w b r → Still w r.left
keeps_still c w b r k = go (takes_bytes r.said) refl
  where
    go : (x : Bool) → takes_bytes r.said ≡ x → Still w r.left
    go true e = let o = k.over e in story_still c o.events w r.left o.story o.fed
    go false e = still_same w r.left (k.same e)

-- and over every call that is no answered reset; an answered one leaves the slot free under its number.
data Does (c : Choice) (x : Call) (w : World) : Type 0 where
  still : forced_by x w ≡ [] → Still w (left_by c x w) → Does c x w
  forces : (n : ℕ) → forced_by x w ≡ n ∷ [] → (left_by c x w).state.slot.serial ≡ n → (left_by c x w).state.slot.signalled ≡ false → Does c x w

take_still : (w : World) (o : Outcome Got) → Still w (after_take w o)
take_still w (answered (got q n)) = leaves_same w.state.slot w.slot_memory
take_still w (answered (empty q)) = leaves_same w.state.slot w.slot_memory
take_still w (refused n v) = leaves_same w.state.slot w.slot_memory

does : (c : Choice) (x : Call) (w : World) → Does c x w
does c (write p) w = still refl (keeps_still c w _ (written c p w) (write_keeps c p w).0)
does c (fill n p) w = still refl (leaves_same w.state.slot w.slot_memory)
does c (advance n) w = still refl (keeps_still c w _ (advanced c n w) (advance_keeps c n w).0)
does c clear w = still refl (leaves_same w.state.slot w.slot_memory)
does c take_one w = still refl (take_still w (taken ours w.state.queue w.queue_memory))
does c (reset n) w = go (was_reset w.state.slot n w.slot_memory) refl
  where
    go : (o : Outcome Slot) → o ≡ was_reset w.state.slot n w.slot_memory → Does c (reset n) w
    go (answered s) e =
        let f = reset_frees w.state.slot w.slot_memory n s e in
        forces n (ap (forced n) (sym e)) (ap (λ (o : Outcome Slot). (after_reset w o).state.slot.serial) (sym e) ∙ ap (λ (y : Slot). y.serial) f)
        (ap (λ (o : Outcome Slot). (after_reset w o).state.slot.signalled) (sym e) ∙ ap (λ (y : Slot). y.signalled) f)
    go (refused k v) e = still (ap (forced n) (sym e)) (still_same w (left_by c (reset n) w) (ap (after_reset w) (sym e)))

-- the number behind the calls is the one in force
serial_is : (c : Choice) (l : List Call) (w : World) → (left_after c l w).state.slot.serial ≡ in_force c l w
unfolding left_after along
serial_is c [] w = refl
serial_is c (x ∷ l) w =
    let u = left_by c x w in
    let r = along c forced_by l u in
    serial_is c l u ∙ go r (does c x w)
  where
    go : (r : List ℕ) → Does c x w → last_of (left_by c x w).state.slot.serial r ≡ last_of w.state.slot.serial (forced_by x w ++ r)
    go r (still e k) = (λ i. last_of (k.serial i) (sym e i ++ r))
    go r (forces n e f g) = (λ i. last_of (f i) r) ∙ (λ i. last_of w.state.slot.serial (sym e i ++ r))

-- What is held behind the calls was there before them and stands, or was stored by one of them.
since : (c : Choice) (l : List Call) (w : World) → (left_after c l w).state.slot.signalled ≡ true → ((w.state.slot.signalled ≡ true) × Still w (left_after c l w)) ⊎ Stored c l w
unfolding left_after along
since c [] w t = inl (t, leaves_same w.state.slot w.slot_memory)
since c (x ∷ l) w t = go (since c l (left_by c x w) t) (does c x w) w.state.slot.signalled refl
  where
    go : (((left_by c x w).state.slot.signalled ≡ true) × Still (left_by c x w) (left_after c l (left_by c x w))) ⊎ Stored c l (left_by c x w) → Does c x w → (b : Bool) → w.state.slot.signalled ≡ b → ((w.state.slot.signalled ≡ true) × Still w (left_after c l (left_by c x w))) ⊎ Stored c (x ∷ l) w
    go (inl s) (still e k) true q = inl (q, still_more w (left_by c x w) (left_after c l (left_by c x w)) k s.1)
    go (inl s) (still e k) false q =
        inr (record { before = []; call = x; behind = l; is = refl; free = q; stands = s.1.stands s.0; bears = s.1.serial ∙ k.serial })
    go (inl s) (forces n e f g) b q = absurd (false_true s.0 g)
    go (inr s) d b q =
        inr
        (record {
          before = x ∷ s.before;
          call = s.call;
          behind = s.behind;
          is = ap (λ (y : List Call). x ∷ y) s.is;
          free = s.free;
          stands = s.stands;
          bears = s.bears ∙ sym (serial_is c s.before (left_by c x w)) ∙ serial_is c (x ∷ s.before) w;
        })

pub serials : (c : Choice) (l : List Call) (w : World) → Serials c l w
serials c l w =
    let v = left_after c l w in
    record {
      serial = serial_is c l w;
      tells = λ x e. ap (λ (y : Slot). y.serial) (read_tells v.state.slot v.slot_memory (record { there = true; slot = x }) e) ∙ serial_is c l w;
      stored = λ f t. go f (since c l w t);
    }
  where
    go : w.state.slot.signalled ≡ false → ((w.state.slot.signalled ≡ true) × Still w (left_after c l w)) ⊎ Stored c l w → Stored c l w
    go f (inl s) = absurd (false_true s.0 f)
    go f (inr s) = s
