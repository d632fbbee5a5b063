-- Laws of a turn for its programs and the loops above it. What it needs of the layers below are the laws that they export.
use Rattle.std.proofs.Math.Path.{◌≡◌, refl, sym, ap}
use Rattle.std.proofs.Common.{Option, Some, None, ◌∙◌, arith}
use Rattle.std.specs.Prelude.{true, false, ℕ, ◌+◌, ◌-◌, ◌≤◌, ◌<◌, min, take}
use mathlib.Core.List.{List}
use Rattle.std.proofs.Math.ListN.{length}
use Rattle.moves.specs.Moves.{moved}
use Rattle.moves.specs.Laws.{moved_length}
use Rattle.outcome.specs.Laws.{ways}
use Rattle.text.specs.Text.{part_of}
use Rattle.text.specs.declared.Span.{Span}
use Rattle.answers.specs.Answer.{is_notice, carried}
use Rattle.answers.specs.declared.Answer.{Answer}
use Rattle.selector.specs.Selector.{Choice}
use Rattle.queue.specs.Queue.{ours, put_into}
use Rattle.turn.specs.declared.Memories.{Memories}
use Rattle.turn.specs.declared.State.{State}
use Rattle.turn.specs.Turn.{SamePlaces, with_end, to_queue, deliver, delivery, World, world, held, says, carried_of, delivering, Step, went, stuck, onward, once}
use Rattle.turn.specs.Says.{held_long, held_is, says_is, says_within, says_byte}

-- A notice goes to the queue.
pub to_queue_lem : (s : State) (a : Answer) (p m n : List ℕ) → is_notice a.kind ≡ true → to_queue s m (put_into ours s.queue a.number p n) ≡ deliver s a p m n
unfolding deliver
to_queue_lem s a p m n h = rw h

-- the ways out of `step`, e being where the bytes held end
module _ (c : Choice) (w : World) (e : ℕ) (h : e ≡ min w.state.end (length w.buf)) (a : Answer) (ea : a ≡ c.answers (take e w.buf)) where
  answer_is : a ≡ says c w
  answer_is = ea ∙ says_is w.state w.buf w.slot_memory w.queue_memory e h c

  -- what is consumed lies in what is held
  pub step_room : a.consumed ≤ e
  step_room = omega (arith, h, ap (λ (x : Answer). x.consumed) answer_is, says_within c w, held_long w)

  -- and a notice's number fits its record
  pub step_number : is_notice a.kind ≡ true → a.number < 256
  step_number = rw answer_is (says_byte c w)

  module _ (q : Span) (eq : q ≡ carried a) (p : List ℕ) (ep : p ≡ part_of (take e w.buf) q.start q.len) (r : Option State) (k l : List ℕ) (er : delivery w.state r k l ≡ deliver w.state a p w.slot_memory w.queue_memory) where
    carries : p ≡ carried_of (held w) a
    carries = ep ∙ ap (λ (y : Span). part_of (take e w.buf) y.start y.len) eq ∙ ap (λ (y : List ℕ). carried_of y a) (held_is w.state w.buf w.slot_memory w.queue_memory e h)

    at_delivery : onward w a (delivery w.state r k l) ≡ once c w
    unfolding once
    at_delivery =
        ap (onward w a) (er ∙ ap (λ (x : List ℕ). deliver w.state a x w.slot_memory w.queue_memory) carries)
        ∙ ap (λ (x : Answer). onward w x (deliver w.state x (carried_of (held w) x) w.slot_memory w.queue_memory)) answer_is

    pub step_full : r ≡ None → stuck (world w.state w.buf k l) ≡ once c w
    unfolding onward
    step_full f = rw f at at_delivery

    pub step_is : (x : State) → r ≡ Some x → (o : List ℕ) → o ≡ moved w.buf a.consumed e → went (world (with_end x (e - a.consumed)) o k l) a.consumed ≡ once c w
    unfolding onward
    step_is x f o v =
        let z : e ≡ length (held w) = h ∙ sym (held_long w) in
        ap (λ (y : List ℕ). went (world (with_end x (e - a.consumed)) y k l) a.consumed) v
        ∙ (λ i. went (world (with_end x (z i - a.consumed)) (moved w.buf a.consumed (z i)) k l) a.consumed)
        ∙ (rw f at at_delivery)

-- a turn that went on: what it leaves; one that is stuck: the same
abbrev pub next : Choice → World → World
next c w = world (with_end (delivering c w).state (length (held w) - (says c w).consumed)) (moved w.buf (says c w).consumed (length (held w))) (delivering c w).slot_memory (delivering c w).queue_memory

abbrev pub waits_at : Choice → World → World
waits_at c w = world w.state w.buf (delivering c w).slot_memory (delivering c w).queue_memory

abbrev pub left_by_lem : Step → World
left_by_lem (went w n) = w
left_by_lem (stuck w) = w

abbrev count_of : Step → ℕ
count_of (went w n) = n
count_of (stuck w) = 0

module _ (c : Choice) (w : World) where
  pub once_went : (v : World) (n : ℕ) → went v n ≡ once c w → ((delivering c w).waits ≡ false) × ((v ≡ next c w) × (n ≡ (says c w).consumed))
  unfolding once onward
  once_went v n =
      ways (λ s. went v n ≡ s → ((delivering c w).waits ≡ false) × ((v ≡ next c w) × (n ≡ (says c w).consumed))) (delivering c w).waits
      (λ q e. let z : ◌≡◌ {A = ℕ} 0 1 = cc in absurd (omega arith))
      (λ q e. (q, (ap left_by_lem e, ap count_of e)))

  pub once_stuck : (v : World) → stuck v ≡ once c w → ((delivering c w).waits ≡ true) × (v ≡ waits_at c w)
  unfolding once onward
  once_stuck v =
      ways (λ s. stuck v ≡ s → ((delivering c w).waits ≡ true) × (v ≡ waits_at c w)) (delivering c w).waits
      (λ q e. (q, ap left_by_lem e))
      (λ q e. let z : ◌≡◌ {A = ℕ} 0 1 = cc in absurd (omega arith))

  pub once_goes : (delivering c w).waits ≡ false → went (next c w) (says c w).consumed ≡ once c w
  unfolding once onward
  once_goes r = rw r

  -- what is consumed is gone from what is held
  pub once_end : (v : World) (n : ℕ) → went v n ≡ once c w → v.state.end + n ≡ min w.state.end (length w.buf)
  once_end v n e =
      let k = once_went v n e in
      omega (arith, ap (λ (x : World). x.state.end) k.1.0, k.1.1, says_within c w, held_long w)

  -- no turn makes more of what is held
  pub once_less : (left_by_lem (once c w)).state.end ≤ w.state.end
  unfolding once onward
  once_less = ways (λ s. (left_by_lem s).state.end ≤ w.state.end) (delivering c w).waits (λ q. omega arith) (λ q. omega (arith, held_long w))

  -- nor changes the buffer's length
  pub once_long : length (left_by_lem (once c w)).buf ≡ length w.buf
  unfolding once onward
  once_long = ways (λ s. length (left_by_lem s).buf ≡ length w.buf) (delivering c w).waits (λ q. refl) (λ q. moved_length w.buf (says c w).consumed (length (held w)))

-- the memories lent once more, and on
pub places_same : (m : Memories) → SamePlaces m m
places_same m = ((refl, (refl, refl)), (refl, (refl, refl)))

pub places_more : (m n k : Memories) → SamePlaces m n → SamePlaces n k → SamePlaces m k
places_more m n k a b = (
  (a.0.0 ∙ b.0.0, (a.0.1.0 ∙ b.0.1.0, a.0.1.1 ∙ b.0.1.1)),
  (a.1.0 ∙ b.1.0, (a.1.1.0 ∙ b.1.1.0, a.1.1.1 ∙ b.1.1.1)),
)
