-- The ways out of the exports, each with what led there.
use Rattle.std.specs.Prelude.{Result, ◌≡◌, refl, false, List, [], ◌∷◌, ℕ, ◌+◌, ◌≤◌, ◌<◌, length, leb}
use Rattle.std.proofs.Common.{sym, ap, ◌∙◌, le-leb}
use Rattle.std.proofs.lemmas.Bool.{lt-leb}
use Rattle.text.specs.Text.{part_of, part_at}
use Rattle.outcome.specs.Outcome.{Outcome}
use Rattle.outcome.specs.Laws.{ways}
use Rattle.selector.specs.Selector.{choice}
use Rattle.selector.specs.declared.Selector.{Selector}
use Rattle.quiet.specs.Quiet.{still}
use Rattle.lists.specs.Exactly.{one_reading}
use Rattle.lists.specs.declared.ListError.{ListError}
use Rattle.slot.specs.Slot as slots
use Rattle.slot.specs.Laws as slot_laws
use Rattle.slot.specs.declared.Slot.{Slot}
use Rattle.turn.specs.Turn.{world}
use Rattle.ingress.specs.Ingress.{After, advance_says, advanced, result_of, write_says, written, taking}
use Rattle.turn.specs.declared.Memories.{Memories}
use Rattle.turn.specs.declared.State.{State}
use Rattle.ingress.specs.declared.AdvanceError.{AdvanceError}
use Rattle.ingress.specs.declared.WriteError.{WriteError}
use Rattle.feed.specs.Feed.{Fed, fed, advanced_with, written_with}
use Rattle.numbers.specs.Numbers.{selector_of, word, answer_of, slot_of, state_of, laid}
use Rattle.numbers.specs.Laws.{ten, slot_stays, freed_stays}
use Rattle.gateway.specs.Gateway.{Call, call, said, listing, Listing, part_values, reset_said, Turn, turn, signal_said, Take, took, Whole, whole, left_said, whole_said, count_values, no_values, Feeding, feeding, feed_said, Spoken, spoken}

-- where a part of the memory s begins
module _ (s : List ℕ) (place len : ℕ) where
  pub fits_not : length s < place + len → 0 ≡ part_at s place len
  unfolding part_at
  fits_not h = rw (lt-leb (place + len) (length s) h)

  pub fits_there : place + len ≤ length s → place ≡ part_at s place len
  unfolding part_at
  fits_there h = rw (le-leb (place + len) (length s) h)

-- the payload that a slot holds, as two numbers
pub slot_part : (v m o : List ℕ) (s : Slot) → s ≡ slot_of v → (p : List ℕ) → p ≡ part_of m 0 (slots.readable s) → laid (0 ∷ length p ∷ []) o ≡ laid (part_values m 0 (slots.readable (slot_of v))) o
unfolding part_at
slot_part v m o s es p e =
    (λ i. laid (ways (λ n. 0 ≡ n) (leb (0 + slots.readable s) (length m)) (λ w. refl) (λ w. refl) i ∷ length (e i) ∷ []) o)
    ∙ ap (λ (y : Slot). laid (part_values m 0 (slots.readable y)) o) es

-- from the state s read from the numbers v, by the digester of a number, with what it left in the three memories
module _ (v o : List ℕ) (s : State) (es : s ≡ state_of v) (j : ℕ) (d : Selector) (ed : d ≡ selector_of j) (t b₀ k₀ q₀ : List ℕ) (m' : Memories) (b k q : List ℕ) (eb : b ≡ m'.buf.now) (ek : k ≡ m'.slot.now) (eq : q ≡ m'.queue.now) (x : ℕ) (u l : List ℕ) where
  left_is : (y : Take) → took x u l ≡ y → whole x u l b k q ≡ whole y.number y.state y.out m'.buf.now m'.slot.now m'.queue.now
  left_is y e = λ i. whole (e i).number (e i).state (e i).out (eb i) (ek i) (eq i)

  pub advance_is : (c : ℕ) (r : Result State AdvanceError) → result_of s r m' ≡ advanced (choice d t) c (world s b₀ k₀ q₀) → took x u l ≡ left_said no_values (advance_says (state_of v) r) v o → whole x u l b k q ≡ whole_said no_values (advanced (choice (selector_of j) t) c (world (state_of v) b₀ k₀ q₀)) v o
  advance_is c r e g = left_is _ g ∙ ap (λ (z : After Unit). whole_said no_values z v o) (rw (es, ed) at e)

  pub write_is : (p : List ℕ) (r : Result (State × ℕ) WriteError) → taking s r m' ≡ written (choice d t) p (world s b₀ k₀ q₀) → took x u l ≡ left_said count_values (write_says (state_of v) r) v o → whole x u l b k q ≡ whole_said count_values (written (choice (selector_of j) t) p (world (state_of v) b₀ k₀ q₀)) v o
  write_is p r e g = left_is _ g ∙ ap (λ (z : After ℕ). whole_said count_values z v o) (rw (es, ed) at e)

  -- with the findings' numbers f, of which it left f' (R-14)
  module _ (f f' : List ℕ) where
    pub feed_advance_is : (c : ℕ) (r : Result State AdvanceError) → fed (result_of s r m') f' ≡ advanced_with (choice d t) (still d t) c f (world s b₀ k₀ q₀) → took x u l ≡ left_said no_values (advance_says (state_of v) r) v o → feeding (whole x u l b k q) f' ≡ feed_said no_values (advanced_with (choice (selector_of j) t) (still (selector_of j) t) c f (world (state_of v) b₀ k₀ q₀)) v o
    feed_advance_is c r e g = ap (λ (y : Whole). feeding y f') (left_is _ g) ∙ ap (λ (z : Fed Unit). feed_said no_values z v o) (rw (es, ed) at e)

    pub feed_write_is : (p : List ℕ) (r : Result (State × ℕ) WriteError) → fed (taking s r m') f' ≡ written_with (choice d t) (still d t) p f (world s b₀ k₀ q₀) → took x u l ≡ left_said count_values (write_says (state_of v) r) v o → feeding (whole x u l b k q) f' ≡ feed_said count_values (written_with (choice (selector_of j) t) (still (selector_of j) t) p f (world (state_of v) b₀ k₀ q₀)) v o
    feed_write_is p r e g = ap (λ (y : Whole). feeding y f') (left_is _ g) ∙ ap (λ (z : Fed ℕ). feed_said count_values z v o) (rw (es, ed) at e)

-- Where document 01 has a call change nothing, or one thing alone, every other number of the state stays as it stood, in plain form or not.
module _ (a b c d e f g h i k : ℕ) (m : List ℕ) (l : e ≤ length m) where
  abbrev was : List ℕ
  was = ten a b c d e f g h i k

  -- a signal of None or of a notice
  pub signal_still : (w p : List ℕ) → slots.is_response (answer_of w).kind ≡ false → signal_said (slots.signalled (slot_of was) (answer_of w) p m) was ≡ turn 0 was m
  signal_still w p r =
      ap (λ (z : slots.After). signal_said z was) (sym (slot_laws.signal_none (slot_of was) (answer_of w) p m l r))
      ∙ ap (λ (v : List ℕ). turn 0 v m) (slot_stays a b c d e f g h i k)

  -- a reset with another serial number (R-11)
  pub reset_still : (n : ℕ) → (n ≡ word k → ⊥) → reset_said (slots.was_reset (slot_of was) n m) was ≡ call 0 (ten a 0 c d e f g h i n)
  reset_still n r =
      ap (λ (z : Outcome Slot). reset_said z was) (sym (slot_laws.reset_is (slot_of was) m l n r))
      ∙ ap (call 0) (freed_stays a b c d e f g h i k n r)

-- Each export's promise determines the number that it returns and all that it leaves.
pub call_one : (w : Call) (r q : ℕ) (o p : List ℕ) → call r o ≡ w → call q p ≡ w → (r ≡ q) × (o ≡ p)
call_one w r q o p e f = let g : call r o ≡ call q p = e ∙ sym f in (ap (λ (x : Call). x.number) g, ap (λ (x : Call). x.out) g)

pub listing_one : (s m o : List ℕ) (r q : ℕ) (a b u v : List ℕ) → Listing s m o r a u → Listing s m o q b v → (r ≡ q) × ((a ≡ b) × (u ≡ v))
listing_one s m o r q a b u v x y =
    let e = one_reading s m x.listed y.listed a b x.reads y.reads in
    let f = call_one (said count_values (listing x.listed) o) r q u v x.says (y.says ∙ ap (λ (z : Result ℕ ListError). said count_values (listing z) o) (sym e.0)) in
    (f.0, (e.1, f.1))

pub turn_one : (w : Turn) (r q : ℕ) (v u m n : List ℕ) → turn r v m ≡ w → turn q u n ≡ w → (r ≡ q) × ((v ≡ u) × (m ≡ n))
turn_one w r q v u m n e f =
    let g : turn r v m ≡ turn q u n = e ∙ sym f in
    (ap (λ (x : Turn). x.number) g, (ap (λ (x : Turn). x.state) g, ap (λ (x : Turn). x.memory) g))

pub took_one : (w : Take) (r q : ℕ) (v u o p : List ℕ) → took r v o ≡ w → took q u p ≡ w → (r ≡ q) × ((v ≡ u) × (o ≡ p))
took_one w r q v u o p e f =
    let g : took r v o ≡ took q u p = e ∙ sym f in
    (ap (λ (x : Take). x.number) g, (ap (λ (x : Take). x.state) g, ap (λ (x : Take). x.out) g))

pub whole_one : (w : Whole) (r q : ℕ) (v u o p b c m l n k : List ℕ) → whole r v o b m n ≡ w → whole q u p c l k ≡ w → (r ≡ q) × ((v ≡ u) × ((o ≡ p) × ((b ≡ c) × ((m ≡ l) × (n ≡ k)))))
whole_one w r q v u o p b c m l n k e f =
    let g : whole r v o b m n ≡ whole q u p c l k = e ∙ sym f in (
      ap (λ (x : Whole). x.number) g,
      (
        ap (λ (x : Whole). x.state) g,
        (ap (λ (x : Whole). x.out) g, (ap (λ (x : Whole). x.buf) g, (ap (λ (x : Whole). x.slot_memory) g, ap (λ (x : Whole). x.queue_memory) g))),
      ),
    )

pub feeding_one : (w : Feeding) (r q : ℕ) (v u o p b c m l n k f g : List ℕ) → feeding (whole r v o b m n) f ≡ w → feeding (whole q u p c l k) g ≡ w → (r ≡ q) × ((f ≡ g) × ((v ≡ u) × ((o ≡ p) × ((b ≡ c) × ((m ≡ l) × (n ≡ k))))))
feeding_one w r q v u o p b c m l n k f g e h =
    let a = whole_one w.call r q v u o p b c m l n k (ap (λ (x : Feeding). x.call) e) (ap (λ (x : Feeding). x.call) h) in
    (a.0, (ap (λ (x : Feeding). x.findings) (e ∙ sym h), a.1))

pub spoken_one : (w : Spoken) (r q : ℕ) (o p m n : List ℕ) → spoken (call r o) m ≡ w → spoken (call q p) n ≡ w → (r ≡ q) × ((o ≡ p) × (m ≡ n))
spoken_one w r q o p m n e f =
    let a = call_one w.call r q o p (ap (λ (x : Spoken). x.call) e) (ap (λ (x : Spoken). x.call) f) in
    (a.0, (a.1, ap (λ (x : Spoken). x.output) (e ∙ sym f)))
