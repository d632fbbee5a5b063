-- The ways out of the slot's calls, each with the tests that led there, what they keep, and that their promises determine them.
use Rattle.std.proofs.Math.Path.{◌≡◌, refl, sym, ap}
use Rattle.std.proofs.Common.{Result, Ok, Err, ◌∙◌, arith}
use Rattle.std.specs.Prelude.{Bool, true, false, not, List, [], ℕ, ◌≤◌, ◌<◌, length, ltb, eqb}
use borrow.Author.Tests.{le-ltb, ltb-true, ltb-false, ne_eqb}
use Rattle.text.specs.Logic.{false_true}
use Rattle.moves.specs.Moves.{put}
use Rattle.moves.specs.Laws.{put_length}
use Rattle.outcome.specs.Outcome.{Outcome, answered, refused}
use Rattle.outcome.specs.Laws.{ways}
use Rattle.answers.specs.Answer.{is_numeric}
use Rattle.answers.specs.declared.Kind.{Kind}
use Rattle.answers.specs.declared.Answer.{Answer}
use Rattle.slot.specs.declared.Slot.{Slot}
use Rattle.slot.specs.declared.SlotError.{SlotError}
use Rattle.slot.specs.declared.SlotError.TheVariants as turns
use Rattle.slot.specs.declared.ResetError.{ResetError}
use Rattle.slot.specs.declared.ResetError.TheVariants as resets
use Rattle.slot.specs.declared.Looked.{Looked}
use Rattle.slot.specs.declared.Looked.TheVariants as looks
use Rattle.slot.specs.Slot.{is_response, carries, new_slot, lost_one, filled, overflowing, freed, with_lost, After, after, signalled, outcome, was_reset, resetting, Reading, reading, was_read, Stands}

-- two answers with the same outcome are equal
pub outcome_one : (r q : Result Slot SlotError) → outcome r ≡ outcome q → r ≡ q
outcome_one (Ok x) (Ok y) e = cc
outcome_one (Ok x) (Err turns.BadLength) e = cc
outcome_one (Err turns.BadLength) (Ok y) e = cc
outcome_one (Err turns.BadLength) (Err turns.BadLength) e = refl

pub resetting_one : (r q : Result Slot ResetError) → resetting r ≡ resetting q → r ≡ q
resetting_one (Ok x) (Ok y) e = cc
resetting_one (Ok x) (Err resets.BadLength) e = cc
resetting_one (Ok x) (Err resets.Repeated) e = cc
resetting_one (Err resets.BadLength) (Ok y) e = cc
resetting_one (Err resets.BadLength) (Err resets.BadLength) e = refl
resetting_one (Err resets.BadLength) (Err resets.Repeated) e = cc
resetting_one (Err resets.Repeated) (Ok y) e = cc
resetting_one (Err resets.Repeated) (Err resets.BadLength) e = cc
resetting_one (Err resets.Repeated) (Err resets.Repeated) e = refl

-- and so are two answers of a signal with the memories that they left
pub after_one : (w : After) (r q : Result Slot SlotError) (m n : List ℕ) → after (outcome r) m ≡ w → after (outcome q) n ≡ w → (r ≡ q) × (m ≡ n)
after_one w r q m n e f =
    let g : after (outcome r) m ≡ after (outcome q) n = e ∙ sym f in
    (outcome_one r q (ap (λ (x : After). x.said) g), ap (λ (x : After). x.memory) g)

abbrev there_of : Outcome Reading → Bool
there_of (answered r) = r.there
there_of (refused n v) = false

abbrev slot_of : Outcome Reading → Slot
slot_of (answered r) = r.slot
slot_of (refused n v) = new_slot

pub reading_one : (r q : Result Looked SlotError) → reading r ≡ reading q → r ≡ q
reading_one (Ok (looks.Signalled x)) (Ok (looks.Signalled y)) e = ap (λ (o : Outcome Reading). Ok (looks.Signalled (slot_of o))) e
reading_one (Ok (looks.Signalled x)) (Ok (looks.Nothing y)) e = absurd (false_true refl (ap there_of e))
reading_one (Ok (looks.Signalled x)) (Err turns.BadLength) e = cc
reading_one (Ok (looks.Nothing x)) (Ok (looks.Signalled y)) e = absurd (false_true refl (sym (ap there_of e)))
reading_one (Ok (looks.Nothing x)) (Ok (looks.Nothing y)) e = ap (λ (o : Outcome Reading). Ok (looks.Nothing (slot_of o))) e
reading_one (Ok (looks.Nothing x)) (Err turns.BadLength) e = cc
reading_one (Err turns.BadLength) (Ok (looks.Signalled y)) e = cc
reading_one (Err turns.BadLength) (Ok (looks.Nothing y)) e = cc
reading_one (Err turns.BadLength) (Err turns.BadLength) e = refl

overflow_leaves : (x : Slot) (k : Kind) (n : ℕ) → ((overflowing x k n).len ≡ 0) × ((overflowing x k n).serial ≡ x.serial)
overflow_leaves x k n = ways (λ (z : Slot). (z.len ≡ 0) × (z.serial ≡ x.serial)) (is_numeric k) (λ e. (refl, refl)) (λ e. (refl, refl))

-- What a call leaves of a slot x with the memory m, where it is no answered reset (R-11): the number in force, and an answer that is stored.
pub record Leaves (x : Slot) (m : List ℕ) (y : Slot) (k : List ℕ) : Type 0 where
  pub serial : y.serial ≡ x.serial
  pub stands : x.signalled ≡ true → Stands x m y k

pub leaves_same : (x : Slot) (m : List ℕ) → Leaves x m x m
leaves_same x m = record { serial = refl; stands = λ t. (refl, refl) }

pub leaves_more : (x y z : Slot) (m k l : List ℕ) → Leaves x m y k → Leaves y k z l → Leaves x m z l
leaves_more x y z m k l f g =
    record {
      serial = g.serial ∙ f.serial;
      stands = λ t.
          let e = f.stands t in
          let h = g.stands (ap (λ (s : Slot). s.signalled) e.0 ∙ t) in
          (h.0 ∙ ap (λ (s : Slot). with_lost s z.lost) e.0, h.1 ∙ e.1);
    }

leaves_free : (x y : Slot) (m k : List ℕ) → x.signalled ≡ false → y.serial ≡ x.serial → Leaves x m y k
leaves_free x y m k f e = record { serial = e; stands = λ t. absurd (false_true t f) }

module _ (x : Slot) (a : Answer) (p m : List ℕ) where
  pub signal_none : x.len ≤ length m → is_response a.kind ≡ false → after (answered x) m ≡ signalled x a p m
  unfolding signalled
  signal_none h e = rw (le-ltb (length m) x.len h, e)

  -- what holds of a refusal that leaves a memory too short as it was, and of every answer that fits a memory as long as it was, holds of a signal
  signal_ways : (P : After → Type 0) → (length m < x.len → P (after (refused 3 []) m)) → ((y : Slot) (k : List ℕ) → length k ≡ length m → y.len ≤ length k → Leaves x m y k → P (after (answered y) k)) → P (signalled x a p m)
  unfolding signalled
  signal_ways P s f =
      ways P (ltb (length m) x.len) (λ h. s (ltb-true (length m) x.len h))
      (λ h.
      let n = ltb-false (length m) x.len h in
      ways P (not (is_response a.kind)) (λ r. f x m refl n (leaves_same x m))
      (λ r.
      ways P x.signalled (λ t. f (lost_one x) m refl n (record { serial = refl; stands = λ u. (refl, refl) }))
      (λ t.
      ways P (not (carries a.kind)) (λ c. f (filled x a.kind a.number 0) m refl (omega arith) (leaves_free x _ m m t refl))
      (λ c.
      ways P (ltb (length m) (length p)) (λ o. let v = overflow_leaves x a.kind a.number in f (overflowing x a.kind a.number) m refl (omega (arith, v.0)) (leaves_free x _ m m t v.1))
      (λ o. f (filled x a.kind a.number (length p)) (put m 0 p) (put_length m 0 p) (omega (arith, ltb-false (length m) (length p) o, put_length m 0 p)) (leaves_free x _ m _ t refl))))))

  -- an answered signal keeps the memory's length, and what it leaves fits there
  pub signal_kept : (y : Slot) (k : List ℕ) → after (answered y) k ≡ signalled x a p m → (length k ≡ length m) × (y.len ≤ length k)
  signal_kept y k =
      signal_ways (λ w. after (answered y) k ≡ w → (length k ≡ length m) × (y.len ≤ length k))
      (λ h e. let o = ap (λ (w : After). w.said) e in let z : ◌≡◌ {A = ℕ} 0 1 = cc in absurd (omega arith))
      (λ z l g h j e. let o = ap (λ (w : After). w.said) e in let v : y.len ≡ z.len = cc in let q : length k ≡ length l = ap (λ (w : After). length w.memory) e in (q ∙ g, omega arith))

  -- and leaves the serial number, and what is stored
  pub signal_leaves : (y : Slot) (k : List ℕ) → after (answered y) k ≡ signalled x a p m → Leaves x m y k
  signal_leaves y k =
      signal_ways (λ w. after (answered y) k ≡ w → Leaves x m y k)
      (λ h e. let o = ap (λ (w : After). w.said) e in let z : ◌≡◌ {A = ℕ} 0 1 = cc in absurd (omega arith))
      (λ z l g h j e. let o = ap (λ (w : After). w.said) e in let v : y ≡ z = cc in let q : k ≡ l = ap (λ (w : After). w.memory) e in rw (v, q) j)

  -- a refused signal leaves every byte, and the memory was too short
  pub signal_stuck : (n : ℕ) (v k : List ℕ) → after (refused n v) k ≡ signalled x a p m → (k ≡ m) × (length m < x.len)
  signal_stuck n v k =
      signal_ways (λ w. after (refused n v) k ≡ w → (k ≡ m) × (length m < x.len))
      (λ h e. (ap (λ (w : After). w.memory) e, h))
      (λ y l g h j e. let o = ap (λ (w : After). w.said) e in let z : ◌≡◌ {A = ℕ} 0 1 = cc in absurd (omega arith))

module _ (x : Slot) (m : List ℕ) where
  pub reset_is : x.len ≤ length m → (n : ℕ) → (n ≡ x.serial → ⊥) → answered (freed x n) ≡ was_reset x n m
  unfolding was_reset
  reset_is h n e = rw (le-ltb (length m) x.len h, ne_eqb n x.serial e)

  -- an answered reset has freed the slot under its number
  pub reset_frees : (n : ℕ) (y : Slot) → answered y ≡ was_reset x n m → y ≡ freed x n
  unfolding was_reset
  reset_frees n y =
      ways (λ o. answered y ≡ o → y ≡ freed x n) (ltb (length m) x.len) (λ h e. let z : ◌≡◌ {A = ℕ} 0 1 = cc in absurd (omega arith))
      (λ h. ways (λ o. answered y ≡ o → y ≡ freed x n) (eqb n x.serial) (λ r e. let z : ◌≡◌ {A = ℕ} 0 1 = cc in absurd (omega arith)) (λ r e. cc))

  -- a look tells the slot as it stands
  pub read_tells : (r : Reading) → answered r ≡ was_read x m → r.slot ≡ x
  unfolding was_read
  read_tells r = ways (λ o. answered r ≡ o → r.slot ≡ x) (ltb (length m) x.len) (λ h e. let z : ◌≡◌ {A = ℕ} 0 1 = cc in absurd (omega arith)) (λ h e. cc)
