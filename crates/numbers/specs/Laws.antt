-- What numbers read as where a test decides; that a state that is written reads back as it was; and that what isn't changed stays as it stood.
use Rattle.std.specs.Prelude.{◌≡◌, refl, Bool, true, false, ◌&&◌, List, [], ◌∷◌, length, get_or, drop, eqb, ltb, if◌then◌else◌}
use Rattle.std.proofs.Math.Path.{sym}
use Rattle.std.proofs.Common.{ap, ◌∙◌, ⊎_elim, arith}
use Prim.Native.Nat.{ℕ, zero, suc, ◌+◌, ◌≤◌, ◌<◌, min}
use Rattle.std.proofs.Math.ListN.{drop_of_length-le}
use Rattle.std.proofs.lemmas.List.{append-nil}
use Rattle.std.proofs.lemmas.List.Edits.{sets-eq}
use borrow.Author.Tests.{lt-ltb, le-ltb, ltb-true, ltb-false, eq-eqb, eqb-true}
use Rattle.outcome.specs.Laws.{ways}
use Rattle.text.specs.Logic.{and_both, order}
use Rattle.answers.specs.declared.Kind.{Kind}
use Rattle.answers.specs.declared.Kind.TheVariants as kind
use Rattle.slot.specs.Slot.{freed}
use Rattle.slot.specs.declared.Held.{Held}
use Rattle.slot.specs.declared.Held.TheVariants.{Heard, Capacity}
use Rattle.turn.specs.declared.State.{State}
use Rattle.answers.specs.Answer.{kind_number, kinds}
use Rattle.numbers.specs.Numbers.{kind_of, word, held_number, held_of, slot_of, state_of, kept, with_slot, with_state, laid}

-- what a slot holds
pub held_capacity : (n : ℕ) → 13 < n → Capacity ≡ held_of n
held_capacity n h = ap (λ (b : Bool). if b then Capacity else Heard (kind_of n)) (sym (lt-ltb 13 n h))

-- as many values as the array has numbers are all of it
pub laid_whole : (v o : List ℕ) → length o ≡ length v → v ≡ laid v o
laid_whole v o h =
    let d : drop (0 + length v) o ≡ [] = drop_of_length-le o (omega arith) in
    sym (sets-eq v o 0 (omega arith) ∙ rw d (append-nil v))

-- the ways out of `kept`, and what is read where it stands
module _ (most old new : ℕ) where
  pub kept_new : (min old most ≡ new → old ≡ new) → new ≡ kept most old new
  unfolding kept
  kept_new h = ways (λ n. new ≡ n) (eqb (min old most) new) (λ e. sym (h (eqb-true (min old most) new e))) (λ e. refl)

  pub kept_old : min old most ≡ new → old ≡ kept most old new
  unfolding kept
  kept_old e = rw (eq-eqb (min old most) new e)

  kept_reads : min (kept most old new) most ≡ min new most
  unfolding kept
  kept_reads = ways (λ n. min n most ≡ min new most) (eqb (min old most) new) (λ e. omega (arith, eqb-true (min old most) new e)) (λ e. refl)

-- a number over 14 reads as 14
held_most : (n : ℕ) → held_of (min n 14) ≡ held_of n
held_most n =
    ⊎_elim
    (λ (h : 13 < n). sym (held_capacity (min n 14) (omega arith)) ∙ held_capacity n h)
    (λ (h : n ≤ 13). let e : min n 14 ≡ n = omega arith in ap held_of e)
    (order 13 n)

-- A state written over any ten numbers is read back as it was. Its numbers of 32 bits are at most 4,294,967,295.
flag_round : (n : ℕ) (b : Bool) → ltb 0 (kept 1 n (if b then 1 else 0)) ≡ b
flag_round n true = lt-ltb 0 (kept 1 n 1) (omega (arith, kept_reads 1 n 1))
flag_round n false = le-ltb 0 (kept 1 n 0) (omega (arith, kept_reads 1 n 0))

plain_round : (h : Held) → held_of (held_number h) ≡ h
plain_round (Heard kind.None) = refl
plain_round (Heard kind.Ok) = refl
plain_round (Heard kind.Prompt) = refl
plain_round (Heard kind.Cme) = refl
plain_round (Heard kind.Cms) = refl
plain_round (Heard kind.Unknown) = refl
plain_round (Heard kind.NotAllowed) = refl
plain_round (Heard kind.Error) = refl
plain_round (Heard kind.NoCarrier) = refl
plain_round (Heard kind.Busy) = refl
plain_round (Heard kind.NoAnswer) = refl
plain_round (Heard kind.NoDialtone) = refl
plain_round (Heard kind.Custom) = refl
plain_round (Heard kind.Notice) = refl
plain_round Capacity = refl

held_round : (n : ℕ) (h : Held) → held_of (kept 14 n (held_number h)) ≡ h
held_round n h = sym (held_most (kept 14 n (held_number h))) ∙ ap held_of (kept_reads 14 n (held_number h)) ∙ held_most (held_number h) ∙ plain_round h

word_round : (n x : ℕ) → x ≤ 4294967295 → word (kept 4294967295 n x) ≡ x
word_round n x h = omega (arith, kept_reads 4294967295 n x)

-- any ten numbers
abbrev pub ten : (a b c d e f g h i k : ℕ) → List ℕ
ten a b c d e f g h i k = a ∷ b ∷ c ∷ d ∷ e ∷ f ∷ g ∷ h ∷ i ∷ k ∷ []

pub state_round : (a b c d e f g h i k : ℕ) (s : State) → s.slot.number ≤ 4294967295 → s.slot.lost ≤ 4294967295 → s.slot.serial ≤ 4294967295 → s.queue.lost ≤ 4294967295 → state_of (with_state (ten a b c d e f g h i k) s) ≡ s
state_round a b c d e f g h i k s l m n o =
    let x = s.slot in
    λ j. record {
      end = s.end;
      slot = record { signalled = flag_round b x.signalled j; held = held_round c x.held j; number = word_round d x.number l j; len = x.len; lost = word_round f x.lost m j; serial = word_round k x.serial n j };
      queue = record { start = s.queue.start; count = s.queue.count; lost = word_round i s.queue.lost o j };
    }

-- A state that is read and written again leaves every number as it stood, in plain form or not.
flag_stays : (n : ℕ) → kept 1 n (if ltb 0 n then 1 else 0) ≡ n
flag_stays n = sym (kept_old 1 n (if ltb 0 n then 1 else 0) (ways (λ k. min n 1 ≡ k) (ltb 0 n) (λ e. omega (arith, ltb-true 0 n e)) (λ e. omega (arith, ltb-false 0 n e))))

-- the kinds stand in the order of their numbers, from i on
abbrev in_order : ℕ → List Kind → Bool
in_order i [] = true
in_order i (k ∷ ks) = eqb (kind_number k) i && in_order (suc i) ks

in_order_lem : (ks : List Kind) (i n : ℕ) → in_order i ks ≡ true → n < length ks → kind_number (get_or ks n kind.None) ≡ i + n
in_order_lem [] i n o h = absurd (omega arith)
in_order_lem (k ∷ ks) i zero o h = omega (arith, eqb-true (kind_number k) i (and_both (eqb (kind_number k) i) (in_order (suc i) ks) o).0)
in_order_lem (k ∷ ks) i (suc n) o h = omega (arith, in_order_lem ks (suc i) n (and_both (eqb (kind_number k) i) (in_order (suc i) ks) o).1 (omega arith))

held_stays : (n : ℕ) → kept 14 n (held_number (held_of n)) ≡ n
held_stays n =
    sym
    (kept_old 14 n (held_number (held_of n))
    (ways (λ h. min n 14 ≡ held_number h) (ltb 13 n) (λ e. omega (arith, ltb-true 13 n e)) (λ e. omega (arith, ltb-false 13 n e, in_order_lem kinds 0 n refl (omega (arith, ltb-false 13 n e))))))

word_stays : (n : ℕ) → kept 4294967295 n (word n) ≡ n
word_stays n = sym (kept_old 4294967295 n (word n) refl)

module _ (a b c d e f g h i k : ℕ) where
  pub slot_stays : with_slot (ten a b c d e f g h i k) (slot_of (ten a b c d e f g h i k)) ≡ ten a b c d e f g h i k
  slot_stays = λ j. ten a (flag_stays b j) (held_stays c j) (word_stays d j) e (word_stays f j) g h i (word_stays k j)

  pub state_stays : with_state (ten a b c d e f g h i k) (state_of (ten a b c d e f g h i k)) ≡ ten a b c d e f g h i k
  state_stays = λ j. ten a (flag_stays b j) (held_stays c j) (word_stays d j) e (word_stays f j) g h (word_stays i j) (word_stays k j)

  -- and one that was freed under another serial number changes that number and the one of signalled alone
  pub freed_stays : (n : ℕ) → (n ≡ word k → ⊥) → with_slot (ten a b c d e f g h i k) (freed (slot_of (ten a b c d e f g h i k)) n) ≡ ten a 0 c d e f g h i n
  freed_stays n r = λ j. ten a (sym (kept_new 1 b 0 (λ q. omega arith)) j) (held_stays c j) (word_stays d j) e (word_stays f j) g h i (sym (kept_new 4294967295 k n (λ q. absurd (r (sym q)))) j)
