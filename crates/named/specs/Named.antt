-- One law after the other, by the crate whose definitions it is about.
use Rattle.std.specs.Prelude.{Option, Some, None, Result, ◌≡◌, Bool, true, false, ◌||◌, List, [], ◌∷◌, ℕ, ◌+◌, ◌-◌, ◌*◌, ◌≤◌, ◌<◌, length, get_or, eqb, leb}
use Rattle.std.specs.declared.ops.ControlFlow.TheVariants.{Break, Continue}
use Rattle.std.proofs.Math.Path.{refl, sym, ap}
use Rattle.std.proofs.Common.{◌∙◌, ⊎_elim, arith}
use borrow.Author.Tests.{lt-leb, lt-ltb, le-ltb, eqb-false}
use Rattle.outcome.specs.Outcome.{Outcome, answered, refused}
use Rattle.text.specs.Bytes.{bytes}
use Rattle.text.specs.Logic.{and_both, order}
use Rattle.text.specs.Text.{find_in}
use Rattle.seek.specs.Seek.{NoneBelow, ColumnAbove}
use Rattle.seek.specs.Laws.{or-false, byte_not}
use Rattle.table.specs.Table.{entries, entry_of, token_of, next_of}
use Rattle.table.specs.Laws.{next_first}
use Rattle.table.specs.declared.Mark.{Mark}
use Rattle.table.specs.declared.Record.{Record}
use Rattle.parser.specs.Parser.{is_digit}
use Rattle.pieces.specs.Pieces.{is_hex}
use Rattle.places.specs.declared.Places.{Places}
use Rattle.lines.specs.Lines.{connect_place}
use Rattle.lines.specs.declared.Digester.{Digester}
use Rattle.places.specs.Places.{line_in, FirstLines}
use Rattle.places.specs.Laws.{connect_first}
use Rattle.places.specs.declared.Lines.{Lines}
use Rattle.items.specs.Rules.{first_connect}
use Rattle.items.specs.Connect.{Least, least_connect, begun_fits}
use Rattle.answers.specs.declared.Answer.{Answer}
use Rattle.answers.specs.Answer.{is_notice}
use Rattle.items.specs.Hints.{first_place, found_hint, first_from, prompt_bytes, numerics, hinted, onward, firsts, all_idle}
use Rattle.items.specs.declared.First.{First}
use Rattle.items.specs.declared.First.TheVariants as first
use Rattle.items.specs.declared.Hints.{Hints}
use Rattle.numeric.specs.Heard.{HeardIn}
use Rattle.numeric.specs.Numeric.{digest}
use Rattle.numeric.specs.Calls.{digest_hears}
use Rattle.level.specs.Level.{unless}
use Rattle.slot.specs.Slot.{signalled}
use Rattle.slot.specs.Slot as slots
use Rattle.slot.specs.declared.Slot.{Slot}
use Rattle.slot.specs.declared.SlotError.{SlotError}
use Rattle.queue.specs.Queue.{ours, older, capacity_of, start_in, in_bounds, record_good, after, held_from, waiting}
use Rattle.queue.specs.Laws.{bounds_count}
use Rattle.queue.specs.declared.Queue.{Queue}
use Rattle.convert.specs.Convert.{held_good, laid, converted}
use Rattle.convert.specs.Laws.{Copied, good_here}
use Rattle.turn.specs.declared.State.{State}
use Rattle.turn.specs.Turn.{to_slot, deliver}

-- seek: one byte more, where l is neither above it nor above what bounds those before it; and one row more
pub one_more_lem : (s : List ℕ) (a n m l : ℕ) → NoneBelow s a n m → l ≤ m → l ≤ get_or s (a + n) 0 → NoneBelow s a (n + 1) l
one_more_lem s a n m l q h g = λ j w. ⊎_elim (λ (p : j < n). omega (arith, q j p)) (λ (p : n ≤ j). let e : j ≡ n = omega arith in rw e g) (order j n)

pub column_on : (s : List ℕ) (a n m l : ℕ) → ColumnAbove s a n m → l ≤ m → l ≤ get_or s (a + n * 16) 0 → ColumnAbove s a (n + 1) l
column_on s a n m l q h g = λ j w. ⊎_elim (λ (p : j < n). omega (arith, q j p)) (λ (p : n ≤ j). let e : j ≡ n = omega arith in rw e g) (order j n)

-- pieces: a digit is hexadecimal
pub hex_digit_lem : (b : ℕ) → is_digit b ≡ true → true ≡ is_hex b
unfolding is_hex
hex_digit_lem b e = rw e

-- items: a byte that is neither `>` nor `@` is passed over by both searches
pub no_prompt_on : (s : List ℕ) (i : ℕ) → i < length s → eqb (get_or s i 0) 62 || eqb (get_or s i 0) 64 ≡ false → (find_in (bytes ">") s i ≡ find_in (bytes ">") s (i + 1)) × (find_in (bytes "@") s i ≡ find_in (bytes "@") s (i + 1))
no_prompt_on s i h q =
    let w = or-false (eqb (get_or s i 0) 62) (eqb (get_or s i 0) 64) q in
    (byte_not 62 s i h (eqb-false (get_or s i 0) 62 w.0), byte_not 64 s i h (eqb-false (get_or s i 0) 64 w.1))

-- items: a hint that covers e stays as it is; so where all five do
covered : (x : First) (s : List ℕ) (e : ℕ) (p : Places) (d n : ℕ) → n ≡ length s - e → leb d n ≡ true → first_from x s e p d ≡ Continue d
unfolding first_from
covered x s e p d n l w = let g : leb d (length s - e) ≡ true = ap (leb d) (sym l) ∙ w in rw g

pub all_idle_lem : (s : List ℕ) (e : ℕ) (p : Places) (h : Hints) (n : ℕ) → n ≡ length s - e → (b : Bool) → b ≡ all_idle h n → b ≡ true → Continue (e, h) ≡ firsts s e p h
unfolding firsts prompt_bytes numerics onward hinted
all_idle_lem s e p h n l b q z =
    let i = and_both (leb h.greater n) _ (sym q ∙ z) in
    let j = and_both (leb h.sign n) _ i.1 in
    let k = and_both (leb h.cme n) _ j.1 in
    let o = and_both (leb h.cms n) (leb h.modem n) k.1 in
    let on : (x : First) (d : ℕ) → leb d n ≡ true → first_from x s e p d ≡ Continue d = λ x d w. covered x s e p d n l w in
    rw (on first.Greater h.greater i.0, on first.Sign h.sign j.0, on first.Cme h.cme k.0, on first.Cms h.cms o.0, on first.Modem h.modem o.1)

-- items: what a rule gives from e on, by its first place, where its hint doesn't cover e
pub at_found_lem : (x : First) (s : List ℕ) (e : ℕ) (p : Places) (d n : ℕ) → n ≡ length s - e → n < d → (r : Option ℕ) → r ≡ first_place x s e p → found_hint x s r ≡ first_from x s e p d
unfolding first_from
at_found_lem x s e p d n z h r q = ap (found_hint x s) q ∙ rw (lt-leb d (length s - e) (omega arith))

-- items: the records with a mark, from one that is found on
module _ (m : Mark) (t : List ℕ) (at n : ℕ) (q : Option (Record × ℕ)) (p : q ≡ next_of m t at n) (r : Record) (k : ℕ) (e : q ≡ Some (r, k)) where
  pub first_and_rest : entries m t at n ≡ entry_of (token_of t r) k ∷ entries m t (r.place + r.len) (k + 1)
  first_and_rest = (next_first m t at n q p r k e).is

-- level: what `unless` handed on of a rule
pub stopped : (t : Option Answer) (a : Answer) → Break a ≡ unless t → t ≡ Some a
stopped (Some b) a h = cc
stopped None a h = cc

pub went_on : (t : Option Answer) → Continue tt ≡ unless t → t ≡ None
went_on (Some b) h = cc
went_on None h = refl

-- level: CONNECT's first place is at or after e, and its head fits
module _ (s : List ℕ) (e : ℕ) (d : Digester) (x : Lines) (w : FirstLines s e x) (r : Option ℕ) (q : r ≡ connect_place d (line_in s e x)) where
  first_is : r ≡ first_connect d s e
  unfolding first_connect
  first_is = q ∙ connect_first d s e x w

  module _ (k : ℕ) (z : r ≡ Some k) where
    least : Least d s e k
    least = rw (sym first_is ∙ z) at (least_connect d s e)

    pub connect_inside : (e ≤ k) × (k + 10 ≤ length s)
    connect_inside = (least.after, begun_fits d s k least.here)

-- numeric: demand 3's first half holds of whatever equals the digest
pub hears : (t s : List ℕ) (r : Outcome Answer) → r ≡ digest t s → (r ≡ digest t s) × HeardIn s r
hears t s r e = (e, rw e (digest_hears t s))

-- turn: where an answer that is no notice goes
module _ (s : State) (a : Answer) (p m n : List ℕ) (h : is_notice a.kind ≡ false) (r : Result Slot SlotError) (k : List ℕ) (e : slots.after (slots.outcome r) k ≡ signalled s.slot a p m) where
  pub to_slot_lem : (x : Result Slot SlotError) → r ≡ x → to_slot s n (slots.after (slots.outcome x) k) ≡ deliver s a p m n
  unfolding deliver
  to_slot_lem x q = ap (λ (y : Result Slot SlotError). to_slot s n (slots.after (slots.outcome y) k)) (sym q) ∙ ap (to_slot s n) e ∙ rw h

-- convert: a record that is still to be copied is good
pub copied_good : (m : List ℕ) (x : Queue) (cap : ℕ) → cap ≡ capacity_of older (length m) → in_bounds cap x ≡ true → (base seen : ℕ) → seen < x.count → (k now : List ℕ) (to : ℕ) → Copied m k x.start x.count cap base seen to now → record_good older m base ≡ true
copied_good m x cap c b base seen some k now to s =
    (and_both (record_good older m base) (held_good older m cap x.start (seen + 1) (x.count - (seen + 1))) (sym (good_here m x cap c b base seen s.here some) ∙ s.good)).0

-- convert: its ways out
module _ (x : Queue) (m k : List ℕ) (cap : ℕ) (c : cap ≡ capacity_of older (length m)) where
  pub convert_outside : in_bounds cap x ≡ false → after (refused 3 []) k ≡ converted older ours x m k
  unfolding converted
  convert_outside h = rw (rw c at h)

  module _ (b : in_bounds cap x ≡ true) where
    pub convert_bounds : (start_in cap x.start ≡ true) × (x.count ≤ cap)
    unfolding in_bounds
    convert_bounds = ((and_both (start_in cap x.start) (leb x.count cap) b).0, bounds_count cap x b)

    pub convert_bad : held_good older m cap x.start 0 x.count ≡ false → after (refused 3 []) k ≡ converted older ours x m k
    unfolding converted
    convert_bad g = rw (rw c at b, rw c at g)

    module _ (g : held_good older m cap x.start 0 x.count ≡ true) where
      pub convert_few : (n : ℕ) → n ≡ capacity_of ours (length k) → n < x.count → after (refused 13 []) k ≡ converted older ours x m k
      unfolding converted
      convert_few n e h = rw (rw c at b, rw c at g, lt-ltb (capacity_of ours (length k)) x.count (rw e at h))

      pub convert_is : (n : ℕ) → n ≡ capacity_of ours (length k) → x.count ≤ n → (d : List ℕ) → d ≡ laid ours 0 (held_from older m cap x.start 0 x.count) k → after (answered (record { start = 0; count = x.count; lost = x.lost })) d ≡ converted older ours x m k
      unfolding converted waiting
      convert_is n e h d w =
          ap (after (answered (record { start = 0; count = x.count; lost = x.lost }))) (w ∙ ap (λ (j : ℕ). laid ours 0 (held_from older m j x.start 0 x.count) k) c)
          ∙ rw (rw c at b, rw c at g, le-ltb (capacity_of ours (length k)) x.count (rw e at h))
