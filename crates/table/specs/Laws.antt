-- Laws of the token table: a text by its two ends, the loops over the records, the records with a mark, and what a good table's tokens are.
use Rattle.std.proofs.Math.Path.{◌≡◌, refl, sym, ap}
use Rattle.std.proofs.Common.{Option, Some, None, Result, Ok, Err, ◌∙◌, add-one, not-suc-le-zero, le_of_suc-le-suc, length-drop, take-append-drop, take-suc, take-add, take_all, get_or-drop, length-take-le}
use Rattle.std.specs.Prelude.{Bool, not, ◌&&◌, length, take, drop, eqb, leb, ltb, if◌then◌else◌}
use Rattle.std.proofs.Math.Bool.{true, false, and-true, and_assoc, and_self_left}
use mathlib.Core.List.{List, [], ◌∷◌, ◌++◌}
use Prim.Native.Nat.{ℕ, zero, suc, ◌+◌, ◌-◌, ◌*◌, ◌≤◌, ◌<◌}
use native.Mathlib.Omega.{arith}
use Rattle.std.proofs.Math.ListN.{get_or}
use borrow.Author.Tests.{le-leb, lt-leb, ne_eqb, ltb-true, leb-true, eqb-true, eqb-false, not-true}
use Rattle.text.specs.Bytes.{bytes}
use Rattle.text.specs.Logic.{and_both}
use Rattle.text.specs.Text.{among, blanks, is_blank, stands}
use Rattle.text.specs.Laws.{part_is}
use Rattle.text.specs.declared.Blanks.TheVariants.{Run}
use Rattle.outcome.specs.Outcome.{Outcome, answered, refused}
use Rattle.outcome.specs.Laws.{ways}
use Rattle.table.specs.declared.Mark.{Mark}
use Rattle.table.specs.declared.Mark.TheVariants.{Notice, Success, Error, Prompt}
use Rattle.table.specs.declared.Record.{Record}
use Rattle.table.specs.declared.Read.{Read}
use Rattle.table.specs.declared.Read.TheVariants.{Is, Faulty, End}
use Rattle.table.specs.declared.TableError.{TableError}
use Rattle.table.specs.declared.TableError.TheVariants as checks
use Rattle.table.specs.Table.{is_plain, all_plain, is_text, text_at, prompt_at, record_at, text_of, end_of, good_if, good_at, then_rule, ruling_by, ruling, outcome, mark_number, same_mark, then_next, next_by, next_of, then_found, found_by, found, Token, token_of, then_tokens, tokens_by, tokens, Entry, entry_of, of_mark, entries_of, entries}

-- no two answers of the check have the same outcome
pub outcome_one : (r q : Result ℕ TableError) → outcome r ≡ outcome q → r ≡ q
outcome_one (Ok n) (Ok m) e = cc
outcome_one (Ok n) (Err (checks.Faulty m)) e = let z : ◌≡◌ {A = ℕ} 0 1 = cc in absurd (omega arith)
outcome_one (Err (checks.Faulty n)) (Ok m) e = let z : ◌≡◌ {A = ℕ} 0 1 = cc in absurd (omega arith)
outcome_one (Err (checks.Faulty n)) (Err (checks.Faulty m)) e = cc

-- `all_plain` of a part, byte by byte, and of a text by its two ends, which meet or overlap
all_append : (s u : List ℕ) → all_plain (s ++ u) ≡ all_plain s && all_plain u
unfolding all_plain
all_append [] u = refl
all_append (x ∷ s) u = rw (all_append s u, and_assoc (is_plain x) (all_plain s) (all_plain u))

all_split : (k : ℕ) (t : List ℕ) → all_plain t ≡ all_plain (take k t) && all_plain (drop k t)
all_split k t = ap all_plain (sym (take-append-drop k t)) ∙ all_append (take k t) (drop k t)

pub part_more : (t : List ℕ) (at j : ℕ) → at + j < length t → all_plain (take j (drop at t)) && is_plain (get_or t (at + j) 0) ≡ all_plain (take (j + 1) (drop at t))
unfolding all_plain
part_more t at j h =
    let l : j < length (drop at t) = rw length-drop (omega arith) in
    rw (add-one, take-suc (drop at t) j 0 l, all_append, get_or-drop, and-true)

pub ends_all : (t : List ℕ) (w : ℕ) → w ≤ length t → length t ≤ 2 * w → all_plain (take w t) && all_plain (take w (drop (length t - w) t)) ≡ all_plain t
ends_all t w h g =
    let a = length t - w in
    let b = w - a in
    let d = drop a t in
    let e : w ≡ a + b = omega arith in
    let front : take w t ≡ take a t ++ take b d = ap (λ (k : ℕ). take k t) e ∙ take-add a b t in
    let rear : take w d ≡ d = take_all w d (rw length-drop (omega arith)) in
    rw (front, rear, all_append (take a t) (take b d), all_split a t, all_split b d, and_assoc, and_self_left)

-- what a good text is
module _ (t : List ℕ) where
  pub text_says : is_text t ≡ true → ((1 ≤ length t) × (length t ≤ 32)) × (((get_or t 0 0 ≡ 32 → ⊥) × (get_or t (length t - 1) 0 ≡ 32 → ⊥)) × (all_plain t ≡ true))
  unfolding is_text
  text_says e =
      let a = and_both (leb 1 (length t)) _ e in
      let b = and_both (leb (length t) 32) _ a.1 in
      let c = and_both (not (eqb (get_or t 0 0) 32)) _ b.1 in
      let d = and_both (not (eqb (get_or t (length t - 1) 0) 32)) (all_plain t) c.1 in
      ((leb-true 1 (length t) a.0, leb-true (length t) 32 b.0), ((eqb-false (get_or t 0 0) 32 (not-true _ c.0), eqb-false (get_or t (length t - 1) 0) 32 (not-true _ d.0)), d.1))

  pub text_some : is_text t ≡ true → 1 ≤ length t
  text_some e = (text_says e).0.0

-- each byte of a good text is one of 0x20 to 0x7E, and its last is no run blank
plain_each : (t : List ℕ) → all_plain t ≡ true → (j : ℕ) → j < length t → is_plain (get_or t j 0) ≡ true
unfolding all_plain
plain_each [] e j h = absurd (not-suc-le-zero h)
plain_each (x ∷ t) e zero h = (and_both (is_plain x) (all_plain t) e).0
plain_each (x ∷ t) e (suc j) h = plain_each t (and_both (is_plain x) (all_plain t) e).1 j (le_of_suc-le-suc h)

pub text_byte : (t : List ℕ) → is_text t ≡ true → (j : ℕ) → j < length t → (0x20 ≤ get_or t j 0) × (get_or t j 0 ≤ 0x7E)
unfolding is_plain
text_byte t e j h =
    let w = and_both (leb 0x20 (get_or t j 0)) (leb (get_or t j 0) 0x7E) (plain_each t (text_says t e).1.1 j h) in
    (leb-true 0x20 (get_or t j 0) w.0, leb-true (get_or t j 0) 0x7E w.1)

pub text_end : (t : List ℕ) → is_text t ≡ true → is_blank Run (get_or t (length t - 1) 0) ≡ false
unfolding is_blank among blanks
text_end t e =
    let b = get_or t (length t - 1) 0 in
    let l = text_some t e in
    let w = text_byte t e (length t - 1) (omega arith) in
    rw (ne_eqb b 32 (text_says t e).1.0.1, ne_eqb b 9 (λ q. omega arith), ne_eqb b 13 (λ q. omega arith), ne_eqb b 10 (λ q. omega arith))

-- at or past the table's end there is no record
read_end : (t : List ℕ) (at : ℕ) → length t ≤ at → End ≡ record_at t at
unfolding record_at
read_end t at h = rw (le-leb (length t) at h)

-- a record lies in its table
abbrev Inside : List ℕ → Read → Type 0
Inside t (Is r) = r.place + r.len ≤ length t
Inside t Faulty = Unit {0}
Inside t End = Unit {0}

text_inside : (m : Mark) (p : ℕ) (t : List ℕ) (k : ℕ) → Inside t (text_at m p t k)
unfolding text_at
text_inside m p t k = ways (Inside t) (ltb (k + get_or t k 0) (length t)) (λ e. omega (arith, ltb-true (k + get_or t k 0) (length t) e)) (λ e. tt)

prompt_inside : (t : List ℕ) (k : ℕ) → Inside t (prompt_at t k)
unfolding prompt_at
prompt_inside t k = ways (Inside t) (ltb k (length t)) (λ e. text_inside Prompt (get_or t k 0) t (k + 1)) (λ e. tt)

read_inside : (t : List ℕ) (at : ℕ) → Inside t (record_at t at)
unfolding record_at
read_inside t at =
    let k = at + 2 in
    ways (Inside t) (leb (length t) at) (λ e. tt)
    (λ e. ways (Inside t) (stands (bytes "UR") t at) (λ f. text_inside Notice 0 t k)
    (λ f. ways (Inside t) (stands (bytes "CS") t at) (λ g. text_inside Success 0 t k)
    (λ g. ways (Inside t) (stands (bytes "CE") t at) (λ h. text_inside Error 0 t k)
    (λ h. ways (Inside t) (stands (bytes "CP") t at) (λ i. prompt_inside t k) (λ i. tt)))))

good_inside : (t : List ℕ) (r : Read) → Inside t r → Inside t (good_if t r)
unfolding good_if
good_inside t (Is r) h = ways (Inside t) (is_text (text_of t r)) (λ e. h) (λ e. tt)
good_inside t Faulty h = tt
good_inside t End h = tt

pub record_inside : (t : List ℕ) (at : ℕ) (q : Read) (r : Record) → q ≡ record_at t at → q ≡ Is r → r.place + r.len ≤ length t
record_inside t at q r p e = rw (sym p ∙ e) at (read_inside t at)

pub good_record_inside : (t : List ℕ) (at : ℕ) (q : Read) (r : Record) → q ≡ good_at t at → q ≡ Is r → r.place + r.len ≤ length t
unfolding good_at
good_record_inside t at q r p e = rw (sym p ∙ e) at (good_inside t (record_at t at) (read_inside t at))

-- a record's text is as long as the record says
pub text_length : (t : List ℕ) (r : Record) → r.place + r.len ≤ length t → length (text_of t r) ≡ r.len
unfolding text_of
text_length t r h = ap length (sym (part_is t r.place r.len h)) ∙ length-take-le r.len (drop r.place t) (rw length-drop (omega arith))

-- and it is that part of the table
pub text_part : (t : List ℕ) (r : Record) → r.place + r.len ≤ length t → take (r.place + r.len - r.place) (drop r.place t) ≡ text_of t r
unfolding text_of
text_part t r h = let l : r.place + r.len - r.place ≡ r.len = omega arith in ap (λ (n : ℕ). take n (drop r.place t)) l ∙ part_is t r.place r.len h

-- a table is refused with 2 alone
abbrev number_of : Outcome ℕ → ℕ
number_of (answered n) = 2
number_of (refused n v) = n

then_two : (q : Read) (n : ℕ) (f : ℕ → Outcome ℕ) → ((p : ℕ) → number_of (f p) ≡ 2) → number_of (then_rule q n f) ≡ 2
unfolding then_rule
then_two (Is r) n f h = h (end_of r)
then_two Faulty n f h = refl
then_two End n f h = refl

ruling_by_two : (k : ℕ) (t : List ℕ) (at n : ℕ) → number_of (ruling_by k t at n) ≡ 2
unfolding ruling_by
ruling_by_two zero t at n = ways (λ o. number_of o ≡ 2) (leb (length t) at) (λ e. refl) (λ e. refl)
ruling_by_two (suc k) t at n = then_two (good_at t at) n (λ p. ruling_by k t p (n + 1)) (λ p. ruling_by_two k t p (n + 1))

pub ruling_two : (t : List ℕ) (n : ℕ) (v : List ℕ) → ruling t ≡ refused n v → n ≡ 2
unfolding ruling
ruling_two t n v e = sym (ap number_of e) ∙ ruling_by_two 64 t 0 0

-- the empty table is good
pub ruling_empty : (t : List ℕ) → length t ≡ 0 → answered 0 ≡ ruling t
unfolding ruling ruling_by then_rule good_at good_if record_at
ruling_empty t e = rw e

-- the loop of `check`: n records are good, and the ruling is that on the rest
module _ (t : List ℕ) (at n : ℕ) (w : ruling t ≡ ruling_by (64 - n) t at n) where
  module _ (h : n < 64) (q : Read) (p : q ≡ good_at t at) where
    at_read : ruling t ≡ then_rule q n (λ x. ruling_by (64 - (n + 1)) t x (n + 1))
    unfolding ruling_by
    at_read =
        let e : 64 - n ≡ suc (64 - (n + 1)) = omega arith in
        w ∙ ap (λ (k : ℕ). ruling_by k t at n) e ∙ ap (λ (y : Read). then_rule y n (λ x. ruling_by (64 - (n + 1)) t x (n + 1))) (sym p)

    pub check_end : q ≡ End → answered n ≡ ruling t
    unfolding then_rule
    check_end e = sym (rw e at at_read)

    pub check_faulty : q ≡ Faulty → refused 2 (n ∷ []) ≡ ruling t
    unfolding then_rule
    check_faulty e = sym (rw e at at_read)

    pub check_more : (r : Record) → q ≡ Is r → ruling t ≡ ruling_by (64 - (n + 1)) t (r.place + r.len) (n + 1)
    unfolding then_rule end_of
    check_more r e = rw e at at_read

  module _ (h : n ≡ 64) where
    at_last : ruling t ≡ (if leb (length t) at then answered 64 else refused 2 (64 ∷ []))
    unfolding ruling_by
    at_last = w ∙ ap (λ (k : ℕ). ruling_by (64 - k) t at k) h

    pub check_full : length t ≤ at → answered 64 ≡ ruling t
    check_full e = sym (rw (le-leb (length t) at e) at at_last)

    pub check_over : at < length t → refused 2 (64 ∷ []) ≡ ruling t
    check_over e = sym (rw (lt-leb (length t) at e) at at_last)

-- `good_if` at a record, by its text's test
module _ (t : List ℕ) (at : ℕ) (q : Read) (p : q ≡ record_at t at) (r : Record) (e : q ≡ Is r) (b : Bool) (w : b ≡ is_text (take (r.place + r.len - r.place) (drop r.place t))) where
  at_text : (if b then Is r else Faulty) ≡ good_at t at
  unfolding good_at good_if
  at_text = ap (λ (c : Bool). (if c then Is r else Faulty)) (w ∙ ap is_text (text_part t r (record_inside t at q r p e))) ∙ ap (good_if t) (sym e ∙ p)

  pub good_bad : b ≡ false → Faulty ≡ good_at t at
  good_bad z = rw z at at_text

  pub good_good : b ≡ true → Is r ≡ good_at t at
  good_good z = rw z at at_text

-- the loop of `next_of`: what is sought from `at` on is sought from `place` on, record number k beginning there
module _ (m : Mark) (t : List ℕ) (at n place k : ℕ) (w : next_of m t at n ≡ next_of m t place k) where
  pub next_over : 64 ≤ k → None ≡ next_of m t at n
  unfolding next_of next_by
  next_over h = let e : 64 - k ≡ 0 = omega arith in sym (w ∙ ap (λ (x : ℕ). next_by x m t place k) e)

  module _ (h : k < 64) (q : Read) (p : q ≡ record_at t place) where
    at_next : next_of m t at n ≡ then_next m q k (λ x. next_by (64 - (k + 1)) m t x (k + 1))
    unfolding next_of next_by
    at_next =
        let e : 64 - k ≡ suc (64 - (k + 1)) = omega arith in
        w ∙ ap (λ (x : ℕ). next_by x m t place k) e ∙ ap (λ (y : Read). then_next m y k (λ x. next_by (64 - (k + 1)) m t x (k + 1))) (sym p)

    pub next_none : ((r : Record) → q ≡ Is r → ⊥) → None ≡ next_of m t at n
    unfolding then_next
    next_none e = go q refl
      where
        go : (y : Read) → q ≡ y → None ≡ next_of m t at n
        go (Is r) z = absurd (e r z)
        go Faulty z = sym (rw z at at_next)
        go End z = sym (rw z at at_next)

    module _ (r : Record) (e : q ≡ Is r) (b : Bool) (v : b ≡ same_mark r.mark m) where
      at_record : next_of m t at n ≡ (if b then Some (r, k) else next_of m t (r.place + r.len) (k + 1))
      unfolding then_next end_of next_of
      at_record = (rw e at at_next) ∙ ap (λ (c : Bool). (if c then Some (r, k) else next_of m t (r.place + r.len) (k + 1))) (sym v)

      pub next_is : b ≡ true → Some (r, k) ≡ next_of m t at n
      next_is z = sym (rw z at at_record)

      pub next_more : b ≡ false → next_of m t at n ≡ next_of m t (r.place + r.len) (k + 1)
      next_more z = rw z at at_record

-- the records with a mark, by the record that begins at `at`
module _ (m : Mark) (t : List ℕ) where
  entries_over : (at n : ℕ) → 64 - n ≡ 0 → entries m t at n ≡ []
  unfolding entries tokens_by of_mark
  entries_over at n e = ap (λ (x : ℕ). of_mark m n (tokens_by x t at)) e

  entries_at : (at n f : ℕ) → 64 - n ≡ suc f → (q : Read) → record_at t at ≡ q → entries m t at n ≡ of_mark m n (then_tokens t q (λ p. tokens_by f t p))
  unfolding entries tokens_by
  entries_at at n f e q p = ap (λ (x : ℕ). of_mark m n (tokens_by x t at)) e ∙ ap (λ (y : Read). of_mark m n (then_tokens t y (λ p. tokens_by f t p))) p

  entries_is : (at n f : ℕ) → 64 - n ≡ suc f → (r : Record) → record_at t at ≡ Is r → entries m t at n ≡ (if same_mark r.mark m then entry_of (token_of t r) n ∷ entries m t (r.place + r.len) (n + 1) else entries m t (r.place + r.len) (n + 1))
  unfolding entries of_mark then_tokens end_of token_of
  entries_is at n f e r p =
      let g : f ≡ 64 - (n + 1) = omega arith in
      entries_at at n f e (Is r) p ∙ ap (λ (x : ℕ). of_mark m n (token_of t r ∷ tokens_by x t (r.place + r.len))) g

  -- at or past the table's end there is none
  pub entries_past : (at n : ℕ) → length t ≤ at → entries m t at n ≡ []
  unfolding then_tokens of_mark
  entries_past at n h = go (64 - n) refl
    where
      go : (f : ℕ) → 64 - n ≡ f → entries m t at n ≡ []
      go zero e = entries_over at n e
      go (suc f) e = entries_at at n f e End (sym (read_end t at h))

other_mark : (a m o : Mark) → same_mark a m ≡ true → same_mark m o ≡ false → same_mark a o ≡ false
other_mark a m o p q = rw (eqb-true (mark_number a) (mark_number m) p) q

-- What `next_of` says of the records with the mark: with none the list is empty; else the record found is its first, and the rest is what follows it.
-- Where it is the very next record, those with any other mark are what follows it too.
pub record NextIs (m : Mark) (t : List ℕ) (at n : ℕ) (r : Record) (k : ℕ) : Type 0 where
  pub from : n ≤ k
  pub few : k < 64
  pub inside : r.place + r.len ≤ length t
  pub is : entries m t at n ≡ entry_of (token_of t r) k ∷ entries m t (r.place + r.len) (k + 1)
  pub others : k ≡ n → (o : Mark) → same_mark m o ≡ false → entries o t at n ≡ entries o t (r.place + r.len) (k + 1)

abbrev NextSays : Mark → List ℕ → ℕ → ℕ → Option (Record × ℕ) → Type 0
NextSays m t at n (Some (r, k)) = NextIs m t at n r k
NextSays m t at n None = entries m t at n ≡ []

module _ (m : Mark) (t : List ℕ) where
  later : (at n : ℕ) (r : Record) (q : Option (Record × ℕ)) → n < 64 → entries m t at n ≡ entries m t (r.place + r.len) (n + 1) → NextSays m t (r.place + r.len) (n + 1) q → NextSays m t at n q
  later at n r (Some (x, k)) h e w =
      record {
        from = omega (arith, w.from);
        few = w.few;
        inside = w.inside;
        is = e ∙ w.is;
        others = λ z. absurd (omega (arith, w.from));
      }
  later at n r None h e w = e ∙ w

  module _ (at n f : ℕ) (e : 64 - n ≡ suc f) (ih : (p : ℕ) → NextSays m t p (n + 1) (next_by f m t p (n + 1))) where
    on_mark : (r : Record) → record_at t at ≡ Is r → (b : Bool) → same_mark r.mark m ≡ b → NextSays m t at n (if b then Some (r, n) else next_by f m t (r.place + r.len) (n + 1))
    on_mark r p true v =
        record {
          from = omega arith;
          few = omega arith;
          inside = record_inside t at (record_at t at) r refl p;
          is = entries_is m t at n f e r p ∙ rw v;
          others = λ z o d. entries_is o t at n f e r p ∙ rw (other_mark r.mark m o v d);
        }
    on_mark r p false v =
        later at n r (next_by f m t (r.place + r.len) (n + 1)) (omega arith) (entries_is m t at n f e r p ∙ rw v) (ih (r.place + r.len))

    on_read : (q : Read) → record_at t at ≡ q → NextSays m t at n (then_next m q n (λ p. next_by f m t p (n + 1)))
    unfolding then_next end_of then_tokens of_mark
    on_read (Is r) p = on_mark r p (same_mark r.mark m) refl
    on_read Faulty p = entries_at m t at n f e Faulty p
    on_read End p = entries_at m t at n f e End p

  by_records : (f at n : ℕ) → 64 - n ≡ f → NextSays m t at n (next_by f m t at n)
  unfolding next_by
  by_records zero at n e = entries_over m t at n e
  by_records (suc f) at n e = on_read at n f e (λ p. by_records f p (n + 1) (omega arith)) (record_at t at) refl

  next_says : (at n : ℕ) → NextSays m t at n (next_of m t at n)
  unfolding next_of
  next_says at n = by_records (64 - n) at n refl

  pub next_nothing : (at n : ℕ) (q : Option (Record × ℕ)) → q ≡ next_of m t at n → q ≡ None → entries m t at n ≡ []
  next_nothing at n q p e = rw (sym p ∙ e) at (next_says at n)

  pub next_first : (at n : ℕ) (q : Option (Record × ℕ)) → q ≡ next_of m t at n → (r : Record) (k : ℕ) → q ≡ Some (r, k) → NextIs m t at n r k
  next_first at n q p r k e = rw (sym p ∙ e) at (next_says at n)

-- What is found is what `next_of` gives one after the other.
follow : Mark → List ℕ → Option (Record × ℕ) → List (Record × ℕ)
follow m t None = []
follow m t (Some (r, k)) = (r, k) ∷ found m t (r.place + r.len) (k + 1)

module _ (m : Mark) (t : List ℕ) where
  module _ (n f : ℕ) (e : 64 - n ≡ suc f) (ih : (p : ℕ) → found_by f m t p (n + 1) ≡ follow m t (next_by f m t p (n + 1))) where
    found_mark : (r : Record) (b : Bool) → (if b then (r, n) ∷ found_by f m t (r.place + r.len) (n + 1) else found_by f m t (r.place + r.len) (n + 1)) ≡ follow m t (if b then Some (r, n) else next_by f m t (r.place + r.len) (n + 1))
    unfolding follow found
    found_mark r true = let g : f ≡ 64 - (n + 1) = omega arith in ap (λ (x : ℕ). (r, n) ∷ found_by x m t (r.place + r.len) (n + 1)) g
    found_mark r false = ih (r.place + r.len)

    found_read : (q : Read) → then_found m q n (λ p. found_by f m t p (n + 1)) ≡ follow m t (then_next m q n (λ p. next_by f m t p (n + 1)))
    unfolding follow then_found then_next end_of
    found_read (Is r) = found_mark r (same_mark r.mark m)
    found_read Faulty = refl
    found_read End = refl

  follow_by : (f at n : ℕ) → 64 - n ≡ f → found_by f m t at n ≡ follow m t (next_by f m t at n)
  unfolding follow found_by next_by
  follow_by zero at n e = refl
  follow_by (suc f) at n e = found_read n f e (λ p. follow_by f p (n + 1) (omega arith)) (record_at t at)

  found_follows : (at n : ℕ) → found m t at n ≡ follow m t (next_of m t at n)
  unfolding found next_of
  found_follows at n = follow_by (64 - n) at n refl

  pub found_none : (at n : ℕ) → next_of m t at n ≡ None → found m t at n ≡ []
  unfolding follow
  found_none at n e = found_follows at n ∙ ap (follow m t) e

  pub found_some : (at n : ℕ) (r : Record) (k : ℕ) → next_of m t at n ≡ Some (r, k) → found m t at n ≡ (r, k) ∷ found m t (r.place + r.len) (k + 1)
  unfolding follow
  found_some at n r k e = found_follows at n ∙ ap (follow m t) e

  -- What a walk over the records says of the entries: where it ends there are none; the first that it gives is the next, and the others are found behind it.
  none_found : (at n : ℕ) (q : Option (Record × ℕ)) → q ≡ next_of m t at n → follow m t q ≡ [] → entries m t at n ≡ []
  unfolding follow
  none_found at n None p e = next_nothing m t at n None p refl
  none_found at n (Some (r, k)) p e = cc

  pub walk_ends : (at n : ℕ) → found m t at n ≡ [] → entries m t at n ≡ []
  walk_ends at n e = none_found at n (next_of m t at n) refl (sym (found_follows at n) ∙ e)

  first_found : (at n : ℕ) (q : Option (Record × ℕ)) → q ≡ next_of m t at n → (r : Record) (k : ℕ) (l : List (Record × ℕ)) → follow m t q ≡ (r, k) ∷ l → NextIs m t at n r k × (l ≡ found m t (r.place + r.len) (k + 1))
  unfolding follow
  first_found at n None p r k l e = cc
  first_found at n (Some (x, j)) p r k l e =
      let a : ◌≡◌ {A = Record × ℕ} (x, j) (r, k) = cc in
      let b : found m t (x.place + x.len) (j + 1) ≡ l = cc in
      (next_first m t at n (Some (x, j)) p r k (ap (λ (y : Record × ℕ). Some y) a), sym b ∙ ap (λ (y : Record × ℕ). found m t (y.0.place + y.0.len) (y.1 + 1)) a)

  pub walk_next : (at n : ℕ) (r : Record) (k : ℕ) (l : List (Record × ℕ)) → found m t at n ≡ (r, k) ∷ l → NextIs m t at n r k × (l ≡ found m t (r.place + r.len) (k + 1))
  walk_next at n r k l e = first_found at n (next_of m t at n) refl r k l (sym (found_follows at n) ∙ e)

-- The entries are those of the records found.
module _ (m : Mark) (t : List ℕ) where
  module _ (n f : ℕ) (ih : (p : ℕ) → of_mark m (n + 1) (tokens_by f t p) ≡ entries_of t (found_by f m t p (n + 1))) where
    entries_mark : (r : Record) (b : Bool) → (if b then entry_of (token_of t r) n ∷ of_mark m (n + 1) (tokens_by f t (r.place + r.len)) else of_mark m (n + 1) (tokens_by f t (r.place + r.len))) ≡ entries_of t (if b then (r, n) ∷ found_by f m t (r.place + r.len) (n + 1) else found_by f m t (r.place + r.len) (n + 1))
    unfolding entries_of
    entries_mark r true = ap (λ (l : List Entry). entry_of (token_of t r) n ∷ l) (ih (r.place + r.len))
    entries_mark r false = ih (r.place + r.len)

    entries_read : (q : Read) → of_mark m n (then_tokens t q (λ p. tokens_by f t p)) ≡ entries_of t (then_found m q n (λ p. found_by f m t p (n + 1)))
    unfolding of_mark then_tokens then_found end_of token_of entries_of
    entries_read (Is r) = entries_mark r (same_mark r.mark m)
    entries_read Faulty = refl
    entries_read End = refl

  entries_by : (f at n : ℕ) → of_mark m n (tokens_by f t at) ≡ entries_of t (found_by f m t at n)
  unfolding of_mark tokens_by found_by entries_of
  entries_by zero at n = refl
  entries_by (suc f) at n = entries_read n f (λ p. entries_by f p (n + 1)) (record_at t at)

  pub entries_found : (at n : ℕ) → entries m t at n ≡ entries_of t (found m t at n)
  unfolding entries found
  entries_found at n = entries_by (64 - n) at n

-- every text of the tokens, and so of those with a mark, keeps the rules
abbrev pub Texts : List Token → Type 0
Texts [] = Unit {0}
Texts (x ∷ l) = (is_text x.text ≡ true) × Texts l

abbrev pub EntryTexts : List Entry → Type 0
EntryTexts [] = Unit {0}
EntryTexts (x ∷ l) = (is_text x.text ≡ true) × EntryTexts l

pub mark_texts : (m : Mark) (n : ℕ) (l : List Token) → Texts l → EntryTexts (of_mark m n l)
unfolding of_mark entry_of
mark_texts m n [] w = tt
mark_texts m n (x ∷ l) w = let r = mark_texts m (n + 1) l w.1 in ways EntryTexts (same_mark x.mark m) (λ e. (w.0, r)) (λ e. r)

-- A good table's tokens: as many as the check answers, each with a good text.
pub record GoodTokens (l : List Token) (n m : ℕ) : Type 0 where
  pub count : n + length l ≡ m
  pub texts : Texts l

module _ (t : List ℕ) (n m f : ℕ) (ih : (p : ℕ) → ruling_by f t p (n + 1) ≡ answered m → GoodTokens (tokens_by f t p) (n + 1) m) where
  good_is : (r : Record) (b : Bool) → is_text (text_of t r) ≡ b → then_rule (if b then Is r else Faulty) n (λ p. ruling_by f t p (n + 1)) ≡ answered m → GoodTokens (token_of t r ∷ tokens_by f t (end_of r)) n m
  unfolding then_rule token_of
  good_is r true e h =
      let w = ih (end_of r) h in
      record { count = omega (arith, w.count); texts = (e, w.texts) }
  good_is r false e h = let z : ◌≡◌ {A = ℕ} 0 1 = cc in absurd (omega arith)

  good_read : (q : Read) → then_rule (good_if t q) n (λ p. ruling_by f t p (n + 1)) ≡ answered m → GoodTokens (then_tokens t q (λ p. tokens_by f t p)) n m
  unfolding good_if then_tokens then_rule
  good_read (Is r) h = good_is r (is_text (text_of t r)) refl h
  good_read Faulty h = let z : ◌≡◌ {A = ℕ} 0 1 = cc in absurd (omega arith)
  good_read End h = let e : n ≡ m = cc in record { count = omega arith; texts = tt }

good_last : (b : Bool) (n m : ℕ) → (if b then answered n else refused 2 (n ∷ [])) ≡ answered m → GoodTokens [] n m
good_last true n m h = let e : n ≡ m = cc in record { count = omega arith; texts = tt }
good_last false n m h = let z : ◌≡◌ {A = ℕ} 0 1 = cc in absurd (omega arith)

good_by : (f : ℕ) (t : List ℕ) (at n m : ℕ) → ruling_by f t at n ≡ answered m → GoodTokens (tokens_by f t at) n m
unfolding ruling_by tokens_by good_at
good_by zero t at n m h = good_last (leb (length t) at) n m h
good_by (suc f) t at n m h = good_read t n m f (λ p g. good_by f t p (n + 1) m g) (record_at t at) h

pub good_tokens : (t : List ℕ) (m : ℕ) → ruling t ≡ answered m → GoodTokens (tokens t) 0 m
unfolding ruling tokens
good_tokens t m h = good_by 64 t 0 0 m h

-- A record's number is below 64: at most so many are read, and those with a mark have their numbers among theirs.
abbrev pub NumbersBelow : ℕ → List Entry → Type 0
NumbersBelow k [] = Unit {0}
NumbersBelow k (x ∷ l) = (x.number < k) × NumbersBelow k l

mark_numbers : (m : Mark) (n k : ℕ) (l : List Token) → n + length l ≤ k → NumbersBelow k (of_mark m n l)
unfolding of_mark entry_of
mark_numbers m n k [] h = tt
mark_numbers m n k (x ∷ l) h = let r = mark_numbers m (n + 1) k l (omega arith) in ways (NumbersBelow k) (same_mark x.mark m) (λ e. (omega arith, r)) (λ e. r)

few_then : (f : ℕ) (t : List ℕ) (q : Read) → ((at : ℕ) → length (tokens_by f t at) ≤ f) → length (then_tokens t q (λ p. tokens_by f t p)) ≤ suc f
unfolding then_tokens
few_then f t (Is r) h = omega (arith, h (end_of r))
few_then f t Faulty h = omega arith
few_then f t End h = omega arith

tokens_few : (f : ℕ) (t : List ℕ) (at : ℕ) → length (tokens_by f t at) ≤ f
unfolding tokens_by
tokens_few zero t at = omega arith
tokens_few (suc f) t at = few_then f t (record_at t at) (tokens_few f t)

pub numbers_below : (m : Mark) (t : List ℕ) → NumbersBelow 64 (of_mark m 0 (tokens t))
unfolding tokens
numbers_below m t = mark_numbers m 0 64 (tokens_by 64 t 0) (omega (arith, tokens_few 64 t 0))
