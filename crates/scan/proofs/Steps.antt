-- The steps of the pass as the code takes them. Rests on the table's rule and on the theorem.
use Rattle.std.specs.Prelude.{Option, Some, None, ◌≡◌, refl, ◌⊎◌, true, List, [], ℕ, zero, suc, ◌+◌, ◌-◌, ◌≤◌, ◌<◌, length, get_or, drop, replicate, ltb, unwrap_or}
use Rattle.std.proofs.Math.Path.{sym, ap}
use Rattle.std.proofs.Common.{ap₂, ◌∙◌, inl, inr, add-one, add-zero, eq-or-lt_of_le, arith, drop_of_length-le, drop-cons}
use borrow.Author.Tests.{eq-eqb, lt-leb, lt-ltb, ltb-true}
use Rattle.outcome.specs.Laws.{ways}
use Rattle.text.specs.Bytes.{bytes}
use Rattle.text.specs.Logic.{false_true}
use Rattle.text.specs.Text.{begins, stands, find_in}
use Rattle.text.specs.Laws.{stands_byte, found_at, found_none}
use Rattle.scan.specs.Table.{class_of, table, next, finished}
use Rattle.scan.proofs.Rule.{next_state, start_stays}
use Rattle.scan.specs.Scan.{noted, read, run, state_of, extended, fresh, scanned, first_ends, Ahead}
use Rattle.scan.proofs.Theorem.{scanned_firsts}
use Rattle.scan.specs.declared.Findings.{Findings}

-- the entry that is read
pub step_is : (q b c r : ℕ) → c ≡ class_of b → r ≡ get_or (get_or table q []) c 0 → r ≡ next q b
unfolding next
step_is q b c r e g = g ∙ ap (λ (n : ℕ). get_or (get_or table q []) n 0) e

-- a state that lacks more than a byte finishes none
none_lacks : (q b : ℕ) → q < 87 → None ≡ finished q b
unfolding finished
none_lacks q b h = rw (lt-leb 87 q h)

-- where to go on from: at once, at the CR that was found, or at the end where there is none
cr_stands : (s : List ℕ) (j : ℕ) → j < length s → get_or s j 0 ≡ 13 → stands (bytes "\r") s j ≡ true
unfolding stands begins
cr_stands s j h e = rw (drop-cons s j 0 h, eq-eqb (get_or s j 0) 13 e)

pub cr_within : (s : List ℕ) (i p : ℕ) → find_in (bytes "\r") s i ≡ Some p → p < length s
cr_within s i p e = (stands_byte 13 [] s p (found_at (bytes "\r") s i p e).here).0

pub ahead_here : (q : ℕ) (s : List ℕ) (i : ℕ) → i ≤ length s → Ahead q s i i
ahead_here q s i h = record { after = omega arith; within = h; plain = λ j a b e. absurd (omega arith); start = λ g. absurd (omega arith) }

pub ahead_found : (q : ℕ) (s : List ℕ) (i : ℕ) (x : Option ℕ) → q ≡ 0 → i ≤ length s → x ≡ find_in (bytes "\r") s i → Ahead q s i (unwrap_or x (length s))
ahead_found q s i (Some p) z h e =
    let f = found_at (bytes "\r") s i p (sym e) in
    let l = cr_within s i p (sym e) in
    record {
      after = f.after;
      within = omega arith;
      plain = λ j a b c. false_true (cr_stands s j (omega arith) c) (f.first j a b);
      start = λ g. z;
    }
ahead_found q s i None z h e =
    record {
      after = h;
      within = omega arith;
      plain = λ j a b c. false_true (cr_stands s j b c) (found_none (bytes "\r") s i (sym e) j a);
      start = λ g. z;
    }

abbrev pub found : ℕ → ℕ → List ℕ → Findings
found i q l = record { seen = i; state = q; ends = l }

-- one byte
run_one : (s : List ℕ) (i q : ℕ) (l : List ℕ) → i < length s → run (found i q l) (drop i s) ≡ run (found (i + 1) (next q (get_or s i 0)) (noted l (finished q (get_or s i 0)) (i + 1))) (drop (i + 1) s)
unfolding run read
run_one s i q l h =
    ap (run (found i q l)) (drop-cons s i 0 h)
    ∙ ap (λ (m : ℕ). run (found (i + 1) (next q (get_or s i 0)) (noted l (finished q (get_or s i 0)) (i + 1))) (drop m s)) (sym (add-one i))

-- in the start state, one that is no CR
run_pass : (s : List ℕ) (i : ℕ) (l : List ℕ) → i < length s → (get_or s i 0 ≡ 13 → ⊥) → run (found i 0 l) (drop i s) ≡ run (found (i + 1) 0 l) (drop (i + 1) s)
run_pass s i l h n =
    let a = start_stays (get_or s i 0) n in
    let b : l ≡ noted l (finished 0 (get_or s i 0)) (i + 1) = unfold noted in ap (λ (x : Option ℕ). noted l x (i + 1)) (none_lacks 0 (get_or s i 0) (omega arith)) in
    run_one s i 0 l h ∙ (λ j. run (found (i + 1) (a j) (sym b j)) (drop (i + 1) s))

-- and n of them
run_by : (n : ℕ) (s : List ℕ) (i : ℕ) (l : List ℕ) → i + n ≤ length s → ((j : ℕ) → i ≤ j → j < i + n → get_or s j 0 ≡ 13 → ⊥) → run (found i 0 l) (drop i s) ≡ run (found (i + n) 0 l) (drop (i + n) s)
run_by zero s i l h n = ap (λ (m : ℕ). run (found m 0 l) (drop m s)) (sym (add-zero i))
run_by (suc m) s i l h n =
    let e : i + 1 + m ≡ i + suc m = omega arith in
    run_pass s i l (omega arith) (n i (omega arith) (omega arith))
    ∙ run_by m s (i + 1) l (omega arith) (λ j x y. n j (omega arith) (omega arith))
    ∙ ap (λ (k : ℕ). run (found k 0 l) (drop k s)) e

-- the pass has come to the place i, in the state q, with the ends l, and the rest of s will say the rest
pub record Going (f : Findings) (s : List ℕ) (i q : ℕ) (l : List ℕ) : Type 0 where
  pub range : q < 98
  pub same : run f (drop f.seen s) ≡ run (found i q l) (drop i s)

pub going_starts : (f : Findings) (s : List ℕ) → f.state < 98 → Going f s f.seen f.state f.ends
going_starts f s h = record { range = h; same = refl }

module _ (f : Findings) (s : List ℕ) (i q : ℕ) (l : List ℕ) (h : Going f s i q l) where
  pub going_ahead : (p : ℕ) → Ahead q s i p → Going f s p q l
  going_ahead p a =
      record {
        range = h.range;
        same = h.same ∙ go (eq-or-lt_of_le a.after);
      }
    where
      go : (i ≡ p) ⊎ (i < p) → run (found i q l) (drop i s) ≡ run (found p q l) (drop p s)
      go (inl e) = ap (λ (m : ℕ). run (found m q l) (drop m s)) e
      go (inr g) =
          let z = a.start g in
          let e : i + (p - i) ≡ p = omega arith in
          ap (λ (m : ℕ). run (found i m l) (drop i s)) z
          ∙ run_by (p - i) s i l (omega (arith, a.within)) (λ j x y. a.plain j x (omega arith))
          ∙ ap (λ (m : ℕ). run (found m 0 l) (drop m s)) e
          ∙ ap (λ (m : ℕ). run (found p m l) (drop p s)) (sym z)

  -- one byte by the table
  pub going_next : i < length s → (j : ℕ) (k : Option ℕ) (r : ℕ) (m : List ℕ) → j ≡ i + 1 → k ≡ finished q (get_or s i 0) → m ≡ noted l k j → r ≡ next q (get_or s i 0) → Going f s j r m
  going_next g j k r m w x y z =
      let v : m ≡ noted l (finished q (get_or s i 0)) (i + 1) = y ∙ ap₂ (noted l) x w in
      record {
        range = rw z (next_state q (get_or s i 0) h.range);
        same = h.same ∙ run_one s i q l g ∙ (λ a. run (found (sym w a) (sym z a) (sym v a)) (drop (sym w a) s));
      }

  -- on from where it has come to
  pub going_join : (j r : ℕ) (m : List ℕ) → Going (found i q l) s j r m → Going f s j r m
  going_join j r m g = record { range = g.range; same = h.same ∙ g.same }

  pub going_end : length s ≤ i → ◌≡◌ {A = Findings} (found i q l) (run f (drop f.seen s))
  unfolding run
  going_end g = sym (h.same ∙ ap (run (found i q l)) (drop_of_length-le s g))

-- a state in its range, and any
pub state_in : (q : ℕ) → q < 98 → q ≡ state_of q
unfolding state_of
state_in q h = rw (lt-ltb q 98 h)

pub state_range : (q : ℕ) → state_of q < 98
unfolding state_of
state_range q = ways (λ (n : ℕ). n < 98) (ltb q 98) (λ e. ltb-true q 98 e) (λ e. omega arith)

-- a pass is the fresh findings carried on
pub scan_is : (d : ℕ) (s : List ℕ) (r : Findings) → r ≡ extended (found d 0 (replicate 11 0)) s → (r ≡ scanned d s) × (r.ends ≡ first_ends d s)
unfolding extended state_of scanned fresh
scan_is d s r e = (e, ap (λ (f : Findings). f.ends) e ∙ scanned_firsts d s)
