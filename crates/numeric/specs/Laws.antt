-- Laws of the definitions, for the programs and for those above. The walk goes from line start to line start: between a line start and the next CR there is none.
use Rattle.std.specs.Prelude.{Option, Some, None, ◌≡◌, Bool, false, ◌&&◌, ◌||◌, not, List, length, if◌then◌else◌}
use Rattle.std.proofs.Math.Path.{refl, sym, ap}
use Rattle.std.proofs.Common.{◌∙◌, add-zero, eq-or-lt_of_le}
use Rattle.std.proofs.Math.Logic.{inl, inr, ⊎_elim}
use Rattle.std.proofs.Math.Bool.{true, or-true}
use Prim.Native.Nat.{ℕ, zero, suc, ◌+◌, ◌-◌, ◌≤◌, ◌<◌}
use Rattle.std.proofs.Math.Numerals.{add-one, sub-one}
use native.Mathlib.Omega.{arith}
use Rattle.std.proofs.Math.ListN.{get_or, get_or-eq_default}
use borrow.Author.Tests.{eq-eqb, ne_eqb, eqb-true, eqb-false, not-true, not-false}
use Rattle.outcome.specs.Laws.{ways}
use Rattle.text.specs.Logic.{false_true, not_true_false, and_both, order}
use Rattle.text.specs.Text.{past}
use Rattle.text.specs.Laws.{past_bounds, past_passes, past_stops}
use Rattle.numeric.specs.declared.Line.{Line}
use Rattle.numeric.specs.Numeric.{is_cr, is_lf, lone_cr, line_start, is_listed, code_at, least, leftmost, behind}
use Rattle.numeric.specs.Heard.{Behind}

-- what the search for the next CR passes over
abbrev pub not_cr : ℕ → Bool
not_cr b = not (is_cr b)

-- the line start behind the CR at i, and where what stands before that begins
unfoldable pub line_behind : List ℕ → ℕ → ℕ → Line
line_behind s i from = if lone_cr s i then record { start = i + 1; from = i + 1 } else record { start = i + 2; from = from }

-- a code's place, and where what stands before it begins
abbrev pub coded : List ℕ → Option ℕ → Option Line
coded s (Some p) = Some (record { start = p; from = behind s p })
coded s None = None

-- the least place that passes
module _ (f : ℕ → Bool) where
  pub least_at : (n i k : ℕ) → i ≤ k → k < i + n → f k ≡ true → ((j : ℕ) → i ≤ j → j < k → f j ≡ false) → Some k ≡ least f n i
  unfolding least
  least_at zero i k h g e a = absurd (omega arith)
  least_at (suc n) i k h g e a =
      ⊎_elim
      (λ (q : i ≡ k). rw (ap f q ∙ e) (ap Some (sym q)))
      (λ (q : i < k). rw (a i (omega arith) q) (least_at n (suc i) k (omega arith) (omega arith) e (λ j x y. a j (omega arith) y)))
      (eq-or-lt_of_le h)

  pub least_none : (n i : ℕ) → ((j : ℕ) → i ≤ j → j < i + n → f j ≡ false) → None ≡ least f n i
  unfolding least
  least_none zero i a = refl
  least_none (suc n) i a = rw (a i (omega arith) (omega arith)) (least_none n (suc i) (λ j x y. a j (omega arith) (omega arith)))

  -- what a search says
  pub record LeastAt (n i k : ℕ) : Type 0 where
    pub after : i ≤ k
    pub before : k < i + n
    pub here : f k ≡ true
    pub first : (j : ℕ) → i ≤ j → j < k → f j ≡ false

  abbrev pub LeastSays : ℕ → ℕ → Option ℕ → Type 0
  LeastSays n i (Some k) = LeastAt n i k
  LeastSays n i None = (j : ℕ) → i ≤ j → j < i + n → f j ≡ false

  least_more : (n i : ℕ) → f i ≡ false → (r : Option ℕ) → LeastSays n (suc i) r → LeastSays (suc n) i r
  least_more n i e (Some k) w =
      record {
        after = omega (arith, w.after);
        before = omega (arith, w.before);
        here = w.here;
        first = λ j x y. ⊎_elim (λ (q : i ≡ j). ap f (sym q) ∙ e) (λ (q : i < j). w.first j (omega arith) y) (eq-or-lt_of_le x);
      }
  least_more n i e None w = λ j x y. ⊎_elim (λ (q : i ≡ j). ap f (sym q) ∙ e) (λ (q : i < j). w j (omega arith) (omega arith)) (eq-or-lt_of_le x)

  pub least_says : (n i : ℕ) → LeastSays n i (least f n i)
  unfolding least
  least_says zero i = λ j x y. absurd (omega arith)
  least_says (suc n) i =
      ways (LeastSays (suc n) i) (f i)
      (λ e. record { after = omega arith; before = omega arith; here = e; first = λ j x y. absurd (omega arith) })
      (λ e. least_more n i e (least f n (suc i)) (least_says n (suc i)))

-- a line start, by the bytes in front of it
data Opened (s : List ℕ) (p : ℕ) : Type 0 where
  first : p ≡ 0 → Opened s p
  lone : (j : ℕ) → p ≡ j + 1 → lone_cr s j ≡ true → Opened s p
  crlf : (j : ℕ) → p ≡ j + 2 → get_or s j 0 ≡ 13 → get_or s (j + 1) 0 ≡ 10 → Opened s p

module _ (s : List ℕ) where
  -- past the end there is neither CR, LF nor digit
  none_past : (i b : ℕ) → length s ≤ i → 0 < b → get_or s i 0 ≡ b → ⊥
  none_past i b h g e = omega (arith, get_or-eq_default s 0 {n = i} h)

  pub inside_cr : (i : ℕ) → get_or s i 0 ≡ 13 → i < length s
  inside_cr i e = ⊎_elim (λ (q : i < length s). q) (λ (q : length s ≤ i). absurd (none_past i 13 q (omega arith) e)) (order i (length s))

  -- a lone CR
  pub lone_cr_lem : (i : ℕ) → lone_cr s i ≡ true → (get_or s i 0 ≡ 13) × (get_or s (i + 1) 0 ≡ 10 → ⊥)
  unfolding lone_cr
  lone_cr_lem i e =
      let w = and_both (is_cr (get_or s i 0)) (not (is_lf (get_or s (i + 1) 0))) e in
      (eqb-true (get_or s i 0) 13 w.0, eqb-false (get_or s (i + 1) 0) 10 (not-true (is_lf (get_or s (i + 1) 0)) w.1))

  pub lone_is : (i : ℕ) → get_or s i 0 ≡ 13 → (get_or s (i + 1) 0 ≡ 10 → ⊥) → lone_cr s i ≡ true
  unfolding lone_cr
  lone_is i e n = rw (eq-eqb (get_or s i 0) 13 e, ne_eqb (get_or s (i + 1) 0) 10 n)

  lf_behind : (i : ℕ) → get_or s i 0 ≡ 13 → lone_cr s i ≡ false → get_or s (i + 1) 0 ≡ 10
  unfolding lone_cr
  lf_behind i e h = eqb-true (get_or s (i + 1) 0) 10 (not-false (is_lf (get_or s (i + 1) 0)) (rw (eq-eqb (get_or s i 0) 13 e) at h))

  pub lone_not : (i : ℕ) → (get_or s i 0 ≡ 13 → get_or s (i + 1) 0 ≡ 10) → lone_cr s i ≡ false
  lone_not i h = not_true_false (lone_cr s i) (λ e. (lone_cr_lem i e).1 (h (lone_cr_lem i e).0))

  two_ways : (i : ℕ) (b : Bool) → is_cr (get_or s i 0) && is_lf (get_or s (suc i) 0) ≡ b → b || lone_cr s (suc i) ≡ true → Opened s (suc (suc i))
  two_ways i true e h =
      let w = and_both (is_cr (get_or s i 0)) (is_lf (get_or s (suc i) 0)) e in
      crlf i (omega arith) (eqb-true (get_or s i 0) 13 w.0) (rw add-one (eqb-true (get_or s (suc i) 0) 10 w.1))
  two_ways i false e h = lone (suc i) (omega arith) h

  opened : (p : ℕ) → line_start s p ≡ true → Opened s p
  unfolding line_start
  opened zero e = first refl
  opened (suc zero) e = lone 0 (omega arith) e
  opened (suc (suc i)) e = two_ways i (is_cr (get_or s i 0) && is_lf (get_or s (suc i) 0)) refl e

  -- the byte after a lone CR, and after a CRLF
  pub start_lone : (i : ℕ) → lone_cr s i ≡ true → line_start s (i + 1) ≡ true
  unfolding line_start
  start_lone zero e = e
  start_lone (suc i) e = rw (add-one, e) (or-true (is_cr (get_or s i 0) && is_lf (get_or s (suc i) 0)))

  start_crlf : (i : ℕ) → get_or s i 0 ≡ 13 → get_or s (i + 1) 0 ≡ 10 → line_start s (i + 2) ≡ true
  unfolding line_start
  start_crlf i e h =
      let z : i + 2 ≡ suc (suc i) = omega arith in
      ap (line_start s) z ∙ rw (eq-eqb (get_or s i 0) 13 e, eq-eqb (get_or s (suc i) 0) 10 (rw add-one at h))

  -- what a line start begins with isn't the LF of a CRLF
  pub no_crlf : (p : ℕ) → line_start s p ≡ true → (j : ℕ) → p ≡ j + 1 → get_or s j 0 ≡ 13 → get_or s p 0 ≡ 10 → ⊥
  no_crlf p h j z x y =
      elim (opened p h) [
        | first w ↦ omega arith
        | lone k w l ↦ let v : k ≡ j = omega arith in (lone_cr_lem k l).1 (ap (λ (n : ℕ). get_or s (n + 1) 0) v ∙ ap (λ (n : ℕ). get_or s n 0) (sym z) ∙ y)
        | crlf k w a b ↦ let v : k + 1 ≡ j = omega arith in omega (arith, ap (λ (n : ℕ). get_or s n 0) v, b, x)
      ]

  -- from a line start p to the next CR, at q, there is no other
  module _ (p : ℕ) (h : line_start s p ≡ true) (q : ℕ) (e : q ≡ past not_cr s p) where
    no_cr : (j : ℕ) → p ≤ j → j < q → get_or s j 0 ≡ 13 → ⊥
    no_cr j x y z = false_true (eq-eqb (get_or s j 0) 13 z) (not-true (is_cr (get_or s j 0)) (past_passes not_cr s p j x (omega (arith, e))))

    not_between : (j : ℕ) → p < j → j ≤ q → line_start s j ≡ false
    not_between j x y =
        not_true_false (line_start s j) (λ l.
        elim (opened j l) [
          | first w ↦ omega arith
          | lone k w a ↦ no_cr k (omega arith) (omega arith) (lone_cr_lem k a).0
          | crlf k w a b ↦ ⊎_elim (λ (o : k < p). let v : p ≡ k + 1 = omega arith in no_crlf p h k v a (ap (λ (n : ℕ). get_or s n 0) v ∙ b)) (λ (o : p ≤ k). no_cr k o (omega arith) a) (order k p)
        ])

    -- the CR at q, and the line start behind it
    module _ (g : q < length s) where
      pub cr_at : get_or s q 0 ≡ 13
      cr_at = eqb-true (get_or s q 0) 13 (not-false (is_cr (get_or s q 0)) (ap (λ (n : ℕ). not_cr (get_or s n 0)) e ∙ past_stops not_cr s p (omega (arith, e))))

      start_behind : (from : ℕ) → line_start s (line_behind s q from).start ≡ true
      unfolding line_behind
      start_behind from =
          ways (λ (l : Line). line_start s l.start ≡ true) (lone_cr s q) (λ l. start_lone q l)
          (λ l. start_crlf q cr_at (lf_behind q cr_at l))

      not_behind : (from j : ℕ) → q < j → j < (line_behind s q from).start → line_start s j ≡ false
      unfolding line_behind
      not_behind from j x =
          ways (λ (n : Line). j < n.start → line_start s j ≡ false) (lone_cr s q) (λ l y. absurd (omega arith))
          (λ l y.
          not_true_false (line_start s j) (λ o.
          elim (opened j o) [
            | first w ↦ omega arith
            | lone k w a ↦ let v : k ≡ q = omega arith in false_true (ap (lone_cr s) (sym v) ∙ a) l
            | crlf k w a b ↦ let v : k + 1 ≡ q = omega arith in omega (arith, ap (λ (n : ℕ). get_or s n 0) v, b, cr_at)
          ]))

  -- the next CR, where it isn't the end
  pub cr_inside : (p : ℕ) → p < length s → (q : ℕ) → q ≡ past not_cr s p → (q ≡ length s → ⊥) → q < length s
  cr_inside p h q e n = let w : q ≤ length s = omega (arith, e, (past_bounds not_cr s p).1 (omega arith)) in ⊎_elim (λ (x : q ≡ length s). absurd (n x)) (λ (x : q < length s). x) (eq-or-lt_of_le w)

  -- a code: its parts, and that it fits
  pub code_parts : (p : ℕ) → code_at s p ≡ true → (line_start s p ≡ true) × ((is_listed (get_or s p 0) ≡ true) × (lone_cr s (p + 1) ≡ true))
  unfolding code_at
  code_parts p e =
      let w = and_both (line_start s p) (is_listed (get_or s p 0) && lone_cr s (p + 1)) e in
      (w.0, and_both (is_listed (get_or s p 0)) (lone_cr s (p + 1)) w.1)

  pub code_fits : (p : ℕ) → code_at s p ≡ true → p + 2 ≤ length s
  code_fits p e = omega (arith, inside_cr (p + 1) (lone_cr_lem (p + 1) (code_parts p e).1.1).0)

  -- what is left behind a code begins at a line start
  pub code_rest : (p : ℕ) → code_at s p ≡ true → line_start s (p + 2) ≡ true
  code_rest p e =
      let z : p + 1 + 1 ≡ p + 2 = omega arith in
      ap (line_start s) (sym z) ∙ start_lone (p + 1) (code_parts p e).1.1

  no_start : (p : ℕ) → line_start s p ≡ false → code_at s p ≡ false
  unfolding code_at
  no_start p e = rw e

  -- where nothing between is a lone CR, what stands before begins at the same place
  behind_same : (n p : ℕ) → ((j : ℕ) → p ≤ j → j < p + n → lone_cr s j ≡ false) → behind s (p + n) ≡ behind s p
  unfolding behind
  behind_same zero p h = ap (behind s) (add-zero p)
  behind_same (suc n) p h =
      let z : p + suc n ≡ suc (p + n) = omega arith in
      ap (behind s) z ∙ (rw (h (p + n) (omega arith) (omega arith)) (behind_same n p (λ j x y. h j x (omega arith))))

  behind_upto : (p k : ℕ) → p ≤ k → ((j : ℕ) → p ≤ j → j < k → lone_cr s j ≡ false) → behind s k ≡ behind s p
  behind_upto p k g h =
      let z : p + (k - p) ≡ k = omega arith in
      ap (behind s) (sym z) ∙ behind_same (k - p) p (λ j x y. h j x (omega arith))

  behind_lone : (k : ℕ) → lone_cr s k ≡ true → k + 1 ≡ behind s (k + 1)
  unfolding behind
  behind_lone k e = rw (add-one, e)

  -- the walk: p is a line start, no code stands before it, and what stands before it begins at `from`
  pub record Walked (p from : ℕ) : Type 0 where
    pub start : line_start s p ≡ true
    pub none : (j : ℕ) → j < p → code_at s j ≡ false
    pub begins : from ≡ behind s p

  pub walked_first : Walked 0 0
  unfolding line_start behind
  walked_first = record { start = refl; none = λ j x. absurd (omega arith); begins = refl }

  module _ (p from : ℕ) (w : Walked p from) where
    -- a code here is the leftmost
    pub walk_found : is_listed (get_or s p 0) && lone_cr s (p + 1) ≡ true → Some (record { start = p; from = from }) ≡ coded s (leftmost s)
    unfolding leftmost code_at
    walk_found e =
        let c : code_at s p ≡ true = rw w.start e in
        ap (λ (n : ℕ). let l : Line = record { start = p; from = n } in Some l) w.begins ∙ ap (coded s) (least_at (code_at s) (length s) 0 p (omega arith) (omega (arith, code_fits p c)) c (λ j x y. w.none j y))

    pub walk_end : length s ≤ p → None ≡ coded s (leftmost s)
    unfolding leftmost
    walk_end h = ap (coded s) (least_none (code_at s) (length s) 0 (λ j x y. w.none j (omega arith)))

    module _ (n : is_listed (get_or s p 0) && lone_cr s (p + 1) ≡ false) (q : ℕ) (e : q ≡ past not_cr s p) where
      not_here : code_at s p ≡ false
      unfolding code_at
      not_here = rw w.start n

      none_to : (j : ℕ) → j ≤ q → code_at s j ≡ false
      none_to j x =
          ⊎_elim
          (λ (y : j < p). w.none j y)
          (λ (y : p ≤ j). ⊎_elim (λ (z : p ≡ j). ap (code_at s) (sym z) ∙ not_here) (λ (z : p < j). no_start j (not_between p w.start q e j z x)) (eq-or-lt_of_le y))
          (order j p)

      -- no CR is left
      pub walk_last : length s ≤ q → None ≡ coded s (leftmost s)
      unfolding leftmost
      walk_last h = ap (coded s) (least_none (code_at s) (length s) 0 (λ j x y. none_to j (omega arith)))

      -- on to the next line start
      module _ (g : q < length s) where
        no_lone : (j : ℕ) → p ≤ j → j < q → lone_cr s j ≡ false
        no_lone j x y = lone_not j (λ z. absurd (no_cr p w.start q e j x y z))

        begins_on : (line_behind s q from).from ≡ behind s (line_behind s q from).start
        unfolding line_behind
        begins_on =
            let m : p ≤ q = omega (arith, e, (past_bounds not_cr s p).0) in
            ways (λ (l : Line). l.from ≡ behind s l.start) (lone_cr s q) (behind_lone q)
            (λ l.
            w.begins
            ∙ sym
            (behind_upto p (q + 2) (omega arith) (λ j x y.
            ⊎_elim
            (λ (z : j < q). no_lone j x z)
            (λ (z : q ≤ j). ⊎_elim (λ (o : q ≡ j). ap (lone_cr s) (sym o) ∙ l) (λ (o : q < j). let v : q + 1 ≡ j = omega arith in lone_not j (λ r. absurd (omega (arith, ap (λ (k : ℕ). get_or s k 0) v, r, lf_behind q (cr_at p w.start q e g) l)))) (eq-or-lt_of_le z))
            (order j q))))

        pub walk_on : Walked (line_behind s q from).start (line_behind s q from).from
        walk_on =
            record {
              start = start_behind p w.start q e g from;
              none = λ j x. ⊎_elim (λ (y : q < j). no_start j (not_behind p w.start q e g from j y x)) (λ (y : j ≤ q). none_to j y) (order q j);
              begins = begins_on;
            }

        pub walk_less : p < (line_behind s q from).start
        unfolding line_behind
        walk_less = ways (λ (n : Line). p < n.start) (lone_cr s q) (λ l. omega (arith, e, (past_bounds not_cr s p).0)) (λ l. omega (arith, e, (past_bounds not_cr s p).0))

  -- where what stands before p begins
  pub behind_is : (p : ℕ) → Behind s p (behind s p)
  unfolding behind
  behind_is zero = record { before = omega arith; opens = inl refl; last = λ j x y. absurd (omega arith) }
  behind_is (suc p) =
      let w = behind_is p in
      ways (Behind s (suc p)) (lone_cr s p)
      (λ e. record { before = omega arith; opens = inr (omega arith, rw sub-one e); last = λ j x y. absurd (omega arith) })
      (λ e.
      record {
        before = omega (arith, w.before);
        opens = w.opens;
        last = λ j x y. ⊎_elim (λ (z : j ≡ p). ap (lone_cr s) z ∙ e) (λ (z : j < p). w.last j x z) (eq-or-lt_of_le {n = j} {m = p} (omega arith));
      })
