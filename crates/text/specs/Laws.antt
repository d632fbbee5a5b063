-- What a caller may know of the definitions of `Text`, whatever their text. No caller unfolds a search.
-- Rests on the steps of `Steps`; the search by induction on how far there is to go.
use Rattle.std.specs.Prelude.{Option, Some, None, ◌≡◌, refl, Bool, true, false, ◌&&◌, length, get_or, drop, if◌then◌else◌}
use Rattle.std.proofs.Math.Path.{sym, ap}
use Rattle.std.proofs.Common.{◌∙◌, ⊎_elim, add-one, sub-one, add-zero, zero-add, not-suc-le-zero, le_of_suc-le-suc, eq-or-lt_of_le, take-append-drop, take_all, drop-cons, length-take-le, drop-drop, get_or-drop}
use Rattle.std.proofs.Math.Bool.{and-true, and-false, and_assoc}
use mathlib.Core.List.{List, [], ◌∷◌, ◌++◌}
use Prim.Native.Nat.{ℕ, zero, suc, ◌+◌, ◌-◌, ◌≤◌, ◌<◌, min}
use native.Mathlib.Omega.{arith}
use Rattle.std.proofs.Math.ListN.{take, length-drop, get_or-eq_default}
use Rattle.std.proofs.Math.Seq.{take-length}
use Rattle.std.proofs.lemmas.List.{take-append-le, drop-append-le}
use Rattle.std.proofs.Math.Dec.{eqb}
use borrow.Author.Tests.{eq-eqb, ne_eqb, eqb-true, eqb-false, le-leb, lt-leb}
use Rattle.outcome.specs.Laws.{ways}
use Rattle.text.specs.Logic.{false_true, not_true_false, and_both, order}
use Rattle.text.specs.Text.{is_blank, lead, past, keep, trimmed, trimmed_part, begins, stands, search, find_in, part_of, part_at, further}
use Rattle.text.specs.Steps.{stands_past, find_here, find_next, find_end}
use Rattle.text.specs.declared.Blanks.TheVariants.{Trim}
use Rattle.text.specs.declared.Span.{Span}

-- every text begins with itself, and a text as long as s that s begins with is s
pub begins_self : (t : List ℕ) → begins t t ≡ true
unfolding begins
begins_self [] = refl
begins_self (x ∷ t) = rw (eq-eqb x x refl, begins_self t)

pub begins_whole : (t s : List ℕ) → length t ≡ length s → begins t s ≡ true → s ≡ t
unfolding begins
begins_whole [] [] h e = refl
begins_whole [] (y ∷ s) h e = absurd (omega arith)
begins_whole (x ∷ t) [] h e = absurd (omega arith)
begins_whole (x ∷ t) (y ∷ s) h e =
    let w = and_both (eqb y x) (begins t s) e in
    let a = eqb-true y x w.0 in
    let r = begins_whole t s (omega arith) w.1 in
    λ i. a i ∷ r i

-- What a search says. At k: t stands there, k is at or after i, and t stands nowhere between. Nothing: t stands nowhere from i on.
pub record FoundAt (t s : List ℕ) (i k : ℕ) : Type 0 where
  pub after : i ≤ k
  pub here : stands t s k ≡ true
  pub first : (j : ℕ) → i ≤ j → j < k → stands t s j ≡ false

abbrev pub Says : List ℕ → List ℕ → ℕ → Option ℕ → Type 0
Says t s i (Some k) = FoundAt t s i k
Says t s i None = (j : ℕ) → i ≤ j → stands t s j ≡ false

module _ (t s : List ℕ) where
  none_past : (i : ℕ) → length s ≤ i → stands t s i ≡ false → (j : ℕ) → i ≤ j → stands t s j ≡ false
  none_past i h e j g = sym (stands_past t s j (omega arith)) ∙ stands_past t s i h ∙ e

  here_first : (i : ℕ) → stands t s i ≡ true → FoundAt t s i i
  here_first i e = record { after = omega arith; here = e; first = λ j g k. absurd (omega arith) }

  nearer : (i : ℕ) (r : Option ℕ) → stands t s i ≡ false → Says t s (i + 1) r → Says t s i r
  nearer i (Some k) e w =
      record {
        after = omega (arith, w.after);
        here = w.here;
        first = λ j g h. ⊎_elim (λ (q : i ≡ j). ap (stands t s) (sym q) ∙ e) (λ (q : i < j). w.first j (omega arith) h) (eq-or-lt_of_le g);
      }
  nearer i None e w = λ j g. ⊎_elim (λ (q : i ≡ j). ap (stands t s) (sym q) ∙ e) (λ (q : i < j). w j (omega arith)) (eq-or-lt_of_le g)

  at_end : (i : ℕ) → length s ≤ i → (b : Bool) → stands t s i ≡ b → Says t s i (find_in t s i)
  at_end i h true e = rw (find_here t s i e) (here_first i e)
  at_end i h false e = rw (find_end t s i h e) (none_past i h e)

  inside : (i : ℕ) → i < length s → Says t s (i + 1) (find_in t s (i + 1)) → (b : Bool) → stands t s i ≡ b → Says t s i (find_in t s i)
  inside i h w true e = rw (find_here t s i e) (here_first i e)
  inside i h w false e = rw (find_next t s i h e) (nearer i (find_in t s (i + 1)) e w)

  by_distance : (n i : ℕ) → length s ≤ i + n → Says t s i (find_in t s i)
  by_distance zero i h = at_end i (omega arith) (stands t s i) refl
  by_distance (suc n) i h =
      ⊎_elim
      (λ (q : i < length s). inside i q (by_distance n (i + 1) (omega arith)) (stands t s i) refl)
      (λ (q : length s ≤ i). at_end i q (stands t s i) refl)
      (order i (length s))

  -- sound, least and complete in one
  pub find_says : (i : ℕ) → Says t s i (find_in t s i)
  find_says i = by_distance (length s) i (omega arith)

  -- unique: only one answer says so
  pub says_one : (i : ℕ) (r q : Option ℕ) → Says t s i r → Says t s i q → r ≡ q
  says_one i (Some j) (Some k) w v =
      ⊎_elim
      (λ (p : j < k). absurd (false_true w.here (v.first j w.after p)))
      (λ (p : k ≤ j). ⊎_elim (λ (q : k ≡ j). ap Some (sym q)) (λ (q : k < j). absurd (false_true v.here (w.first k v.after q))) (eq-or-lt_of_le p))
      (order j k)
  says_one i (Some j) None w v = absurd (false_true w.here (v j w.after))
  says_one i None (Some k) w v = absurd (false_true v.here (w k v.after))
  says_one i None None w v = refl

  pub find_is : (i : ℕ) (r : Option ℕ) → Says t s i r → find_in t s i ≡ r
  find_is i r w = says_one i (find_in t s i) r (find_says i) w

  -- the same from what a search answered
  pub found_at : (i k : ℕ) → find_in t s i ≡ Some k → FoundAt t s i k
  found_at i k e = rw e at (find_says i)

  pub found_none : (i : ℕ) → find_in t s i ≡ None → (j : ℕ) → i ≤ j → stands t s j ≡ false
  found_none i e = rw e at (find_says i)

-- what stands, fits
pub begins_fits : (t s : List ℕ) → begins t s ≡ true → length t ≤ length s
unfolding begins
begins_fits [] s e = omega arith
begins_fits (x ∷ t) [] e = absurd (false_true e refl)
begins_fits (x ∷ t) (y ∷ s) e = omega (arith, begins_fits t s (and_both (eqb y x) (begins t s) e).1)

pub stands_fits : (t s : List ℕ) (i : ℕ) → 0 < length t → stands t s i ≡ true → i + length t ≤ length s
unfolding stands
stands_fits t s i p e = omega (arith, begins_fits t (drop i s) e, length-drop i s)

-- where there is no room for a text that isn't empty, there is none
pub find_late : (t s : List ℕ) (i : ℕ) → 0 < length t → length s < i + length t → find_in t s i ≡ None
find_late t s i h g = find_is t s i None (λ j w. not_true_false (stands t s j) (λ p. absurd (omega (arith, stands_fits t s j h p))))

pub stands_room : (t s : List ℕ) (i : ℕ) → stands t s i ≡ true → length t ≤ length s
unfolding stands
stands_room t s i e = omega (arith, begins_fits t (drop i s) e, length-drop i s)

pub stands_within : (t s : List ℕ) (i n : ℕ) → i ≤ n → length s ≤ n → stands t s i ≡ true → i + length t ≤ n
stands_within [] s i n h g e = omega arith
stands_within (x ∷ t) s i n h g e = omega (arith, stands_fits (x ∷ t) s i (omega arith) e)

-- the first byte of what stands, and the rest
pub stands_byte : (x : ℕ) (t s : List ℕ) (i : ℕ) → stands (x ∷ t) s i ≡ true → (i < length s) × ((get_or s i 0 ≡ x) × (stands t s (i + 1) ≡ true))
unfolding stands begins
stands_byte x t s i e =
    let h : i < length s = omega (arith, begins_fits (x ∷ t) (drop i s) e, length-drop i s) in
    let q : eqb (get_or s i 0) x && begins t (drop (suc i) s) ≡ true = rw (drop-cons s i 0 h) at e in
    let w = and_both (eqb (get_or s i 0) x) (begins t (drop (suc i) s)) q in
    (h, (eqb-true (get_or s i 0) x w.0, rw add-one w.1))

-- each byte of what stands
pub stands_get_d : (t s : List ℕ) (i j : ℕ) → stands t s i ≡ true → j < length t → get_or s (i + j) 0 ≡ get_or t j 0
stands_get_d [] s i j e h = absurd (not-suc-le-zero h)
stands_get_d (x ∷ t) s i zero e h = rw add-zero (stands_byte x t s i e).1.0
stands_get_d (x ∷ t) s i (suc j) e h =
    let k : i + suc j ≡ i + 1 + j = omega arith in
    ap (λ (n : ℕ). get_or s n 0) k ∙ stands_get_d t s (i + 1) j (stands_byte x t s i e).1.1 (le_of_suc-le-suc h)

-- two texts one after the other; a beginning of what stands, stands
begins_append : (t u s : List ℕ) → begins (t ++ u) s ≡ begins t s && begins u (drop (length t) s)
unfolding begins
begins_append [] u s = refl
begins_append (x ∷ t) u [] = refl
begins_append (x ∷ t) u (y ∷ s) = ap (λ (b : Bool). eqb y x && b) (begins_append t u s) ∙ sym (and_assoc (eqb y x) (begins t s) (begins u (drop (length t) s)))

pub stands_append : (t u s : List ℕ) (i : ℕ) → stands (t ++ u) s i ≡ stands t s i && stands u s (i + length t)
unfolding stands
stands_append t u s i = begins_append t u (drop i s) ∙ ap (λ (l : List ℕ). begins t (drop i s) && begins u l) (drop-drop (length t) i s)

pub stands_front : (t u s : List ℕ) (i : ℕ) → stands (t ++ u) s i ≡ true → stands t s i ≡ true
stands_front t u s i e = (and_both (stands t s i) (stands u s (i + length t)) (sym (stands_append t u s i) ∙ e)).0

-- in a suffix: what stands in the rest, stands in the whole, and its first place moves with the front
pub stands_drop : (t s : List ℕ) (k i : ℕ) → stands t (drop k s) i ≡ stands t s (k + i)
unfolding stands
stands_drop t s k i = rw drop-drop

unfoldable pub moved : ℕ → Option ℕ → Option ℕ
moved d (Some k) = Some (d + k)
moved d None = None

moved_here : (d i : ℕ) (b : Bool) (r q : Option ℕ) → r ≡ moved d q → (if b then Some (d + i) else r) ≡ moved d (if b then Some i else q)
unfolding moved
moved_here d i true r q e = refl
moved_here d i false r q e = e

search_moved : (t s : List ℕ) (d i : ℕ) → search t s (d + i) ≡ moved d (search t s i)
unfolding search
search_moved t [] d i = moved_here d i (begins t []) None None (unfold moved in refl)
search_moved t (x ∷ s) d i =
    let e : suc (d + i) ≡ d + suc i = omega arith in
    moved_here d i (begins t (x ∷ s)) (search t s (suc (d + i))) (search t s (suc i)) (ap (search t s) e ∙ search_moved t s d (suc i))

pub find_drop : (t s : List ℕ) (d i : ℕ) → find_in t s (d + i) ≡ moved d (find_in t (drop d s) i)
unfolding find_in
find_drop t s d i = ap (λ (l : List ℕ). search t l (d + i)) (sym (drop-drop i d s)) ∙ search_moved t (drop i (drop d s)) d i

-- under append: what stands within s isn't changed by bytes behind it, nor is the first place
begins_behind : (t s u : List ℕ) → length t ≤ length s → begins t (s ++ u) ≡ begins t s
unfolding begins
begins_behind [] s u h = refl
begins_behind (x ∷ t) [] u h = absurd (omega arith)
begins_behind (x ∷ t) (y ∷ s) u h = ap (λ (b : Bool). eqb y x && b) (begins_behind t s u (le_of_suc-le-suc h))

pub stands_behind : (t s u : List ℕ) (i : ℕ) → i + length t ≤ length s → stands t (s ++ u) i ≡ stands t s i
unfolding stands
stands_behind t s u i h = rw (drop-append-le i s u (omega arith)) (begins_behind t (drop i s) u (rw length-drop (omega arith)))

pub find_behind : (t s u : List ℕ) (i k : ℕ) → k + length t ≤ length s → find_in t s i ≡ Some k → find_in t (s ++ u) i ≡ Some k
find_behind t s u i k h e =
    let w = found_at t s i k e in
    find_is t (s ++ u) i (Some k)
    (record {
      after = w.after;
      here = stands_behind t s u k h ∙ w.here;
      first = λ j g l. stands_behind t s u j (omega arith) ∙ w.first j g l;
    })

-- of two texts equally long, each begins with the other or neither does
eqb_flip : (a b : ℕ) → eqb a b ≡ eqb b a
eqb_flip a b = go (eqb a b) refl
  where
    go : (c : Bool) → eqb a b ≡ c → eqb a b ≡ eqb b a
    go true e = e ∙ sym (eq-eqb b a (sym (eqb-true a b e)))
    go false e = e ∙ sym (ne_eqb b a (λ q. eqb-false a b e (sym q)))

pub begins_flip : (t s : List ℕ) → length t ≡ length s → begins t s ≡ begins s t
unfolding begins
begins_flip [] [] h = refl
begins_flip [] (y ∷ s) h = absurd (omega arith)
begins_flip (x ∷ t) [] h = absurd (omega arith)
begins_flip (x ∷ t) (y ∷ s) h = rw (eqb_flip y x, begins_flip t s (omega arith))

-- blanks
-- past the end a list reads as 0
pub zero_past : (s : List ℕ) (i : ℕ) → length s ≤ i → 0 ≡ get_or s i 0
zero_past s i h = sym (get_or-eq_default s 0 {n = i} h)

pub lead_le : (f : ℕ → Bool) (s : List ℕ) → lead f s ≤ length s
unfolding lead
lead_le f [] = omega arith
lead_le f (x ∷ s) = ways (λ n. n ≤ suc (length s)) (f x) (λ e. omega (arith, lead_le f s)) (λ e. omega arith)

lead_pass : (f : ℕ → Bool) (x : ℕ) (s : List ℕ) (b : Bool) → f x ≡ b → (p : ℕ) → p < (if b then suc (lead f s) else zero) → ((q : ℕ) → q < lead f s → f (get_or s q 0) ≡ true) → f (get_or (x ∷ s) p 0) ≡ true
lead_pass f x s true e zero h g = e
lead_pass f x s true e (suc p) h g = g p (le_of_suc-le-suc h)
lead_pass f x s false e p h g = absurd (not-suc-le-zero h)

-- what is passed over passes the test, and the byte where it stops doesn't
pub lead_passes : (f : ℕ → Bool) (s : List ℕ) (p : ℕ) → p < lead f s → f (get_or s p 0) ≡ true
unfolding lead
lead_passes f [] p h = absurd (not-suc-le-zero h)
lead_passes f (x ∷ s) p h = lead_pass f x s (f x) refl p h (lead_passes f s)

pub past_bounds : (f : ℕ → Bool) (s : List ℕ) (i : ℕ) → (i ≤ past f s i) × (i ≤ length s → past f s i ≤ length s)
unfolding past
past_bounds f s i = (omega arith, λ h. omega (arith, lead_le f (drop i s), length-drop i s))

pub past_drop : (f : ℕ → Bool) (s : List ℕ) (d i : ℕ) → past f s (d + i) ≡ d + past f (drop d s) i
unfolding past
past_drop f s d i = rw (drop-drop i d s) (omega arith)

lead_stop : (f : ℕ → Bool) (x : ℕ) (s : List ℕ) (b : Bool) → f x ≡ b → (lead f s < length s → f (get_or s (lead f s) 0) ≡ false) → (if b then suc (lead f s) else zero) < suc (length s) → f (get_or (x ∷ s) (if b then suc (lead f s) else zero) 0) ≡ false
lead_stop f x s true e g h = g (le_of_suc-le-suc h)
lead_stop f x s false e g h = e

lead_stops : (f : ℕ → Bool) (s : List ℕ) → lead f s < length s → f (get_or s (lead f s) 0) ≡ false
unfolding lead
lead_stops f [] h = absurd (not-suc-le-zero h)
lead_stops f (x ∷ s) h = lead_stop f x s (f x) refl (lead_stops f s) h

module _ (f : ℕ → Bool) (s : List ℕ) (i : ℕ) where
  pub past_passes : (j : ℕ) → i ≤ j → j < past f s i → f (get_or s j 0) ≡ true
  unfolding past
  past_passes j h g =
      let e : i + (j - i) ≡ j = omega arith in
      ap (λ (n : ℕ). f (get_or s n 0)) (sym e) ∙ ap f (sym (get_or-drop i s (j - i) 0)) ∙ lead_passes f (drop i s) (j - i) (omega arith)

  pub past_stops : past f s i < length s → f (get_or s (past f s i) 0) ≡ false
  unfolding past
  past_stops h = ap f (sym (get_or-drop i s (lead f (drop i s)) 0)) ∙ lead_stops f (drop i s) (rw length-drop (omega arith))

  -- the one place that all before it pass and that doesn't pass itself
  pub past_is : (k : ℕ) → i ≤ k → k ≤ length s → ((j : ℕ) → i ≤ j → j < k → f (get_or s j 0) ≡ true) → (k < length s → f (get_or s k 0) ≡ false) → past f s i ≡ k
  past_is k h g a b =
      let w = past_bounds f s i in
      ⊎_elim
      (λ (q : past f s i < k). absurd (false_true (a (past f s i) w.0 q) (past_stops (omega arith))))
      (λ (q : k ≤ past f s i). ⊎_elim (λ (e : k ≡ past f s i). sym e) (λ (e : k < past f s i). absurd (false_true (past_passes k h e) (b (omega (arith, w.1 (omega arith)))))) (eq-or-lt_of_le q))
      (order (past f s i) k)

module _ (f : ℕ → Bool) (x : ℕ) (s : List ℕ) (n : ℕ) where
  keep_pass : (c : Bool) → f x && eqb n 0 ≡ c → ((q : ℕ) → n ≤ q → q < length s → f (get_or s q 0) ≡ true) → (p : ℕ) → (if c then zero else suc n) ≤ p → p < suc (length s) → f (get_or (x ∷ s) p 0) ≡ true
  keep_pass true e g zero h l = (and_both (f x) (eqb n 0) e).0
  keep_pass true e g (suc p) h l = g p (omega (arith, eqb-true n 0 (and_both (f x) (eqb n 0) e).1)) (le_of_suc-le-suc l)
  keep_pass false e g zero h l = absurd (omega arith)
  keep_pass false e g (suc p) h l = g p (omega arith) (le_of_suc-le-suc l)

keep_stop_at : (f : ℕ → Bool) (x : ℕ) (s : List ℕ) (n : ℕ) (c : Bool) → f x && eqb n 0 ≡ c → (0 < n → f (get_or s (n - 1) 0) ≡ false) → 0 < (if c then zero else suc n) → f (get_or (x ∷ s) ((if c then zero else suc n) - 1) 0) ≡ false
keep_stop_at f x s n true e g h = absurd (omega arith)
keep_stop_at f x s zero false e g h = sym (and-true (f x)) ∙ e
keep_stop_at f x s (suc n) false e g h = rw sub-one (rw sub-one at (g (omega arith)))

-- what is left off passes the test, and the last byte kept doesn't
pub keep_passes : (f : ℕ → Bool) (s : List ℕ) (j : ℕ) → keep f s ≤ j → j < length s → f (get_or s j 0) ≡ true
unfolding keep
keep_passes f [] j h g = absurd (not-suc-le-zero g)
keep_passes f (x ∷ s) j h g = keep_pass f x s (keep f s) (f x && eqb (keep f s) 0) refl (keep_passes f s) j h g

pub keep_stops : (f : ℕ → Bool) (s : List ℕ) → 0 < keep f s → f (get_or s (keep f s - 1) 0) ≡ false
unfolding keep
keep_stops f [] h = absurd (not-suc-le-zero h)
keep_stops f (x ∷ s) h = keep_stop_at f x s (keep f s) (f x && eqb (keep f s) 0) refl (keep_stops f s) h

pub keep_le : (f : ℕ → Bool) (s : List ℕ) → keep f s ≤ length s
unfolding keep
keep_le f [] = omega arith
keep_le f (x ∷ s) = ways (λ n. n ≤ suc (length s)) (f x && eqb (keep f s) 0) (λ e. omega arith) (λ e. omega (arith, keep_le f s))

pub keep_is : (f : ℕ → Bool) (s : List ℕ) (n : ℕ) → 0 < n → n ≤ length s → f (get_or s (n - 1) 0) ≡ false → ((j : ℕ) → n ≤ j → j < length s → f (get_or s j 0) ≡ true) → keep f s ≡ n
keep_is f s n h g b a =
    ⊎_elim
    (λ (q : keep f s < n). absurd (false_true (keep_passes f s (n - 1) (omega arith) (omega arith)) b))
    (λ (q : n ≤ keep f s). ⊎_elim (λ (e : n ≡ keep f s). sym e) (λ (e : n < keep f s). absurd (false_true (a (keep f s - 1) (omega arith) (omega (arith, keep_le f s))) (keep_stops f s (omega arith)))) (eq-or-lt_of_le q))
    (order (keep f s) n)

pub trimmed_fits : (f : ℕ → Bool) (s : List ℕ) → (trimmed f s).start + (trimmed f s).len ≤ length s
unfolding trimmed
trimmed_fits f s = omega (arith, lead_le f s, keep_le f (drop (lead f s) s), length-drop (lead f s) s)

-- parts: what `&s[a..]` holds, and how long `&s[e..k]` is
pub rest : (s : List ℕ) (a : ℕ) → take (length s - a) (drop a s) ≡ drop a s
rest s a = take_all (length s - a) (drop a s) (rw length-drop (omega arith))

pub length_part : (s : List ℕ) (e k : ℕ) → e ≤ k → k ≤ length s → length (take (k - e) (drop e s)) ≡ k - e
length_part s e k h g = length-take-le (k - e) (drop e s) (rw length-drop (omega arith))

pub part_none : (s : List ℕ) (p len : ℕ) → length s < p + len → [] ≡ part_of s p len
unfolding part_of
part_none s p len h = rw (lt-leb (p + len) (length s) h)

pub part_is : (s : List ℕ) (p len : ℕ) → p + len ≤ length s → take len (drop p s) ≡ part_of s p len
unfolding part_of
part_is s p len h = rw (le-leb (p + len) (length s) h)

-- a part of the first n bytes is the part of all
pub part_take : (s : List ℕ) (n p len : ℕ) → p + len ≤ n → n ≤ length s → part_of (take n s) p len ≡ part_of s p len
part_take s n p len h g =
    let l : length (take n s) ≡ n = length-take-le n s g in
    sym (part_is (take n s) p len (omega arith))
    ∙ sym (take-append-le len (drop p (take n s)) (drop n s) (rw length-drop (omega arith)))
    ∙ ap (take len) (sym (drop-append-le p (take n s) (drop n s) (omega arith)))
    ∙ ap (λ (x : List ℕ). take len (drop p x)) (take-append-drop n s)
    ∙ part_is s p len (omega arith)

pub part_front : (s : List ℕ) (p len : ℕ) (a : ℕ × ℕ) → length s < p + len → a ≡ further a (part_at s p len)
unfolding part_at
part_front s p len a h = rw (lt-leb (p + len) (length s) h, zero-add)

pub part_on : (s : List ℕ) (p len : ℕ) (a : ℕ × ℕ) → p + len ≤ length s → further a p ≡ further a (part_at s p len)
unfolding part_at
part_on s p len a h = rw (le-leb (p + len) (length s) h)

pub trim_is : (f : ℕ → Bool) (s : List ℕ) (a n : ℕ) → a ≡ past f s 0 → n ≡ keep f (take (length s - a) (drop a s)) → ◌≡◌ {A = Span} (record { start = a; len = n }) (trimmed f s)
unfolding trimmed past
trim_is f s a n p q =
    let l : a ≡ lead f s = p ∙ omega arith in
    let e : n ≡ keep f (drop (lead f s) s) = q ∙ ap (keep f) (rest s a) ∙ ap (λ (k : ℕ). keep f (drop k s)) l in
    λ i. record { start = l i; len = e i }

-- a part up to a place past the end, e being what of it lies in s
module _ (s : List ℕ) (i k e : ℕ) (h : e ≡ min k (length s)) where
  part_upto : take (e - i) (drop i s) ≡ take (k - i) (drop i s)
  part_upto =
      ⊎_elim
      (λ (q : length s < k). let z : e ≡ length s = omega arith in ap (λ (n : ℕ). take (n - i) (drop i s)) z ∙ rest s i ∙ sym (take_all (k - i) (drop i s) (rw length-drop (omega arith))))
      (λ (q : k ≤ length s). let z : e ≡ k = omega arith in ap (λ (n : ℕ). take (n - i) (drop i s)) z)
      (order (length s) k)

  pub trimmed_none : e < i → ◌≡◌ {A = Span} (record { start = i; len = 0 }) (trimmed_part s i k)
  unfolding trimmed_part trimmed lead keep
  trimmed_none g =
      let z : e - i ≡ 0 = omega arith in
      let n : take (k - i) (drop i s) ≡ [] = sym part_upto ∙ ap (λ (m : ℕ). take m (drop i s)) z in
      rw (n, add-zero)

  pub trimmed_is : (t : Span) → t ≡ trimmed (is_blank Trim) (take (e - i) (drop i s)) → ◌≡◌ {A = Span} (record { start = i + t.start; len = t.len }) (trimmed_part s i k)
  unfolding trimmed_part
  trimmed_is t p = ap (λ (x : Span). record { start = i + x.start; len = x.len }) (p ∙ ap (trimmed (is_blank Trim)) part_upto)

-- what is trimmed lies between its ends
pub trim_room : (s : List ℕ) (i k : ℕ) → i ≤ k → k ≤ length s → (t : Span) → t ≡ trimmed (is_blank Trim) (take (k - i) (drop i s)) → i + t.start + t.len ≤ k
trim_room s i k h g t p =
    let w : t.start + t.len ≤ length (take (k - i) (drop i s)) = rw p (trimmed_fits (is_blank Trim) (take (k - i) (drop i s))) in
    omega (arith, w, length_part s i k h g)

pub trimmed_room : (s : List ℕ) (i k : ℕ) → i ≤ k → k ≤ length s → (trimmed_part s i k).start + (trimmed_part s i k).len ≤ k
unfolding trimmed_part
trimmed_room s i k h g = trim_room s i k h g (trimmed (is_blank Trim) (take (k - i) (drop i s))) refl

-- the front of b that fits is the front of it, however much was asked for
pub take_fitting : (e n : ℕ) (b : List ℕ) → n ≡ min e (length b) → take n b ≡ take e b
take_fitting e n b h =
    ⊎_elim
    (λ l. let z : n ≡ e = omega arith in ap (λ (k : ℕ). take k b) z)
    (λ l. let z : n ≡ length b = omega arith in ap (λ (k : ℕ). take k b) z ∙ take-length b ∙ sym (take_all e b l))
    (order e (length b))

-- a text that stands nowhere from i up to k is the one sought from k on
module _ (t s : List ℕ) (i k : ℕ) (h : i ≤ k) (none : (j : ℕ) → i ≤ j → j < k → stands t s j ≡ false) where
  says_later : (r : Option ℕ) → Says t s k r → Says t s i r
  says_later (Some p) w =
      record {
        after = omega (arith, w.after);
        here = w.here;
        first = λ j g l. ⊎_elim (λ (q : j < k). none j g q) (λ (q : k ≤ j). w.first j q l) (order j k);
      }
  says_later None w = λ j g. ⊎_elim (λ (q : j < k). none j g q) (λ (q : k ≤ j). w j q) (order j k)

  pub find_later : find_in t s i ≡ find_in t s k
  find_later = find_is t s i (find_in t s k) (says_later (find_in t s k) (find_says t s k))

-- what is kept of two pieces: by what is kept of the second
module _ (f : ℕ → Bool) (t : List ℕ) where
  pub keep_front : (s : List ℕ) → keep f t ≡ 0 → keep f (s ++ t) ≡ keep f s
  unfolding keep
  keep_front [] z = z
  keep_front (x ∷ s) z = ap (λ (n : ℕ). if f x && eqb n 0 then zero else suc n) (keep_front s z)

  pub keep_both : (s : List ℕ) → 0 < keep f t → keep f (s ++ t) ≡ length s + keep f t
  unfolding keep
  keep_both [] h = omega arith
  keep_both (x ∷ s) h = rw (keep_both s h, ne_eqb (length s + keep f t) 0 (λ z. absurd (omega arith)), and-false (f x)) (omega arith)
