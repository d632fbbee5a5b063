-- The table's rule, proved once over all of its entries by a test that is computed. Rests on the definitions alone.
use Rattle.std.specs.Prelude.{◌≡◌, Bool, true, false, ◌&&◌, ◌||◌, ℕ, suc, ◌<◌, ◌≤◌, length, take, drop, replicate, eqb, ltb, if◌then◌else◌}
use Rattle.std.proofs.Math.Path.{refl}
use Rattle.std.proofs.Common.{sym, ap, ap₂, ◌∙◌, ⊎_elim, le_of_suc-le-suc, arith, eqb-true, ltb-true}
use mathlib.Core.List.{List, [], ◌∷◌, ◌++◌}
use Rattle.std.proofs.Math.ListN.{get_or, get_or-append}
use Rattle.outcome.specs.Laws.{ways}
use Rattle.text.specs.Logic.{false_true, not_true_false, and_both, order}
use Rattle.scan.specs.Words.{opens, is_open, longest_of, longest, texts, words, word}
use Rattle.scan.specs.Table.{used, classes, place_in, class_of, table, next}
use Rattle.scan.specs.Every.{or_both, every, every_join, at, same, same_is}

-- every text begins with CR, so that an end of w is asked about only where it does
unfoldable quick : List (List ℕ) → List ℕ → List ℕ
quick ts [] = []
quick ts (x ∷ w) =
    let r = quick ts w in
    let o = is_open ts (x ∷ w) in
    if eqb x 13 && o then x ∷ w else r

only_cr : (x : ℕ) (w : List ℕ) (b : Bool) → eqb x 13 ≡ b → b && is_open texts (x ∷ w) ≡ is_open texts (x ∷ w)
unfolding is_open opens texts
only_cr x w true e = refl
only_cr x w false e = rw e

quick_is : (w : List ℕ) → quick texts w ≡ longest w
unfolding quick longest_of
quick_is [] = refl
quick_is (x ∷ w) = ap₂ (λ (b : Bool) (r : List ℕ). if b then x ∷ w else r) (only_cr x w (eqb x 13) refl) (quick_is w)

-- is the entry x of the class c, in the row of the beginning w, the state of the longest beginning still open?
unfoldable right : List (List ℕ) → List (List ℕ) → List ℕ → List ℕ → ℕ → ℕ → Bool
right ts ws cs w c x =
    let r = same (get_or ws x []) (quick ts (w ++ (get_or cs c 0 ∷ []))) in
    ltb x 98 && r

unfoldable right_row : List (List ℕ) → List (List ℕ) → List ℕ → ℕ → List ℕ → Bool
right_row ts ws cs q row =
    let r = every (right ts ws cs (get_or ws q [])) 0 row in
    eqb (length row) 32 && r

-- in two halves, which takes less memory
first_half : every (right_row texts words classes) 0 (take 49 table) ≡ true
unfolding every right_row right same quick is_open opens classes table words texts
first_half = refl

second_half : every (right_row texts words classes) 49 (drop 49 table) ≡ true
unfolding every right_row right same quick is_open opens classes table words texts
second_half = refl

all_right : every (right_row texts words classes) 0 table ≡ true
all_right = every_join (right_row texts words classes) 0 49 table first_half second_half

table_long : length table ≡ 98
unfolding table
table_long = refl

module _ (q : ℕ) (h : q < 98) where
  row_right : (eqb (length (get_or table q [])) 32 ≡ true) × (every (right texts words classes (word q)) 0 (get_or table q []) ≡ true)
  unfolding right_row
  row_right =
      let row = get_or table q [] in
      and_both (eqb (length row) 32) (every (right texts words classes (word q)) 0 row) (at (right_row texts words classes) [] table all_right q (rw table_long h))

  row_long : length (get_or table q []) ≡ 32
  row_long = eqb-true (length (get_or table q [])) 32 row_right.0

  module _ (c : ℕ) (g : c < 32) where
    entry_right : (get_or (get_or table q []) c 0 < 98) × (word (get_or (get_or table q []) c 0) ≡ quick texts (word q ++ (get_or classes c 0 ∷ [])))
    unfolding right
    entry_right =
        let x = get_or (get_or table q []) c 0 in
        let w = and_both (ltb x 98) (same (word x) (quick texts (word q ++ (get_or classes c 0 ∷ [])))) (at (right texts words classes (word q)) 0 (get_or table q []) row_right.1 c (rw row_long g)) in
        (ltb-true x 98 w.0, same_is (word x) (quick texts (word q ++ (get_or classes c 0 ∷ []))) w.1)

    entry : word (get_or (get_or table q []) c 0) ≡ longest (word q ++ (get_or classes c 0 ∷ []))
    entry = entry_right.1 ∙ quick_is (word q ++ (get_or classes c 0 ∷ []))

-- the classes: a byte's own is its place among the bytes that the texts have
place_le : (l : List ℕ) (b : ℕ) → place_in l b ≤ length l
unfolding place_in
place_le [] b = omega arith
place_le (x ∷ l) b = ways (λ n. n ≤ suc (length l)) (eqb b x) (λ e. omega arith) (λ e. omega (arith, place_le l b))

place_at : (l : List ℕ) (b : ℕ) → place_in l b < length l → get_or l (place_in l b) 0 ≡ b
unfolding place_in
place_at [] b h = absurd (omega arith)
place_at (x ∷ l) b h = go (eqb b x) refl h (place_at l b)
  where
    go : (c : Bool) → eqb b x ≡ c → (if c then 0 else suc (place_in l b)) < suc (length l) → (place_in l b < length l → get_or l (place_in l b) 0 ≡ b) → get_or (x ∷ l) (if c then 0 else suc (place_in l b)) 0 ≡ b
    go true e g r = sym (eqb-true b x e)
    go false e g r = r (le_of_suc-le-suc g)

pub class_below : (b : ℕ) → class_of b < 32
unfolding class_of used
class_below b = omega (arith, place_le used b)

class_byte : (b : ℕ) → class_of b < 23 → get_or classes (class_of b) 0 ≡ b
unfolding class_of classes used
class_byte b h = get_or-append used (replicate 9 0) 0 (place_in used b) h ∙ place_at used b h

class_other : (b : ℕ) → 23 ≤ class_of b → class_of b ≡ 23
unfolding class_of used
class_other b h = omega (arith, place_le used b)

-- each byte of each text has a class of its own, so that after another byte no text is open
unfoldable own : ℕ → ℕ → Bool
own j x = ltb (class_of x) 23

unfoldable all_own : ℕ → List ℕ → Bool
all_own k t = every own 0 t

texts_own : every all_own 0 texts ≡ true
unfolding every all_own own class_of used texts
texts_own = refl

opens_own : (w t : List ℕ) (i b : ℕ) → every own i t ≡ true → opens (w ++ (b ∷ [])) t ≡ true → class_of b < 23
unfolding every own opens
opens_own [] [] i b k e = absurd (false_true e refl)
opens_own [] (y ∷ t) i b k e =
    let q : b ≡ y = eqb-true b y (and_both (eqb b y) (opens [] t) e).0 in
    rw q (ltb-true (class_of y) 23 (and_both (own i y) (every own (suc i) t) k).0)
opens_own (x ∷ w) [] i b k e = absurd (false_true e refl)
opens_own (x ∷ w) (y ∷ t) i b k e =
    opens_own w t (suc i) b (and_both (own i y) (every own (suc i) t) k).1 (and_both (eqb x y) (opens (w ++ (b ∷ [])) t) e).1

open_own : (ts : List (List ℕ)) (i : ℕ) (w : List ℕ) (b : ℕ) → every all_own i ts ≡ true → is_open ts (w ++ (b ∷ [])) ≡ true → class_of b < 23
unfolding every all_own is_open
open_own [] i w b k e = absurd (false_true e refl)
open_own (t ∷ ts) i w b k e =
    let z = and_both (all_own i t) (every all_own (suc i) ts) k in
    ⊎_elim
    (λ (q : opens (w ++ (b ∷ [])) t ≡ true). opens_own w t 0 b z.0 q)
    (λ (q : is_open ts (w ++ (b ∷ [])) ≡ true). open_own ts (suc i) w b z.1 q)
    (or_both (opens (w ++ (b ∷ [])) t) (is_open ts (w ++ (b ∷ []))) e)

other_none : (w : List ℕ) (b : ℕ) → class_of b ≡ 23 → longest (w ++ (b ∷ [])) ≡ []
unfolding longest_of
other_none w b e = go w
  where
    shut : (v : List ℕ) → is_open texts (v ++ (b ∷ [])) ≡ false
    shut v = not_true_false (is_open texts (v ++ (b ∷ []))) (λ q. absurd (omega (arith, open_own texts 0 v b texts_own q)))

    go : (v : List ℕ) → longest (v ++ (b ∷ [])) ≡ []
    go [] = rw (shut [])
    go (x ∷ v) = rw (shut (x ∷ v)) (go v)

-- THE RULE: each entry is the longest beginning of any line still open in which the word so far and the byte end
pub rule : (q b : ℕ) → q < 98 → word (next q b) ≡ longest (word q ++ (b ∷ []))
unfolding next classes
rule q b h =
    entry q h (class_of b) (class_below b)
    ∙ ⊎_elim
    (λ (g : class_of b < 23). ap (λ (x : ℕ). longest (word q ++ (x ∷ []))) (class_byte b g))
    (λ (g : 23 ≤ class_of b). let e = class_other b g in ap (λ (n : ℕ). longest (word q ++ (get_or classes n 0 ∷ []))) e ∙ other_none (word q) 0 zero_other ∙ sym (other_none (word q) b e))
    (order (class_of b) 23)
  where
    zero_other : class_of 0 ≡ 23
    zero_other = unfold class_of used in refl

-- a state follows
pub next_state : (q b : ℕ) → q < 98 → next q b < 98
unfolding next
next_state q b h = (entry_right q h (class_of b) (class_below b)).0

-- in the start state only CR leads anywhere
start_row : every (λ (c x : ℕ). eqb c 0 || eqb x 0) 0 (get_or table 0 []) ≡ true
unfolding every table
start_row = refl

pub start_stays : (b : ℕ) → (b ≡ 13 → ⊥) → next 0 b ≡ 0
unfolding next classes
start_stays b h =
    let c = class_of b in
    let x = get_or (get_or table 0 []) c 0 in
    ⊎_elim
    (λ (q : eqb c 0 ≡ true). let e = eqb-true c 0 q in absurd (h (sym (class_byte b (omega arith)) ∙ ap (λ (n : ℕ). get_or classes n 0) e)))
    (λ (q : eqb x 0 ≡ true). eqb-true x 0 q)
    (or_both (eqb c 0) (eqb x 0) (at (λ (c x : ℕ). eqb c 0 || eqb x 0) 0 (get_or table 0 []) start_row c (rw (row_long 0 (omega arith)) (class_below b))))
