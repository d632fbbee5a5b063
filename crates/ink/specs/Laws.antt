-- Laws of texts in lent memory: one behind another, how long they are, and the loops over digits and bytes.
use Rattle.std.specs.Prelude.{◌≡◌, refl, List, [], ◌∷◌, ◌++◌, get_or, set, leb, ltb, if◌then◌else◌}
use Rattle.std.proofs.Math.Path.{sym, ap}
use Rattle.std.proofs.Common.{◌∙◌, inr, append-nil, append_assoc, length-append, length-drop, length-set, take-append-drop, drop_of_length-le, take_all, take-suc, drop-cons, drop-set-lt, get_or-set_same, length-take-le, le-leb, lt-ltb, le-ltb, ltb-false}
use Prim.Native.Nat.{ℕ, zero, suc, ◌+◌, ◌-◌, ◌*◌, ◌/◌, ◌%◌, ◌≤◌, ◌<◌}
use native.Mathlib.Omega.{arith}
use Rattle.std.proofs.Math.ListN.{length, take, drop}
use Rattle.std.proofs.lemmas.Bool.{lt-leb}
use Rattle.outcome.specs.Laws.{ways}
use Rattle.moves.specs.Moves.{put}
use Rattle.moves.specs.Laws.{put_is, put_length, put_held, put_elsewhere}
use Rattle.ink.specs.Ink.{Ink, inked, ink, decimal_by, decimal, hex_digit, hex}

module _ (o : List ℕ) (n : ℕ) (p : List ℕ) where
  pub ink_over : length o < n + length p → inked o n ≡ ink o n p
  unfolding ink
  ink_over h = rw (lt-ltb (length o) (n + length p) h)

  module _ (h : n + length p ≤ length o) where
    pub ink_is : inked (put o n p) (n + length p) ≡ ink o n p
    unfolding ink
    ink_is = rw (le-ltb (length o) (n + length p) h)

    -- where what was inked ends
    pub ink_at : (o' : List ℕ) (n' : ℕ) → inked o' n' ≡ ink o n p → n' ≡ n + length p
    ink_at o' n' e = ap (λ (x : Ink). x.at) (e ∙ sym ink_is)

-- what is inked has one memory and one end
pub ink_one : (x : Ink) (o o' : List ℕ) (n n' : ℕ) → inked o n ≡ x → inked o' n' ≡ x → (n ≡ n') × (o ≡ o')
ink_one x o o' n n' e f = (ap (λ (y : Ink). y.at) (e ∙ sym f), ap (λ (y : Ink). y.out) (e ∙ sym f))

-- what is inked has the memory's length
pub ink_length : (o : List ℕ) (n : ℕ) (p o' : List ℕ) (n' : ℕ) → inked o' n' ≡ ink o n p → length o' ≡ length o
unfolding ink
ink_length o n p o' n' e = ap (λ (x : Ink). length x.out) e ∙ ways (λ (x : Ink). length x.out ≡ length o) (ltb (length o) (n + length p)) (λ q. refl) (λ q. put_length o n p)

-- memory that a page held, handed back
pub handed_back : (o o' : List ℕ) (n : ℕ) (x : Ink) → o' ≡ o → inked o n ≡ x → inked o' n ≡ x
handed_back o o' n x e f = ap (λ (y : List ℕ). inked y n) e ∙ f

-- no text
put_nil : (o : List ℕ) (n : ℕ) → n ≤ length o → o ≡ put o n []
put_nil o n h =
    let e : n ≡ n + 0 = omega arith in
    sym (ap (λ (l : List ℕ). l ++ drop (n + 0) o) (append-nil (take n o)) ∙ ap (λ (k : ℕ). take n o ++ drop k o) (sym e) ∙ take-append-drop n o) ∙ put_is o n [] (omega arith)

pub ink_none : (o : List ℕ) (n : ℕ) → inked o n ≡ ink o n []
unfolding ink
ink_none o n =
    ways (λ (r : Ink). inked o n ≡ r) (ltb (length o) (n + 0)) (λ q. refl) (λ q.
    let e : n ≡ n + 0 = omega arith in
    let p = put_nil o n (omega (arith, ltb-false (length o) (n + 0) q)) in
    λ i. inked (p i) (e i))

-- one text behind another
put_put : (o : List ℕ) (n : ℕ) (p q : List ℕ) → n + length p + length q ≤ length o → put (put o n p) (n + length p) q ≡ put o n (p ++ q)
put_put o n p q h =
    let l = put_length o n p in
    let a = length-append p q in
    let d : drop (n + length p + length q) (put o n p) ≡ drop (n + length p + length q) o =
    sym (take_all (length o) (drop (n + length p + length q) (put o n p)) (rw length-drop (omega arith)))
    ∙ put_elsewhere o n p (n + length p + length q) (length o) (inr (omega arith))
    ∙ take_all (length o) (drop (n + length p + length q) o) (rw length-drop (omega arith)) in
    let k : n + length p + length q ≡ n + length (p ++ q) = omega arith in
    sym (put_is (put o n p) (n + length p) q (omega arith))
    ∙ (λ i. put_held o n p (omega arith) i ++ q ++ d i)
    ∙ ap (λ (x : ℕ). take n o ++ p ++ q ++ drop x o) k
    ∙ ap (λ (x : List ℕ). x ++ drop (n + length (p ++ q)) o) (append_assoc (take n o) p q)
    ∙ put_is o n (p ++ q) (omega arith)

-- what is inked behind what was inked
pub then_ink : (o : List ℕ) (n : ℕ) (p q o' : List ℕ) (n' : ℕ) (r : Ink) → inked o' n' ≡ ink o n p → r ≡ ink o' n' q → n + length p + length q ≤ length o → r ≡ ink o n (p ++ q)
then_ink o n p q o' n' r e f h =
    let k : n + length p + length q ≡ n + length (p ++ q) = omega (arith, length-append p q) in
    let l = put_length o n p in
    f
    ∙ ap (λ (x : Ink). ink x.out x.at q) (e ∙ sym (ink_is o n p (omega arith)))
    ∙ sym (ink_is (put o n p) (n + length p) q (omega arith))
    ∙ (λ i. inked (put_put o n p q h i) (k i))
    ∙ ink_is o n (p ++ q) (omega arith)

pub same_text : (r : Ink) (o : List ℕ) (n : ℕ) (p q : List ℕ) → r ≡ ink o n p → p ≡ q → r ≡ ink o n q
same_text r o n p q e f = e ∙ ap (ink o n) f

-- how long the texts are
decimal_by_length : (f n : ℕ) → length (decimal_by f n) ≤ f
unfolding decimal_by
decimal_by_length zero n = omega arith
decimal_by_length (suc f) n =
    ways (λ r. length (r ++ ((48 + n % 10) ∷ [])) ≤ suc f) (leb 1 (n / 10)) (λ q. let h = decimal_by_length f (n / 10) in rw length-append (omega arith)) (λ q. omega arith)

pub decimal_length : (n : ℕ) → length (decimal n) ≤ 20
unfolding decimal
decimal_length n = decimal_by_length 20 n

pub hex_length : (p : List ℕ) → length (hex p) ≡ 2 * length p
unfolding hex
hex_length [] = refl
hex_length (b ∷ p) = let e = hex_length p in omega arith

-- the digits: what is to be written of n is what is to be written of m, before the digits that stand from k on
pub record Counting (n : ℕ) (d : List ℕ) (k m : ℕ) : Type 0 where
  pub same : decimal n ≡ decimal_by k m ++ drop k d
  pub long : length d ≡ 20

drop_set : (d : List ℕ) (k x : ℕ) → k < length d → drop k (set d k x) ≡ x ∷ drop (k + 1) d
drop_set d k x h =
    let l : k < length (set d k x) = rw length-set h in
    let e : suc k ≡ k + 1 = omega arith in
    drop-cons (set d k x) k 0 l ∙ (λ i. get_or-set_same d k x 0 h i ∷ drop-set-lt (suc k) d k x (omega arith) i) ∙ ap (λ (j : ℕ). x ∷ drop j d) e

pub digits_start : (n : ℕ) (d : List ℕ) → length d ≡ 20 → Counting n d 20 n
unfolding decimal
digits_start n d h =
    record { same = sym (append-nil (decimal_by 20 n)) ∙ ap (λ (y : List ℕ). decimal_by 20 n ++ y) (sym (drop_of_length-le d {i = 20} (omega arith))); long = h }

-- one digit more before those that stand, the last one where nothing is left
module _ (n : ℕ) (d : List ℕ) (k m : ℕ) (c : Counting n d k m) (l : 0 < k) (h : k ≤ 20) where
  at_digit : decimal n ≡ (if leb 1 (m / 10) then decimal_by (k - 1) (m / 10) else []) ++ drop (k - 1) (set d (k - 1) (48 + m % 10))
  unfolding decimal_by
  at_digit =
      let e : k ≡ suc (k - 1) = omega arith in
      let f : k - 1 + 1 ≡ k = omega arith in
      c.same ∙ ap (λ (j : ℕ). decimal_by j m ++ drop k d) e ∙ append_assoc _ ((48 + m % 10) ∷ []) (drop k d)
      ∙ ap (λ (y : List ℕ). (if leb 1 (m / 10) then decimal_by (k - 1) (m / 10) else []) ++ y) (sym (drop_set d (k - 1) (48 + m % 10) (omega (arith, c.long)) ∙ ap (λ (j : ℕ). (48 + m % 10) ∷ drop j d) f))

  pub digit_last : m / 10 ≡ 0 → drop (k - 1) (set d (k - 1) (48 + m % 10)) ≡ decimal n
  digit_last z = sym (at_digit ∙ rw (lt-leb 1 (m / 10) (omega arith)))

  pub digit_more : (m / 10 ≡ 0 → ⊥) → Counting n (set d (k - 1) (48 + m % 10)) (k - 1) (m / 10)
  digit_more z = record { same = at_digit ∙ rw (le-leb 1 (m / 10) (omega arith)); long = rw length-set c.long }

pub digits_end : (n : ℕ) (d : List ℕ) (m : ℕ) → Counting n d 0 m → d ≡ decimal n
unfolding decimal_by
digits_end n d m c = sym c.same

pub digits_text : (d : List ℕ) (k n : ℕ) → length d ≡ 20 → drop k d ≡ decimal n → take (20 - k) (drop k d) ≡ decimal n
digits_text d k n l e = take_all (20 - k) (drop k d) (rw length-drop (omega arith)) ∙ e

-- hexadecimal: one byte more
hex_append : (p q : List ℕ) → hex (p ++ q) ≡ hex p ++ hex q
unfolding hex
hex_append [] q = refl
hex_append (b ∷ p) q = ap (λ (r : List ℕ). hex_digit (b / 16) ∷ hex_digit (b % 16) ∷ r) (hex_append p q)

pub hex_over : (p o : List ℕ) (at : ℕ) → length o < at + 2 * length p → inked o at ≡ ink o at (hex p)
hex_over p o at h = ink_over o at (hex p) (omega (arith, hex_length p))

pub hex_start : (p o : List ℕ) (at : ℕ) → inked o at ≡ ink o at (hex (take 0 p))
unfolding hex
hex_start p o at = ink_none o at

pub hex_more : (p o₀ : List ℕ) (at : ℕ) (o : List ℕ) (i n : ℕ) → inked o n ≡ ink o₀ at (hex (take i p)) → at + 2 * length p ≤ length o₀ → i < length p → (x y : ℕ) → x ≡ hex_digit (get_or p i 0 / 16) → y ≡ hex_digit (get_or p i 0 % 16) → (o' : List ℕ) (n' : ℕ) → inked o' n' ≡ ink o n (x ∷ y ∷ []) → inked o' n' ≡ ink o₀ at (hex (take (i + 1) p))
unfolding hex
hex_more p o₀ at o i n same room h x y u v o' n' e =
    let s : suc i ≡ i + 1 = omega arith in
    let l : length (hex (take i p)) ≡ 2 * i = omega (arith, hex_length (take i p), length-take-le i p (omega arith)) in
    let t : hex (take i p) ++ (x ∷ y ∷ []) ≡ hex (take (i + 1) p) =
    (λ k. hex (take i p) ++ (u k ∷ v k ∷ [])) ∙ sym (hex_append (take i p) (get_or p i 0 ∷ [])) ∙ ap hex (sym (take-suc p i 0 h) ∙ ap (λ (k : ℕ). take k p) s) in
    then_ink o₀ at (hex (take i p)) (x ∷ y ∷ []) o n (inked o' n') same e (omega (arith, l, room)) ∙ ap (ink o₀ at) t
