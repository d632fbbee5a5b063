-- How the reading goes on over each form, and that a derivation within the limits is read to its end.
use Rattle.std.specs.Prelude.{◌≡◌, Bool, true, false, get_or, replicate, eqb, leb, ltb, if◌then◌else◌}
use Rattle.std.proofs.Math.Path.{refl, ap}
use Rattle.std.proofs.Common.{sym, ◌∙◌, subst, arith, length-append}
use mathlib.Core.List.{List, [], ◌∷◌, ◌++◌, append_assoc, append-eq-nil_iff, cons-ne-nil}
use Prim.Native.Nat.{ℕ, zero, suc, ◌+◌, ◌*◌, ◌-◌, ◌≤◌, ◌<◌}
use Rattle.std.proofs.Math.ListN.{length}
use Rattle.std.proofs.lemmas.List.{length-replicate}
use borrow.Author.Tests.{le-leb, lt-leb, leb-false, ltb-false}
use Rattle.text.specs.Logic.{and_both}
use Rattle.parser.specs.Parser.{is_digit, value}
use Rattle.pieces.specs.Pieces.{is_char, is_hex, heard}
use Rattle.lists.specs.Grammar.{digits, is_number, Piece, char, escape, Symbol, Derivation, empty, number, range, string, bracket, spaced, one, more, piece_word, word, elements, Over, too_deep, too_large, too_many, over}
use Rattle.lists.specs.Scan.{State, at, start, low, dash, high, done, text, closed, behind, in_string, step, is_dead, rests, final, many, limit, fault_in, told, scan}
use Rattle.lists.specs.Ends.{is_number_lem, number_digits, text_char, text_hex}
use Rattle.lists.specs.Shows.{Follow, comma, close}

-- a number's digits are over where no digit follows
pub value_stops : (a : ℕ) (w x : List ℕ) → digits w ≡ true → is_digit (get_or x 0 0) ≡ false → value a (w ++ x) ≡ value a w
unfolding value digits
value_stops a [] [] e f = refl
value_stops a [] (b ∷ x) e f = rw f
value_stops a (b ∷ w) x e f =
    let h = and_both (is_digit b) (digits w) e in
    rw h.0 (value_stops (a * 10 + (b - 48)) w x h.1 f)

module _ (d n p : ℕ) (x : List ℕ) where
  scan_space : scan (at start d n) p (32 ∷ x) ≡ scan (at start d n) (suc p) x
  unfolding scan fault_in step is_digit is_dead limit told
  scan_space = refl

  pub scan_open : d < 4 → n < 256 → scan (at start d n) p (40 ∷ x) ≡ scan (at start (suc d) (suc n)) (suc p) x
  unfolding scan fault_in step is_digit is_dead limit many told
  scan_open h g = rw (lt-leb 4 d h, lt-leb 256 n g)

  pub scan_quote : n < 256 → scan (at start d n) p (34 ∷ x) ≡ scan (at (text 0) d (suc n)) (suc p) x
  unfolding scan fault_in step is_digit is_dead limit many told
  scan_quote g = rw (lt-leb 256 n g)

  pub scan_comma : scan (at done d n) p (44 ∷ x) ≡ scan (at start d n) (suc p) x
  unfolding scan fault_in step behind is_dead limit told
  scan_comma = refl

  pub scan_close : scan (at done (suc d) n) p (41 ∷ x) ≡ scan (at done d n) (suc p) x
  unfolding scan fault_in step behind closed is_dead limit told
  scan_close = refl

  pub scan_dash : scan (at low d n) p (45 ∷ x) ≡ scan (at dash d n) (suc p) x
  unfolding scan fault_in step is_digit is_dead limit told
  scan_dash = refl

  pub scan_unquote : scan (at (text 0) d n) p (34 ∷ x) ≡ scan (at done d n) (suc p) x
  unfolding scan fault_in step heard is_char in_string is_dead limit told
  scan_unquote = refl

module _ (d n p b : ℕ) (x : List ℕ) (e : is_digit b ≡ true) where
  scan_low : scan (at low d n) p (b ∷ x) ≡ scan (at low d n) (suc p) x
  unfolding scan fault_in step is_dead limit told
  scan_low = rw e

  scan_high : scan (at high d n) p (b ∷ x) ≡ scan (at high d n) (suc p) x
  unfolding scan fault_in step is_dead limit told
  scan_high = rw e

  module _ (h : value 0 (b ∷ x) ≤ 4294967295) where
    scan_digit : n < 256 → scan (at start d n) p (b ∷ x) ≡ scan (at low d (suc n)) (suc p) x
    unfolding scan fault_in step is_dead limit many told
    scan_digit g = rw (e, le-leb (value 0 (b ∷ x)) 4294967295 h, lt-leb 256 n g)

    scan_later : scan (at dash d n) p (b ∷ x) ≡ scan (at high d n) (suc p) x
    unfolding scan fault_in step is_dead limit told
    scan_later = rw (e, le-leb (value 0 (b ∷ x)) 4294967295 h)

-- the place behind one byte more
on_one : (σ : State) (p n : ℕ) (x : List ℕ) → scan σ (suc p + n) x ≡ scan σ (p + suc n) x
on_one σ p n x = ap (λ (q : ℕ). scan σ q x) (omega arith)

on_none : (σ : State) (p : ℕ) (x : List ℕ) → scan σ p x ≡ scan σ (p + 0) x
on_none σ p x = ap (λ (q : ℕ). scan σ q x) (omega arith)

pub scan_spaces : (d n p m : ℕ) (x : List ℕ) → scan (at start d n) p (replicate m 32 ++ x) ≡ scan (at start d n) (p + m) x
scan_spaces d n p zero x = on_none (at start d n) p x
scan_spaces d n p (suc m) x = scan_space d n p (replicate m 32 ++ x) ∙ scan_spaces d n (suc p) m x ∙ on_one (at start d n) p m x

module _ (σ : State) (stays : (p b : ℕ) (x : List ℕ) → is_digit b ≡ true → scan σ p (b ∷ x) ≡ scan σ (suc p) x) where
  scan_digits : (p : ℕ) (w x : List ℕ) → digits w ≡ true → scan σ p (w ++ x) ≡ scan σ (p + length w) x
  unfolding digits
  scan_digits p [] x e = on_none σ p x
  scan_digits p (b ∷ w) x e =
      let h = and_both (is_digit b) (digits w) e in
      stays p b (w ++ x) h.0 ∙ scan_digits (suc p) w x h.1 ∙ on_one σ p (length w) x

module _ (d n p : ℕ) (w x : List ℕ) (e : is_number w ≡ true) (h : value 0 (w ++ x) ≤ 4294967295) where
  pub scan_number : n < 256 → scan (at start d n) p (w ++ x) ≡ scan (at low d (suc n)) (p + length w) x
  scan_number g =
      let k = is_number_lem w e in
      let parts = ap (λ (l : List ℕ). l ++ x) k.parts in
      ap (scan (at start d n) p) parts
      ∙ scan_digit d n p k.first (k.others ++ x) k.digit (subst (λ (l : List ℕ). value 0 l ≤ 4294967295) parts h) g
      ∙ scan_digits (at low d (suc n)) (scan_low d (suc n)) (suc p) k.others x k.rest
      ∙ on_one (at low d (suc n)) p (length k.others) x
      ∙ ap (λ (l : List ℕ). scan (at low d (suc n)) (p + length l) x) (sym k.parts)

  pub scan_second : scan (at dash d n) p (w ++ x) ≡ scan (at high d n) (p + length w) x
  scan_second =
      let k = is_number_lem w e in
      let parts = ap (λ (l : List ℕ). l ++ x) k.parts in
      ap (scan (at dash d n) p) parts
      ∙ scan_later d n p k.first (k.others ++ x) k.digit (subst (λ (l : List ℕ). value 0 l ≤ 4294967295) parts h)
      ∙ scan_digits (at high d n) (scan_high d n) (suc p) k.others x k.rest
      ∙ on_one (at high d n) p (length k.others) x
      ∙ ap (λ (l : List ℕ). scan (at high d n) (p + length l) x) (sym k.parts)

module _ (d n : ℕ) where
  pub scan_char : (p b : ℕ) (x : List ℕ) → is_char b ≡ true → scan (at (text 0) d n) p (b ∷ x) ≡ scan (at (text 0) d n) (suc p) x
  unfolding scan fault_in is_dead limit told
  scan_char p b x e = rw (text_char d n b e)

  pub scan_hex : (p k b : ℕ) (x : List ℕ) → is_hex b ≡ true → scan (at (text (suc k)) d n) p (b ∷ x) ≡ scan (at (text k) d n) (suc p) x
  unfolding scan fault_in is_dead limit told
  scan_hex p k b x e = rw (text_hex d n k b e)

  pub scan_back : (p : ℕ) (x : List ℕ) → scan (at (text 0) d n) p (92 ∷ x) ≡ scan (at (text 2) d n) (suc p) x
  unfolding scan fault_in step heard is_char in_string is_dead limit told
  scan_back p x = refl

  scan_pieces : (p : ℕ) (ps : List Piece) (x : List ℕ) → scan (at (text 0) d n) p (piece_word ps ++ x) ≡ scan (at (text 0) d n) (p + length (piece_word ps)) x
  unfolding piece_word
  scan_pieces p [] x = on_none (at (text 0) d n) p x
  scan_pieces p (char b h ∷ ps) x = scan_char p b (piece_word ps ++ x) h ∙ scan_pieces (suc p) ps x ∙ on_one (at (text 0) d n) p (length (piece_word ps)) x
  scan_pieces p (escape h i f g ∷ ps) x =
      scan_back p (h ∷ i ∷ (piece_word ps ++ x))
      ∙ scan_hex (suc p) 1 h (i ∷ (piece_word ps ++ x)) f
      ∙ scan_hex (suc (suc p)) 0 i (piece_word ps ++ x) g
      ∙ scan_pieces (suc (suc (suc p))) ps x
      ∙ ap (λ (q : ℕ). scan (at (text 0) d n) q x) (omega arith)

-- a number is over where neither a digit nor, behind the first, a dash follows
module _ (d n p : ℕ) where
  pub low_done : (x : List ℕ) → is_digit (get_or x 0 0) ≡ false → eqb (get_or x 0 0) 45 ≡ false → scan (at low d n) p x ≡ scan (at done d n) p x
  unfolding scan fault_in step is_dead limit final rests told
  low_done [] e f = refl
  low_done (b ∷ x) e f = rw (e, f)

  pub high_done : (x : List ℕ) → is_digit (get_or x 0 0) ≡ false → scan (at high d n) p x ≡ scan (at done d n) p x
  unfolding scan fault_in step is_dead limit final rests told
  high_done [] e = refl
  high_done (b ∷ x) e = rw e

  -- an empty element is one where it is ended
  pub empty_done : n < 256 → (x : List ℕ) → Follow x → scan (at start d n) p x ≡ scan (at done d (suc n)) p x
  unfolding scan fault_in step is_dead limit final rests many told is_digit
  empty_done g [] f = rw (lt-leb 256 n g)
  empty_done g (b ∷ x) (comma y) = rw (lt-leb 256 n g)
  empty_done g (b ∷ x) (close y) = rw (lt-leb 256 n g)

pub follow_digit : (x : List ℕ) → Follow x → is_digit (get_or x 0 0) ≡ false
unfolding is_digit
follow_digit [] f = refl
follow_digit (b ∷ x) (comma y) = refl
follow_digit (b ∷ x) (close y) = refl

pub follow_dash : (x : List ℕ) → Follow x → eqb (get_or x 0 0) 45 ≡ false
follow_dash [] f = refl
follow_dash (b ∷ x) (comma y) = refl
follow_dash (b ∷ x) (close y) = refl

pub dash_digit : is_digit 45 ≡ false
unfolding is_digit
dash_digit = refl

-- a limit isn't passed, or it is
not_listed : (b : Bool) (o : Over) → (if b then o ∷ [] else []) ≡ [] → b ≡ false
not_listed true o e = absurd (cons-ne-nil o [] e)
not_listed false o e = refl

module _ (p : ℕ) where
  pub shallow : (d : ℕ) → too_deep d p ≡ [] → d < 4
  unfolding too_deep
  shallow d e = leb-false 4 d (not_listed (leb 4 d) (record { refusal = 7; place = p; shown = suc p }) e)

  pub small : (w : List ℕ) → too_large w p ≡ [] → value 0 w ≤ 4294967295
  unfolding too_large
  small w e = ltb-false 4294967295 (value 0 w) (not_listed (ltb 4294967295 (value 0 w)) (record { refusal = 8; place = p; shown = p + length w }) e)

  pub few : (n : ℕ) → too_many n p ≡ [] → n < 256
  unfolding too_many
  few n e = leb-false 256 n (not_listed (leb 256 n) (record { refusal = 9; place = p; shown = suc p }) e)

pub both_nil : {A : Type 0} (x y : List A) → x ++ y ≡ [] → (x ≡ []) × (y ≡ [])
both_nil x y = (append-eq-nil_iff {p = x} {q = y}).0

-- the count and the place behind a derivation, however they are written
at_place : (d : ℕ) {m n p q : ℕ} (x : List ℕ) → m ≡ n → p ≡ q → scan (at done d m) p x ≡ scan (at done d n) q x
at_place d {m} {n} {p} {q} x e f = ap (λ (k : ℕ). scan (at done d k) p x) e ∙ ap (λ (k : ℕ). scan (at done d n) k x) f

pub reads : {c : Symbol} (t : Derivation c) (d p n : ℕ) (r : List ℕ) → Follow r → over t d p n ≡ [] → scan (at start d n) p (word t ++ r) ≡ scan (at done d (n + length (elements t d p))) (p + length (word t)) r
unfolding word over elements
reads empty d p n r f e = empty_done d n p (few p n e) r f ∙ at_place d r (omega arith) (omega arith)
reads (number w h) d p n r f e =
    let l = both_nil (too_large w p) (too_many n p) e in
    let v : value 0 (w ++ r) ≤ 4294967295 = omega (arith, small p w l.0, value_stops 0 w r (number_digits w h) (follow_digit r f)) in
    scan_number d n p w r h v (few p n l.1) ∙ low_done d (suc n) (p + length w) r (follow_digit r f) (follow_dash r f) ∙ at_place d r (omega arith) refl
reads (range w x h g) d p n r f e =
    let l = both_nil (too_large w p) (too_many n p ++ too_large x (suc (p + length w))) e in
    let m = both_nil (too_many n p) (too_large x (suc (p + length w))) l.1 in
    let v : value 0 (w ++ (45 ∷ x ++ r)) ≤ 4294967295 = omega (arith, small p w l.0, value_stops 0 w (45 ∷ x ++ r) (number_digits w h) dash_digit) in
    let y : value 0 (x ++ r) ≤ 4294967295 = omega (arith, small (suc (p + length w)) x m.1, value_stops 0 x r (number_digits x g) (follow_digit r f)) in
    ap (scan (at start d n) p) (append_assoc w (45 ∷ x) r)
    ∙ scan_number d n p w (45 ∷ x ++ r) h v (few p n m.0)
    ∙ scan_dash d (suc n) (p + length w) (x ++ r)
    ∙ scan_second d (suc n) (suc (p + length w)) x r g y
    ∙ high_done d (suc n) (suc (p + length w) + length x) r (follow_digit r f)
    ∙ at_place d r (omega arith) (omega (arith, length-append w (45 ∷ x)))
reads (string ps) d p n r f e =
    scan_quote d n p ((piece_word ps ++ 34 ∷ []) ++ r) (few p n e)
    ∙ ap (scan (at (text 0) d (suc n)) (suc p)) (append_assoc (piece_word ps) (34 ∷ []) r)
    ∙ scan_pieces d (suc n) (suc p) ps (34 ∷ r)
    ∙ scan_unquote d (suc n) (suc p + length (piece_word ps)) r
    ∙ at_place d r (omega arith) (omega (arith, length-append (piece_word ps) (34 ∷ [])))
reads (bracket l) d p n r f e =
    let k = both_nil (too_deep d p) (too_many n p ++ over l (suc d) (suc p) (suc n)) e in
    let m = both_nil (too_many n p) (over l (suc d) (suc p) (suc n)) k.1 in
    scan_open d n p ((word l ++ 41 ∷ []) ++ r) (shallow p d k.0) (few p n m.0)
    ∙ ap (scan (at start (suc d) (suc n)) (suc p)) (append_assoc (word l) (41 ∷ []) r)
    ∙ reads l (suc d) (suc p) (suc n) (41 ∷ r) (close r) m.1
    ∙ scan_close d (suc n + length (elements l (suc d) (suc p))) (suc p + length (word l)) r
    ∙ at_place d r (omega arith) (omega (arith, length-append (word l) (41 ∷ [])))
reads (spaced m t) d p n r f e =
    ap (scan (at start d n) p) (append_assoc (replicate m 32) (word t) r)
    ∙ scan_spaces d n p m (word t ++ r)
    ∙ reads t d (p + m) n r f e
    ∙ at_place d r refl (omega (arith, length-append (replicate m 32) (word t), length-replicate {A = ℕ} m 32))
reads (one t) d p n r f e = reads t d p n r f e
reads (more t l) d p n r f e =
    let k = both_nil (over t d p n) (over l d (suc (p + length (word t))) (n + length (elements t d p))) e in
    ap (scan (at start d n) p) (append_assoc (word t) (44 ∷ word l) r)
    ∙ reads t d p n (44 ∷ (word l ++ r)) (comma (word l ++ r)) k.0
    ∙ scan_comma d (n + length (elements t d p)) (p + length (word t)) (word l ++ r)
    ∙ reads l d (suc (p + length (word t))) (n + length (elements t d p)) r f k.1
    ∙ at_place d r (omega (arith, length-append (elements t d p) (elements l d (suc (p + length (word t)))))) (omega (arith, length-append (word t) (44 ∷ word l)))
