-- A word has one derivation: what follows an element tells where it is over.
use Rattle.std.specs.Prelude.{◌≡◌, refl, true, false, List, [], ◌∷◌, ◌++◌, ℕ, zero, suc, get_or, drop, replicate, eqb, if◌then◌else◌}
use Rattle.std.proofs.Common.{sym, ap, ◌∙◌, subst, append_assoc, arith}
use Rattle.std.proofs.Math.Bool.{Bool-set}
use Rattle.text.specs.Logic.{false_true, and_both}
use Rattle.parser.specs.Parser.{is_digit}
use Rattle.pieces.specs.Pieces.{is_char, is_hex}
use Rattle.lists.specs.Grammar.{digits, is_number, Piece, char, escape, Symbol, body, element, list, Derivation, empty, number, range, string, bracket, spaced, one, more, piece_word, word}
use Rattle.lists.specs.Ends.{is_number_lem, number_digits}
use Rattle.lists.specs.Shows.{Follow, nothing, comma, close, Begun, digit_begun, follow_begun}
use Rattle.lists.specs.Onward.{follow_digit, follow_dash, dash_digit}

abbrev head : List ℕ → ℕ
head x = get_or x 0 0

-- what may follow; a list is ended by no comma
abbrev Ended : Symbol → List ℕ → Type 0
Ended body x = Follow x
Ended element x = Follow x
Ended list x = Follow x × (eqb (head x) 44 ≡ false)

spaces_one : (m k : ℕ) (x y : List ℕ) → Begun x → Begun y → replicate m 32 ++ x ≡ replicate k 32 ++ y → (m ≡ k) × (x ≡ y)
spaces_one zero zero x y f g e = (refl, e)
spaces_one zero (suc k) x y f g e = absurd (false_true refl (subst Begun e f))
spaces_one (suc m) zero x y f g e = absurd (false_true refl (subst Begun (sym e) g))
spaces_one (suc m) (suc k) x y f g e = let h = spaces_one m k x y f g (ap (drop 1) e) in (ap suc h.0, h.1)

digits_one : (w v x y : List ℕ) → digits w ≡ true → digits v ≡ true → is_digit (head x) ≡ false → is_digit (head y) ≡ false → w ++ x ≡ v ++ y → (w ≡ v) × (x ≡ y)
unfolding digits
digits_one [] [] x y p q f g e = (refl, e)
digits_one [] (b ∷ v) x y p q f g e = absurd (false_true (and_both (is_digit b) (digits v) q).0 (sym (ap (λ (l : List ℕ). is_digit (head l)) e) ∙ f))
digits_one (b ∷ w) [] x y p q f g e = absurd (false_true (and_both (is_digit b) (digits w) p).0 (ap (λ (l : List ℕ). is_digit (head l)) e ∙ g))
digits_one (b ∷ w) (c ∷ v) x y p q f g e =
    let h = digits_one w v x y (and_both (is_digit b) (digits w) p).1 (and_both (is_digit c) (digits v) q).1 f g (ap (drop 1) e) in
    (ap (λ (a : ℕ). a ∷ w) (ap head e) ∙ ap (λ (l : List ℕ). c ∷ l) h.0, h.1)

char_same : (b c : ℕ) (h : is_char b ≡ true) (g : is_char c ≡ true) → b ≡ c → char b h ≡ char c g
char_same b c h g e = subst (λ (a : ℕ). (k : is_char a ≡ true) → char b h ≡ char a k) e (λ k. ap (char b) (Bool-set (is_char b) true h k)) g

escape_same : (a b c d : ℕ) (p : is_hex a ≡ true) (q : is_hex b ≡ true) (h : is_hex c ≡ true) (g : is_hex d ≡ true) → a ≡ c → b ≡ d → escape a b p q ≡ escape c d h g
escape_same a b c d p q h g e f =
    subst (λ (i : ℕ). (k : is_hex i ≡ true) → escape a b p q ≡ escape i d k g) e
    (λ k.
    subst (λ (i : ℕ). (l : is_hex i ≡ true) → escape a b p q ≡ escape a i k l) f
    (λ l. ap (λ (z : is_hex a ≡ true). escape a b z q) (Bool-set (is_hex a) true p k) ∙ ap (escape a b k) (Bool-set (is_hex b) true q l))
    g)
    h

-- no char is the quote or the backslash
no_char : (b : ℕ) → is_char b ≡ true → (b ≡ 34 → ⊥) × (b ≡ 92 → ⊥)
unfolding is_char
no_char b h = (λ e. false_true (sym (ap is_char e) ∙ h) refl, λ e. false_true (sym (ap is_char e) ∙ h) refl)

pieces_one : (ps qs : List Piece) (x y : List ℕ) → piece_word ps ++ 34 ∷ x ≡ piece_word qs ++ 34 ∷ y → (ps ≡ qs) × (x ≡ y)
unfolding piece_word
pieces_one [] [] x y e = (refl, ap (drop 1) e)
pieces_one [] (char b h ∷ qs) x y e = absurd ((no_char b h).0 (sym (ap head e)))
pieces_one [] (escape a b h g ∷ qs) x y e = let z : ◌≡◌ {A = ℕ} 34 92 = ap head e in absurd (omega arith)
pieces_one (char b h ∷ ps) [] x y e = absurd ((no_char b h).0 (ap head e))
pieces_one (char b h ∷ ps) (char c g ∷ qs) x y e =
    let k = pieces_one ps qs x y (ap (drop 1) e) in
    (ap (λ (z : Piece). z ∷ ps) (char_same b c h g (ap head e)) ∙ ap (λ (l : List Piece). char c g ∷ l) k.0, k.1)
pieces_one (char b h ∷ ps) (escape a c g q ∷ qs) x y e = absurd ((no_char b h).1 (ap head e))
pieces_one (escape a b h g ∷ ps) [] x y e = let z : ◌≡◌ {A = ℕ} 92 34 = ap head e in absurd (omega arith)
pieces_one (escape a b h g ∷ ps) (char c q ∷ qs) x y e = absurd ((no_char c q).1 (sym (ap head e)))
pieces_one (escape a b h g ∷ ps) (escape c d p q ∷ qs) x y e =
    let k = pieces_one ps qs x y (ap (drop 3) e) in
    (ap (λ (z : Piece). z ∷ ps) (escape_same a b c d h g p q (ap (λ (l : List ℕ). get_or l 1 0) e) (ap (λ (l : List ℕ). get_or l 2 0) e)) ∙ ap (λ (l : List Piece). escape c d p q ∷ l) k.0, k.1)

number_same : (w v : List ℕ) (h : is_number w ≡ true) (g : is_number v ≡ true) → w ≡ v → number w h ≡ number v g
number_same w v h g e = subst (λ (l : List ℕ). (k : is_number l ≡ true) → number w h ≡ number l k) e (λ k. ap (number w) (Bool-set (is_number w) true h k)) g

range_same : (w x v y : List ℕ) (p : is_number w ≡ true) (q : is_number x ≡ true) (h : is_number v ≡ true) (g : is_number y ≡ true) → w ≡ v → x ≡ y → range w x p q ≡ range v y h g
range_same w x v y p q h g e f =
    subst (λ (i : List ℕ). (k : is_number i ≡ true) → range w x p q ≡ range i y k g) e
    (λ k.
    subst (λ (i : List ℕ). (l : is_number i ≡ true) → range w x p q ≡ range w i k l) f
    (λ l. ap (λ (z : is_number w ≡ true). range w x z q) (Bool-set (is_number w) true p k) ∙ ap (range w x k) (Bool-set (is_number x) true q l))
    g)
    h

-- what a body begins with
first : List ℕ → ℕ
first [] = 0
first (b ∷ x) = if is_digit b then 1 else if eqb b 34 then 2 else if eqb b 40 then 3 else 0

abbrev form : Derivation body → ℕ
form empty = 0
form (number w h) = 1
form (range w x h g) = 1
form (string ps) = 2
form (bracket l) = 3

first_number : (w x : List ℕ) → is_number w ≡ true → first (w ++ x) ≡ 1
unfolding first
first_number w x h = let k = is_number_lem w h in ap (λ (l : List ℕ). first (l ++ x)) k.parts ∙ digit_first k.first (k.others ++ x) k.digit
  where
    digit_first : (b : ℕ) (y : List ℕ) → is_digit b ≡ true → first (b ∷ y) ≡ 1
    digit_first b y e = rw e

first_form : (t : Derivation body) (x : List ℕ) → Follow x → first (word t ++ x) ≡ form t
unfolding word first is_digit
first_form empty [] f = refl
first_form empty (b ∷ x) (comma y) = refl
first_form empty (b ∷ x) (close y) = refl
first_form (number w h) x f = first_number w x h
first_form (range w v h g) x f = ap first (append_assoc w (45 ∷ v) x) ∙ first_number w (45 ∷ v ++ x) h
first_form (string ps) x f = refl
first_form (bracket l) x f = refl

-- two bodies of one word are of one form
same_form : (s t : Derivation body) (x y : List ℕ) → Follow x → Follow y → word s ++ x ≡ word t ++ y → form s ≡ form t
same_form s t x y f g e = sym (first_form s x f) ∙ ap first e ∙ first_form t y g

-- a number followed by what ends it isn't the first of two
not_range : (w v z x y : List ℕ) → is_number w ≡ true → is_number v ≡ true → Follow x → w ++ x ≡ (v ++ 45 ∷ z) ++ y → ⊥
not_range w v z x y h g f e =
    let k = digits_one w v x (45 ∷ z ++ y) (number_digits w h) (number_digits v g) (follow_digit x f) dash_digit (e ∙ append_assoc v (45 ∷ z) y) in
    false_true (ap (λ (l : List ℕ). eqb (head l) 45) k.1) (follow_dash x f)

body_begun : (t : Derivation body) (x : List ℕ) → Follow x → Begun (word t ++ x)
unfolding word
body_begun empty x f = follow_begun x f
body_begun (number w h) x f = digit_begun w x h
body_begun (range w v h g) x f = subst Begun (sym (append_assoc w (45 ∷ v) x)) (digit_begun w (45 ∷ v ++ x) h)
body_begun (string ps) x f = refl
body_begun (bracket l) x f = refl

pub unique : {c : Symbol} (s t : Derivation c) (x y : List ℕ) → Ended c x → Ended c y → word s ++ x ≡ word t ++ y → (s ≡ t) × (x ≡ y)
unfolding word
unique empty empty x y a b e = (refl, e)
unique empty (number v g) x y a b e = let n : ◌≡◌ {A = ℕ} 0 1 = same_form empty (number v g) x y a b e in absurd (omega arith)
unique empty (range v z g q) x y a b e = let n : ◌≡◌ {A = ℕ} 0 1 = same_form empty (range v z g q) x y a b e in absurd (omega arith)
unique empty (string qs) x y a b e = let n : ◌≡◌ {A = ℕ} 0 2 = same_form empty (string qs) x y a b e in absurd (omega arith)
unique empty (bracket m) x y a b e = let n : ◌≡◌ {A = ℕ} 0 3 = same_form empty (bracket m) x y a b e in absurd (omega arith)
unique (number w h) empty x y a b e = let n : ◌≡◌ {A = ℕ} 1 0 = same_form (number w h) empty x y a b e in absurd (omega arith)
unique (number w h) (number v g) x y a b e = let k = digits_one w v x y (number_digits w h) (number_digits v g) (follow_digit x a) (follow_digit y b) e in (number_same w v h g k.0, k.1)
unique (number w h) (range v z g q) x y a b e = absurd (not_range w v z x y h g a e)
unique (number w h) (string qs) x y a b e = let n : ◌≡◌ {A = ℕ} 1 2 = same_form (number w h) (string qs) x y a b e in absurd (omega arith)
unique (number w h) (bracket m) x y a b e = let n : ◌≡◌ {A = ℕ} 1 3 = same_form (number w h) (bracket m) x y a b e in absurd (omega arith)
unique (range w u h k) empty x y a b e = let n : ◌≡◌ {A = ℕ} 1 0 = same_form (range w u h k) empty x y a b e in absurd (omega arith)
unique (range w u h k) (number v g) x y a b e = absurd (not_range v w u y x g h b (sym e))
unique (range w u h k) (range v z g q) x y a b e =
    let i = digits_one w v (45 ∷ u ++ x) (45 ∷ z ++ y) (number_digits w h) (number_digits v g) dash_digit dash_digit (sym (append_assoc w (45 ∷ u) x) ∙ e ∙ append_assoc v (45 ∷ z) y) in
    let j = digits_one u z x y (number_digits u k) (number_digits z q) (follow_digit x a) (follow_digit y b) (ap (drop 1) i.1) in
    (range_same w u v z h k g q i.0 j.0, j.1)
unique (range w u h k) (string qs) x y a b e = let n : ◌≡◌ {A = ℕ} 1 2 = same_form (range w u h k) (string qs) x y a b e in absurd (omega arith)
unique (range w u h k) (bracket m) x y a b e = let n : ◌≡◌ {A = ℕ} 1 3 = same_form (range w u h k) (bracket m) x y a b e in absurd (omega arith)
unique (string ps) empty x y a b e = let n : ◌≡◌ {A = ℕ} 2 0 = same_form (string ps) empty x y a b e in absurd (omega arith)
unique (string ps) (number v g) x y a b e = let n : ◌≡◌ {A = ℕ} 2 1 = same_form (string ps) (number v g) x y a b e in absurd (omega arith)
unique (string ps) (range v z g q) x y a b e = let n : ◌≡◌ {A = ℕ} 2 1 = same_form (string ps) (range v z g q) x y a b e in absurd (omega arith)
unique (string ps) (string qs) x y a b e =
    let k = pieces_one ps qs x y (sym (append_assoc (piece_word ps) (34 ∷ []) x) ∙ ap (drop 1) e ∙ append_assoc (piece_word qs) (34 ∷ []) y) in
    (ap string k.0, k.1)
unique (string ps) (bracket m) x y a b e = let n : ◌≡◌ {A = ℕ} 2 3 = same_form (string ps) (bracket m) x y a b e in absurd (omega arith)
unique (bracket l) empty x y a b e = let n : ◌≡◌ {A = ℕ} 3 0 = same_form (bracket l) empty x y a b e in absurd (omega arith)
unique (bracket l) (number v g) x y a b e = let n : ◌≡◌ {A = ℕ} 3 1 = same_form (bracket l) (number v g) x y a b e in absurd (omega arith)
unique (bracket l) (range v z g q) x y a b e = let n : ◌≡◌ {A = ℕ} 3 1 = same_form (bracket l) (range v z g q) x y a b e in absurd (omega arith)
unique (bracket l) (string qs) x y a b e = let n : ◌≡◌ {A = ℕ} 3 2 = same_form (bracket l) (string qs) x y a b e in absurd (omega arith)
unique (bracket l) (bracket m) x y a b e =
    let k = unique l m (41 ∷ x) (41 ∷ y) (close x, refl) (close y, refl) (sym (append_assoc (word l) (41 ∷ []) x) ∙ ap (drop 1) e ∙ append_assoc (word m) (41 ∷ []) y) in
    (ap bracket k.0, ap (drop 1) k.1)
unique (spaced m s) (spaced k t) x y a b e =
    let i = spaces_one m k (word s ++ x) (word t ++ y) (body_begun s x a) (body_begun t y b) (sym (append_assoc (replicate m 32) (word s) x) ∙ e ∙ append_assoc (replicate k 32) (word t) y) in
    let j = unique s t x y a b i.1 in
    (ap (λ (n : ℕ). spaced n s) i.0 ∙ ap (spaced k) j.0, j.1)
unique (one s) (one t) x y a b e = let k = unique s t x y a.0 b.0 e in (ap one k.0, k.1)
unique (one s) (more t m) x y a b e =
    let k = unique s t x (44 ∷ (word m ++ y)) a.0 (comma (word m ++ y)) (e ∙ append_assoc (word t) (44 ∷ word m) y) in
    absurd (false_true (ap (λ (l : List ℕ). eqb (head l) 44) k.1) a.1)
unique (more s l) (one t) x y a b e =
    let k = unique s t (44 ∷ (word l ++ x)) y (comma (word l ++ x)) b.0 (sym (append_assoc (word s) (44 ∷ word l) x) ∙ e) in
    absurd (false_true (ap (λ (i : List ℕ). eqb (head i) 44) (sym k.1)) b.1)
unique (more s l) (more t m) x y a b e =
    let k = unique s t (44 ∷ (word l ++ x)) (44 ∷ (word m ++ y)) (comma (word l ++ x)) (comma (word m ++ y)) (sym (append_assoc (word s) (44 ∷ word l) x) ∙ e ∙ append_assoc (word t) (44 ∷ word m) y) in
    let j = unique l m x y a b (ap (drop 1) k.1) in
    (ap (λ (i : Derivation element). more i l) k.0 ∙ ap (more t) j.0, j.1)

-- The derivation of a list is unique.
pub one_derivation : (s t : Derivation list) → word s ≡ word t → s ≡ t
one_derivation s t e = (unique s t [] [] (nothing, refl) (nothing, refl) (ap (λ (l : List ℕ). l ++ []) e)).0
