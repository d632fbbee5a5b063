-- R-4: the grammar of docs/LISTS.md as derivations, the bytes that each derives, and 02's words about them: the elements in order, the limits, the refusals.
--   list    = element *( "," element )
--   element = *SP ( "" / number [ "-" number ] / string / "(" list ")" )
--   number  = 1*DIGIT
--   string  = DQUOTE *( char / "\" HEX HEX ) DQUOTE
use Rattle.std.specs.Prelude.{Result, Ok, Err, ◌≡◌, ◌⊎◌, Bool, true, false, ◌&&◌, ℕ, suc, ◌+◌, ◌≤◌, ◌<◌, length, take, replicate, leb, ltb, if◌then◌else◌}
use mathlib.Core.List.{List, [], ◌∷◌, ◌++◌, Memᴰ}
use Rattle.std.proofs.lemmas.List.Edits.{sets}
use Rattle.text.specs.Bytes.{bytes}
use Rattle.parser.specs.Parser.{is_digit, value}
use Rattle.pieces.specs.Pieces.{is_hex, is_char, numbers_of}
use Rattle.pieces.specs.declared.Kind.{Kind}
use Rattle.pieces.specs.declared.Kind.TheVariants as kinds
use Rattle.pieces.specs.declared.Element.{Element}
use Rattle.lists.specs.declared.ListError.{ListError}
use Rattle.lists.specs.declared.ListError.TheVariants.{Malformed, TooDeep, TooLarge, TooMany}

-- *DIGIT
unfoldable pub digits : List ℕ → Bool
digits [] = true
digits (b ∷ w) = is_digit b && digits w

-- number = 1*DIGIT
unfoldable pub is_number : List ℕ → Bool
unfolding digits
is_number [] = false
is_number (b ∷ w) = is_digit b && digits w

-- char, or "\" HEX HEX: what stands between the quotes of a string
pub data Piece : Type 0 where
  char : (b : ℕ) → is_char b ≡ true → Piece
  escape : (h i : ℕ) → is_hex h ≡ true → is_hex i ≡ true → Piece

-- what has a derivation; a body is what stands behind an element's spaces
pub data Symbol : Type 0 where
  body element list : Symbol

-- body = "" / number / number "-" number / string / "(" list ")"; element = *SP body, with so many spaces; list = element / element "," list
pub data Derivation : Symbol → Type 0 where
  empty : Derivation body
  number : (w : List ℕ) → is_number w ≡ true → Derivation body
  range : (w x : List ℕ) → is_number w ≡ true → is_number x ≡ true → Derivation body
  string : List Piece → Derivation body
  bracket : Derivation list → Derivation body
  spaced : ℕ → Derivation body → Derivation element
  one : Derivation element → Derivation list
  more : Derivation element → Derivation list → Derivation list

-- the bytes that a derivation derives
unfoldable pub piece_word : List Piece → List ℕ
piece_word [] = []
piece_word (char b h ∷ ps) = b ∷ piece_word ps
piece_word (escape h i p q ∷ ps) = bytes "\\" ++ (h ∷ i ∷ piece_word ps)

unfoldable pub word : {c : Symbol} → Derivation c → List ℕ
unfolding piece_word
word empty = []
word (number w h) = w
word (range w x h g) = w ++ (bytes "-" ++ x)
word (string ps) = bytes "\"" ++ (piece_word ps ++ bytes "\"")
word (bracket l) = bytes "(" ++ (word l ++ bytes ")")
word (spaced n t) = replicate n 32 ++ word t
word (one e) = word e
word (more e l) = word e ++ (bytes "," ++ word l)

abbrev pub made : ℕ → ℕ → Kind → ℕ → ℕ → ℕ → Element
made p e k d a b = record { place = p; end = e; kind = k; depth = d; low = a; high = b }

-- the elements in order, a list before its members, where the word begins at the place p within d brackets
unfoldable pub elements : {c : Symbol} → Derivation c → ℕ → ℕ → List Element
unfolding word
elements empty d p = made p p kinds.Empty d 0 0 ∷ []
elements (number w h) d p = made p (p + length (word (number w h))) kinds.Number d (value 0 w) (value 0 w) ∷ []
elements (range w x h g) d p = made p (p + length (word (range w x h g))) kinds.Range d (value 0 w) (value 0 x) ∷ []
elements (string ps) d p = made p (p + length (word (string ps))) kinds.String d 0 0 ∷ []
elements (bracket l) d p = made p (p + length (word (bracket l))) kinds.List d 0 0 ∷ elements l (suc d) (suc p)
elements (spaced n t) d p = elements t d (p + n)
elements (one e) d p = elements e d p
elements (more e l) d p = elements e d p ++ elements l d (suc (p + length (word e)))

-- the elements as they stand in the memory, six numbers each
unfoldable pub numbers : List Element → List ℕ
numbers [] = []
numbers (e ∷ es) = numbers_of e ++ numbers es

-- a limit that a derivation passes: the refusal, its place, and how far the bytes show it
pub record Over : Type 0 where
  pub refusal : ℕ
  pub place : ℕ
  pub shown : ℕ

-- 7: a bracket opened within 4 brackets
unfoldable pub too_deep : ℕ → ℕ → List Over
too_deep d p = if leb 4 d then record { refusal = 7; place = p; shown = suc p } ∷ [] else []

-- 8: a number over 4,294,967,295, at its first digit
unfoldable pub too_large : List ℕ → ℕ → List Over
too_large w p = if ltb 4294967295 (value 0 w) then record { refusal = 8; place = p; shown = p + length w } ∷ [] else []

-- 9: an element that has 256 before it, at its place
unfoldable pub too_many : ℕ → ℕ → List Over
too_many n p = if leb 256 n then record { refusal = 9; place = p; shown = suc p } ∷ [] else []

-- the limits that are passed, where the word begins at the place p within d brackets, behind n elements
unfoldable pub over : {c : Symbol} → Derivation c → ℕ → ℕ → ℕ → List Over
unfolding too_deep too_large too_many elements
over empty d p n = too_many n p
over (number w h) d p n = too_large w p ++ too_many n p
over (range w x h g) d p n = too_large w p ++ (too_many n p ++ too_large x (suc (p + length w)))
over (string ps) d p n = too_many n p
over (bracket l) d p n = too_deep d p ++ (too_many n p ++ over l (suc d) (suc p) (suc n))
over (spaced m t) d p n = over t d (p + m) n
over (one e) d p n = over e d p n
over (more e l) d p n = over e d p n ++ over l d (suc (p + length (word e))) (n + length (elements e d p))

-- some list has the first n bytes of s for its own; where s has fewer than n, it is s
pub record Begins (s : List ℕ) (n : ℕ) : Type 0 where
  pub tree : Derivation list
  pub same : take n (word tree) ≡ take n s

-- A fault of s at p. 6: what stands before p begins a list, and with the byte at p, or at the end as a whole, it begins none. 7, 8, 9: a list that begins as s does
-- passes that limit at p, as far as s shows it.
pub data Fault (s : List ℕ) (k p : ℕ) : Type 0 where
  malformed : k ≡ 6 → Begins s p → (Begins s (suc p) → ⊥) → Fault s k p
  passed : (t : Derivation list) (z : ℕ) → Memᴰ (record { refusal = k; place = p; shown = z }) (over t 0 0 0) → take z (word t) ≡ take z s → Fault s k p

-- the leftmost fault; at one place the lowest number
pub record First (s : List ℕ) (k p : ℕ) : Type 0 where
  pub fault : Fault s k p
  pub first : (j q : ℕ) → Fault s j q → (p < q) ⊎ ((p ≡ q) × (k ≤ j))

-- a list within the limits, with these elements
pub record Accepted (s : List ℕ) (es : List Element) : Type 0 where
  pub tree : Derivation list
  pub derives : word tree ≡ s
  pub within : over tree 0 0 0 ≡ []
  pub gives : elements tree 0 0 ≡ es

-- document 02's number of a refusal, and its place
abbrev pub number_of : ListError → ℕ
number_of (Malformed p) = 6
number_of (TooDeep p) = 7
number_of (TooLarge p) = 8
number_of (TooMany p) = 9

abbrev pub place_of : ListError → ℕ
place_of (Malformed p) = p
place_of (TooDeep p) = p
place_of (TooLarge p) = p
place_of (TooMany p) = p

-- What a call tells of the payload s, and what it leaves in the memory m: the elements, from the front, the rest as it was; or the first fault, and all as it was.
abbrev pub Reading : List ℕ → List ℕ → Result ℕ ListError → List ℕ → Type 0
Reading s m (Ok n) after = (es : List Element) × (Accepted s es × ((n ≡ length es) × (after ≡ sets m 0 (numbers es))))
Reading s m (Err why) after = First s (number_of why) (place_of why) × (after ≡ m)
