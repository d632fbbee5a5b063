-- Line starts and finished items (demand 3), by position: what stands where, and no search.
-- "From a line start on" is the list u of the input's bytes from there on, so that places in u count from the line start.
use Rattle.std.specs.Prelude.{◌≡◌, ◌⊎◌, Bool, true, false, List, [], ◌∷◌, ◌++◌, ℕ, ◌+◌, ◌-◌, ◌≤◌, ◌<◌, length, get_or, take, drop}
use Rattle.text.specs.Bytes.{bytes}
use Rattle.text.specs.Text.{is_blank, stands}
use Rattle.text.specs.declared.Blanks.TheVariants as blanks
use Rattle.table.specs.Table.{Token, of_mark}
use Rattle.table.specs.declared.Mark.TheVariants as mark
use Rattle.lines.specs.Lines.{hears_text, crlf, fixed_text}
use Rattle.parser.specs.Parser.{line_ending, is_digit, value, wrapped, breaks_off}
use Rattle.lines.specs.declared.Digester.{Digester}
use Rattle.lines.specs.declared.Fixed.{Fixed}
use Rattle.lines.specs.declared.Fixed.TheVariants as fixed
use Rattle.items.specs.Rules.{heads, error_lines}

-- something in the list has the property
abbrev pub AnyOf : {A : Type 0} → (A → Type 0) → List A → Type 0
AnyOf P [] = ⊥
AnyOf P (x ∷ l) = P x ⊎ AnyOf P l

-- each byte from the place i up to k passes f
abbrev pub All : (ℕ → Bool) → List ℕ → ℕ → ℕ → Type 0
All f u i k = (j : ℕ) → i ≤ j → j < k → f (get_or u j 0) ≡ true

-- the text t stands nowhere from the place i up to k
abbrev pub Nowhere : List ℕ → List ℕ → ℕ → ℕ → Type 0
Nowhere t u i k = (j : ℕ) → i ≤ j → j < k → stands t u j ≡ false

-- If the input has CRLF, its line starts are all CRLF positions;
-- else the first byte that isn't a space is the only one; with no such byte there is none.
pub data LineStart (s : List ℕ) (p : ℕ) : Type 0 where
  at_crlf : stands crlf s p ≡ true → LineStart s p
  only_one : ((j : ℕ) → stands crlf s j ≡ false) → All (is_blank blanks.Space) s 0 p → p < length s → is_blank blanks.Space (get_or s p 0) ≡ false → LineStart s p

-- What ends a notice whose text ends at k: either CRLF, or `:` and everything through the next CRLF, at q.
pub data NoticeEnd (u : List ℕ) (k n : ℕ) : Type 0 where
  crlf_end : stands crlf u k ≡ true → n ≡ k + 2 → NoticeEnd u k n
  colon : stands (bytes ":") u k ≡ true → (q : ℕ) → k + 1 ≤ q → stands crlf u q ≡ true → Nowhere crlf u (k + 1) q → n ≡ q + 2 → NoticeEnd u k n

-- A notice of rule 2, ended, n bytes long: CRLF or one LF, the text, and what ends it.
pub record NoticeEnded (x u : List ℕ) (n : ℕ) : Type 0 where
  pub opened : 0 < line_ending u 0
  pub text : stands x u (line_ending u 0) ≡ true
  pub ended : NoticeEnd u (line_ending u 0 + length x) n

-- A notice unfinished in the sense of rule 2: the input breaks off within its text or its line end.
pub record Unfinished (x u : List ℕ) : Type 0 where
  pub opened : 0 < line_ending u 0
  pub broken : breaks_off x u (line_ending u 0) ≡ true

-- A numeric error with the head h, n bytes long: run blanks up to a, digits of at most 65,535 from a up to b, LF or CRLF at b.
pub record NumericEnded (h u : List ℕ) (n : ℕ) : Type 0 where
  pub a : ℕ
  pub b : ℕ
  pub head : stands h u 0 ≡ true
  pub spaces : (length h ≤ a) × All (is_blank blanks.Run) u (length h) a
  pub digits : (a < b) × All is_digit u a b
  pub small : value 0 (take (b - a) (drop a u)) ≤ 65535
  pub ended : (0 < line_ending u b) × (n ≡ b + line_ending u b)

-- The first byte c stands at q and has only run blanks after it.
pub record FirstAlone (c : ℕ) (u : List ℕ) : Type 0 where
  pub q : ℕ
  pub here : stands (c ∷ []) u q ≡ true
  pub first : Nowhere (c ∷ []) u 0 q
  pub after : All (is_blank blanks.Run) u (q + 1) (length u)

-- The CP condition: without trailing run blanks, u ends in the text.
pub record EndsIn (x u : List ℕ) : Type 0 where
  pub q : ℕ
  pub here : stands x u q ≡ true
  pub after : All (is_blank blanks.Run) u (q + length x) (length u)

-- the nine fixed lines of rules 3 and 5
abbrev pub nine : List Fixed
nine = fixed.Ok ∷ fixed.Connect ∷ (error_lines ++ (fixed.Na ∷ []))

-- u begins with the line t, n bytes long
abbrev pub Line : List ℕ → List ℕ → ℕ → Type 0
Line t u n = (stands t u 0 ≡ true) × (n ≡ length t)

-- R-3: a CONNECT line with text, n bytes long: CRLF, `CONNECT`, a space and everything through the next CRLF, at q.
pub record TextLine (u : List ℕ) (n : ℕ) : Type 0 where
  pub q : ℕ
  pub head : stands (fixed_text fixed.ConnectText) u 0 ≡ true
  pub behind : 10 ≤ q
  pub here : stands crlf u q ≡ true
  pub first : Nowhere crlf u 10 q
  pub ended : n ≡ q + 2

-- An item that stands from a line start on, n bytes long; a prompt takes all there is.
pub data Item (d : Digester) (ts : List Token) (u : List ℕ) (n : ℕ) : Type 0 where
  notice : AnyOf (λ x. NoticeEnded x.text u n) (of_mark mark.Notice 0 ts) → Item d ts u n
  line : AnyOf (λ l. Line (fixed_text l) u n) nine → Item d ts u n
  text : hears_text d ≡ true → TextLine u n → Item d ts u n
  custom_success : AnyOf (λ x. Line (wrapped x.text) u n) (of_mark mark.Success 0 ts) → Item d ts u n
  custom_error : AnyOf (λ x. Line (wrapped x.text) u n) (of_mark mark.Error 0 ts) → Item d ts u n
  numeric : AnyOf (λ h. NumericEnded (fixed_text h) u n) heads → Item d ts u n
  prompt : FirstAlone 62 u ⊎ FirstAlone 64 u → n ≡ length u → Item d ts u n
  custom_prompt : AnyOf (λ x. EndsIn x.text u) (of_mark mark.Prompt 0 ts) → n ≡ length u → Item d ts u n

-- The line start p of s holds a finished item, n bytes long; where a notice is unfinished, the start holds none.
pub record Holds (d : Digester) (ts : List Token) (s : List ℕ) (p n : ℕ) : Type 0 where
  pub start : LineStart s p
  pub item : Item d ts (drop p s) n
  pub finished : AnyOf (λ x. Unfinished x.text (drop p s)) (of_mark mark.Notice 0 ts) → ⊥

-- no line start of the input holds a finished item
abbrev pub NothingFinished : Digester → List Token → List ℕ → Type 0
NothingFinished d ts s = (p n : ℕ) → Holds d ts s p n → ⊥
