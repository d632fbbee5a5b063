-- The bytes that strings and numbers of docs/LISTS.md are made of, and an element as six numbers.
use Rattle.std.specs.Prelude.{Option, Result, Ok, Err, Bool, ◌&&◌, ◌||◌, not, List, [], ◌∷◌, ℕ, zero, suc, ◌+◌, ◌*◌, get_or, eqb, leb, if◌then◌else◌}
use Rattle.parser.specs.Parser.{is_digit, run_at}
use Rattle.pieces.specs.declared.Heard.{Heard}
use Rattle.pieces.specs.declared.Heard.TheVariants.{Owes, Closes, Breaks}
use Rattle.pieces.specs.declared.StringError.{StringError}
use Rattle.pieces.specs.declared.StringError.TheVariants.{Broken}
use Rattle.pieces.specs.declared.Kind.{Kind}
use Rattle.pieces.specs.declared.Kind.TheVariants as kinds
use Rattle.pieces.specs.declared.Element.{Element}

-- HEX
unfoldable pub is_hex : ℕ → Bool
is_hex b = is_digit b || (leb 65 b && leb b 70) || (leb 97 b && leb b 102)

-- char: 0x20 to 0x7E without the quote and the backslash
unfoldable pub is_char : ℕ → Bool
is_char b = not (eqb b 34) && not (eqb b 92) && leb 32 b && leb b 126

-- what the byte b does in a string in which so many hexadecimal digits are owed
unfoldable pub heard : ℕ → ℕ → Heard
unfolding is_char is_hex
heard zero b = if is_char b then Owes 0 else if eqb b 92 then Owes 2 else if eqb b 34 then Closes else Breaks
heard (suc n) b = if is_hex b then Owes n else Breaks

-- how a string goes on at the place p
unfoldable pub goes_on : Heard → ℕ → (ℕ → Result ℕ StringError) → Result ℕ StringError
goes_on (Owes n) p f = f n
goes_on Closes p f = Ok (suc p)
goes_on Breaks p f = Err (Broken p)

unfoldable pub string_end : ℕ → ℕ → List ℕ → Result ℕ StringError
unfolding heard goes_on
string_end owed p [] = Err (Broken p)
string_end owed p (b ∷ x) = goes_on (heard owed b) p (λ n. string_end n (suc p) x)

-- the longest run of digits from the place p on, of at most 4,294,967,295
abbrev pub number_at : List ℕ → ℕ → Option (ℕ × ℕ)
number_at = run_at 4294967295

abbrev pub kind_number : Kind → ℕ
kind_number kinds.Empty = 0
kind_number kinds.Number = 1
kind_number kinds.Range = 2
kind_number kinds.String = 3
kind_number kinds.List = 4

abbrev pub kind_of : ℕ → Kind
kind_of n =
    if eqb n 1 then kinds.Number
    else if eqb n 2 then kinds.Range
    else if eqb n 3 then kinds.String
    else if eqb n 4 then kinds.List
    else kinds.Empty

-- an element as six numbers, in the order in which it is declared
abbrev pub numbers_of : Element → List ℕ
numbers_of e = e.place ∷ e.end ∷ kind_number e.kind ∷ e.depth ∷ e.low ∷ e.high ∷ []

-- the element of the number i in the memory m
abbrev pub element_at : List ℕ → ℕ → Element
element_at m i =
    record {
      place = get_or m (6 * i) 0;
      end = get_or m (6 * i + 1) 0;
      kind = kind_of (get_or m (6 * i + 2) 0);
      depth = get_or m (6 * i + 3) 0;
      low = get_or m (6 * i + 4) 0;
      high = get_or m (6 * i + 5) 0;
    }
