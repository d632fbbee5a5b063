-- The token table: its records as they lie, what a good table is, and the tokens that the digester goes by.
use Rattle.std.specs.Prelude.{Option, Some, None, Result, Ok, Err, Bool, true, ◌&&◌, not, List, [], ◌∷◌, ℕ, zero, suc, ◌+◌, ◌-◌, length, get_or, eqb, leb, ltb, if◌then◌else◌}
use Rattle.std.specs.Borrow.{Bor}
use Rattle.text.specs.Bytes.{bytes}
use Rattle.text.specs.Text.{stands, part_of}
use Rattle.outcome.specs.Outcome.{Outcome, answered, refused}
use Rattle.table.specs.declared.Mark.{Mark}
use Rattle.table.specs.declared.Mark.TheVariants.{Notice, Success, Error, Prompt}
use Rattle.table.specs.declared.Record.{Record}
use Rattle.table.specs.declared.Walk.{Walk}
use Rattle.table.specs.declared.Read.{Read}
use Rattle.table.specs.declared.Read.TheVariants.{Is, Faulty, End}
use Rattle.table.specs.declared.TableError.{TableError}
use Rattle.table.specs.declared.TableError.TheVariants as checks

-- one of 0x20 to 0x7E
unfoldable pub is_plain : ℕ → Bool
is_plain b = leb 0x20 b && leb b 0x7E

unfoldable pub all_plain : List ℕ → Bool
unfolding is_plain
all_plain [] = true
all_plain (x ∷ s) = is_plain x && all_plain s

-- A text has 1 to 32 bytes, each 0x20 to 0x7E, the first and last not a space.
unfoldable pub is_text : List ℕ → Bool
unfolding all_plain
is_text x =
    leb 1 (length x)
    && (leb (length x) 32
    && (not (eqb (get_or x 0 0) 32) && (not (eqb (get_or x (length x - 1) 0) 32) && all_plain x)))

-- The length byte stands at k, and the text behind it; either may be cut off by the end of the slice.
unfoldable pub text_at : Mark → ℕ → List ℕ → ℕ → Read
text_at m p t k =
    let len = get_or t k 0 in
    if ltb (k + len) (length t) then Is (record { mark = m; prompt = p; place = k + 1; len = len }) else Faulty

-- Only for CP: one prompt byte, at k.
unfoldable pub prompt_at : List ℕ → ℕ → Read
unfolding text_at
prompt_at t k = if ltb k (length t) then text_at Prompt (get_or t k 0) t (k + 1) else Faulty

-- The record that begins at `at`, as it lies. Marks: UR notice, CS custom success, CE custom error, CP custom prompt.
unfoldable pub record_at : List ℕ → ℕ → Read
unfolding text_at prompt_at
record_at t at =
    if leb (length t) at then End
    else if stands (bytes "UR") t at then text_at Notice 0 t (at + 2)
    else if stands (bytes "CS") t at then text_at Success 0 t (at + 2)
    else if stands (bytes "CE") t at then text_at Error 0 t (at + 2)
    else if stands (bytes "CP") t at then prompt_at t (at + 2)
    else Faulty

unfoldable pub text_of : List ℕ → Record → List ℕ
text_of t r = part_of t r.place r.len

-- The next record begins where a record's text ends.
unfoldable pub end_of : Record → ℕ
end_of r = r.place + r.len

unfoldable pub good_if : List ℕ → Read → Read
unfolding is_text text_of
good_if t (Is r) = if is_text (text_of t r) then Is r else Faulty
good_if t Faulty = Faulty
good_if t End = End

-- the record that begins at `at`, faulty also where its text breaks a rule
unfoldable pub good_at : List ℕ → ℕ → Read
unfolding good_if record_at
good_at t at = good_if t (record_at t at)

unfoldable pub then_rule : Read → ℕ → (ℕ → Outcome ℕ) → Outcome ℕ
unfolding end_of
then_rule (Is r) n f = f (end_of r)
then_rule Faulty n f = refused 2 (n ∷ [])
then_rule End n f = answered n

-- n records are good, and `more` may still come
unfoldable pub ruling_by : ℕ → List ℕ → ℕ → ℕ → Outcome ℕ
unfolding then_rule good_at
ruling_by zero t at n = if leb (length t) at then answered n else refused 2 (n ∷ [])
ruling_by (suc more) t at n = then_rule (good_at t at) n (λ p. ruling_by more t p (n + 1))

-- At most 64 records. The number of a good table's records, or refusal 2 with the first faulty record's number, 64 for a 65th.
unfoldable pub ruling : List ℕ → Outcome ℕ
unfolding ruling_by
ruling t = ruling_by 64 t 0 0

-- document 01's number and values for each case of the check's answer
abbrev pub outcome : Result ℕ TableError → Outcome ℕ
outcome (Ok n) = answered n
outcome (Err (checks.Faulty k)) = refused 2 (k ∷ [])

-- the marks in 01's order: UR, CS, CE, CP
abbrev pub mark_number : Mark → ℕ
mark_number Notice = 0
mark_number Success = 1
mark_number Error = 2
mark_number Prompt = 3

abbrev pub same_mark : Mark → Mark → Bool
same_mark a b = eqb (mark_number a) (mark_number b)

unfoldable pub then_next : Mark → Read → ℕ → (ℕ → Option (Record × ℕ)) → Option (Record × ℕ)
unfolding end_of
then_next m (Is r) n f = let q = f (end_of r) in if same_mark r.mark m then Some (r, n) else q
then_next m Faulty n f = None
then_next m End n f = None

unfoldable pub next_by : ℕ → Mark → List ℕ → ℕ → ℕ → Option (Record × ℕ)
unfolding then_next record_at
next_by zero m t at n = None
next_by (suc more) m t at n = then_next m (record_at t at) n (λ p. next_by more m t p (n + 1))

-- the first record with the mark m, from `at` on, where record number n begins
unfoldable pub next_of : Mark → List ℕ → ℕ → ℕ → Option (Record × ℕ)
unfolding next_by
next_of m t at n = next_by (64 - n) m t at n

-- the records with the mark m, each with its number, from `at` on, where record number n begins
unfoldable pub then_found : Mark → Read → ℕ → (ℕ → List (Record × ℕ)) → List (Record × ℕ)
unfolding end_of
then_found m (Is r) n f = let l = f (end_of r) in if same_mark r.mark m then (r, n) ∷ l else l
then_found m Faulty n f = []
then_found m End n f = []

unfoldable pub found_by : ℕ → Mark → List ℕ → ℕ → ℕ → List (Record × ℕ)
unfolding then_found record_at
found_by zero m t at n = []
found_by (suc more) m t at n = then_found m (record_at t at) n (λ p. found_by more m t p (n + 1))

unfoldable pub found : Mark → List ℕ → ℕ → ℕ → List (Record × ℕ)
unfolding found_by
found m t at n = found_by (64 - n) m t at n

-- the walk over the records with the mark m, from the table's front on
unfoldable pub walk_of : Bor (List ℕ) → Mark → Walk
walk_of t m = record { table = t; mark = m; place = 0; number = 0 }

-- the records that a walk has left
unfoldable pub rest : Walk → List (Record × ℕ)
unfolding found
rest x = found x.mark x.table.now x.place x.number

-- What the digester goes by: a record's mark, prompt byte and text.
pub record Token : Type 0 where
  pub mark : Mark
  pub prompt : ℕ
  pub text : List ℕ

unfoldable pub token_of : List ℕ → Record → Token
unfolding text_of
token_of t r = record { mark = r.mark; prompt = r.prompt; text = text_of t r }

unfoldable pub then_tokens : List ℕ → Read → (ℕ → List Token) → List Token
unfolding end_of token_of
then_tokens t (Is r) f = token_of t r ∷ f (end_of r)
then_tokens t Faulty f = []
then_tokens t End f = []

unfoldable pub tokens_by : ℕ → List ℕ → ℕ → List Token
unfolding then_tokens record_at
tokens_by zero t at = []
tokens_by (suc more) t at = then_tokens t (record_at t at) (λ p. tokens_by more t p)

-- the table's records in order, at most 64, up to the first that can't be read; a record's number is its index here
unfoldable pub tokens : List ℕ → List Token
unfolding tokens_by
tokens t = tokens_by 64 t 0

-- A token of a known mark, with its number in the table.
pub record Entry : Type 0 where
  pub number : ℕ
  pub prompt : ℕ
  pub text : List ℕ

unfoldable pub entry_of : Token → ℕ → Entry
entry_of x n = record { number = n; prompt = x.prompt; text = x.text }

-- the entries of records in the table t, each with its number
unfoldable pub entries_of : List ℕ → List (Record × ℕ) → List Entry
unfolding entry_of token_of
entries_of t [] = []
entries_of t ((r, n) ∷ l) = entry_of (token_of t r) n ∷ entries_of t l

-- those with the mark m, in table order, where the first token has the number n
unfoldable pub of_mark : Mark → ℕ → List Token → List Entry
unfolding entry_of
of_mark m n [] = []
of_mark m n (x ∷ l) = let r = of_mark m (n + 1) l in if same_mark x.mark m then entry_of x n ∷ r else r

-- the records with the mark m from `at` on, where record number n begins
unfoldable pub entries : Mark → List ℕ → ℕ → ℕ → List Entry
unfolding of_mark
entries m t at n = of_mark m n (tokens_by (64 - n) t at)
