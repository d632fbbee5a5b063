-- What isn't final: eight inputs, the bytes behind each, and what is heard of the first alone and of both (`both_heard`, by computation); the first answer is not final
-- (`not_final`). So the theorem's conditions are needed (`needs_table`, `needs_line`, `needs_first`, `needs_verbal`, `beyond`).
use Rattle.std.specs.Prelude.{◌≡◌, refl, Bool, true, not, ◌&&◌, List, [], ◌∷◌, ◌++◌, map, ℕ, ◌+◌, ◌<◌, length, eqb, leb}
use Rattle.std.proofs.Common.{sym, ap, ◌∙◌, inl, inr, arith, length-append, eq-eqb, leb-true}
use Prim.Native.String.{String}
use Rattle.outcome.specs.Outcome.{Outcome, answered, refused}
use Rattle.text.specs.Bytes.{bytes}
use Rattle.text.specs.Logic.{false_true, and_both}
use Rattle.text.specs.Text.{is_blank, past, keep, trimmed, trimmed_part, stands, find_in, part_of}
use Rattle.table.specs.Table.{ruling, tokens, of_mark}
use Rattle.lines.specs.declared.Digester.{Digester}
use Rattle.lines.specs.declared.Digester.TheVariants.{Verbose, Connect}
use Rattle.parser.specs.Parser.{numeric_error, prompt_from, custom_prompt, notice_at}
use Rattle.answers.specs.Answer.{Number, none, number, bare, with_payload}
use Rattle.answers.specs.declared.Kind.{Kind}
use Rattle.answers.specs.declared.Kind.TheVariants.{None, Ok, Prompt, Error, Notice}
use Rattle.answers.specs.declared.Answer.{Answer}
use Rattle.digest.specs.Digest as verbose
use Rattle.digest.specs.Calls.{digest_long}
use Rattle.digest.specs.Finished.{AnyOf, LineStart, at_crlf}
use Rattle.digest.specs.Examples.{Said, said_of}
use Rattle.numeric.specs.Numeric as numeric
use Rattle.selector.specs.Selector.{digest}
use Rattle.selector.specs.declared.Selector.{Selector}
use Rattle.selector.specs.declared.Selector.TheVariants.{Verbal, Numeric}
use Rattle.later.specs.Later.{Final, NoSuccess, ByOk}
use Rattle.later.specs.Stays.{final_now}

-- an input, bytes behind it, and what is heard of each
pub record Change : Type 0 where
  pub selector : Selector
  pub table : List ℕ
  pub input : String
  pub behind : String
  pub heard : Said
  pub both : Said

abbrev change : Selector → List ℕ → String → Said → String → Said → Change
change x t s a v b = record { selector = x; table = t; input = s; behind = v; heard = a; both = b }

abbrev said : Kind → Number → String → ℕ → Said
said k n p c = record { kind = k; number = n; payload = bytes p; consumed = c }

abbrev pub changes : List Change
changes =
    -- `NoSuccess` left out: a `CS` record, SEND
    change (Verbal Verbose) (bytes "CS\u{4}SEND") "\r\nOK\r\n" (said Ok none "" 6) "\r\nSEND\r\n" (said Ok none "OK" 14)
    -- `start` left out: a notice, +A, at a later start
    ∷ change (Verbal Verbose) (bytes "UR\u{2}+A") "\r\n\r\n+A\r\n" (said Notice (number 0) "+A" 8) ">" (said Prompt (number 62) "" 9)
    -- no OK line and no notice: CONNECT, bare and with a text; an error, with an OK line and with a prompt behind it; a prompt
    ∷ change (Verbal Verbose) [] "\r\nCONNECT\r\n" (said Ok none "" 11) "\r\nOK\r\n" (said Ok none "CONNECT" 17)
    ∷ change (Verbal Connect) [] "\r\nCONNECT 9600\r\n" (said Ok none "" 16) "\r\nOK\r\n" (said Ok none "CONNECT 9600" 22)
    ∷ change (Verbal Verbose) [] "\r\nERROR\r\n" (said Error none "" 9) "\r\nOK\r\n" (said Ok none "ERROR" 15)
    ∷ change (Verbal Verbose) [] "\r\nERROR\r\n" (said Error none "" 9) ">" (said Prompt (number 62) "" 10)
    ∷ change (Verbal Verbose) [] ">" (said Prompt (number 62) "" 1) "\r" (said Prompt (number 62) "" 2)
    -- another digester: the one for the numeric mode
    ∷ change Numeric [] "0\r" (said Ok none "" 2) "\n" (said None none "" 0)
    ∷ []

abbrev joined : Change → List ℕ
joined x = bytes x.input ++ bytes x.behind

abbrev hears : Change → List ℕ → Outcome Said
hears x s = said_of s (digest x.selector x.table s)

pub both_heard : map {B = Outcome Said × Outcome Said} (λ x. (hears x (bytes x.input), hears x (joined x))) changes ≡ map {B = Outcome Said × Outcome Said} (λ x. (answered x.heard, answered x.both)) changes
unfolding verbose.digest numeric.digest trimmed_part is_blank past keep trimmed stands find_in part_of ruling tokens of_mark numeric_error prompt_from custom_prompt notice_at
both_heard = refl

-- another count is another answer
abbrev count_of : Outcome Answer → ℕ
count_of (answered a) = a.consumed
count_of (refused n v) = 0

abbrev differs : Change → Bool
differs x =
    leb (length (bytes x.input) + length (bytes x.behind)) 4096
    && not (eqb (count_of (digest x.selector x.table (bytes x.input))) (count_of (digest x.selector x.table (joined x))))

abbrev all_differ : List Change → Bool
all_differ [] = true
all_differ (x ∷ l) = differs x && all_differ l

all_differ_lem : all_differ changes ≡ true
unfolding verbose.digest numeric.digest trimmed_part is_blank past keep trimmed stands find_in part_of ruling tokens of_mark numeric_error prompt_from custom_prompt notice_at
all_differ_lem = refl

none_final : (l : List Change) → all_differ l ≡ true → (a : Answer) → AnyOf (λ x. Final x.selector x.table (bytes x.input) a) l → ⊥
none_final [] h a g = g
none_final (x ∷ l) h a (inl g) =
    let s = bytes x.input in
    let v = bytes x.behind in
    let m = count_of (digest x.selector x.table s) in
    let n = count_of (digest x.selector x.table (s ++ v)) in
    let w = and_both (leb (length s + length v) 4096) (not (eqb m n)) (and_both (differs x) (all_differ l) h).0 in
    let l = leb-true (length s + length v) 4096 w.0 in
    let z : m ≡ n = ap count_of (final_now x.selector x.table s a g (omega arith) ∙ sym (g v l)) in
    false_true w.1 (ap not (eq-eqb m n z))
none_final (x ∷ l) h a (inr g) = none_final l (and_both (differs x) (all_differ l) h).1 a g

pub not_final : (a : Answer) → AnyOf (λ x. Final x.selector x.table (bytes x.input) a) changes → ⊥
not_final = none_final changes all_differ_lem

-- The theorem with one condition left out: false each time. That the answer is an Ok is no such condition: with an OK line in the input any answer is final (`line_settled`).
-- No `CS` record:
pub needs_table : ((t s : List ℕ) (a : Answer) → digest (Verbal Verbose) t s ≡ answered a → ByOk s a → Final (Verbal Verbose) t s a) → ⊥
unfolding verbose.digest trimmed_part is_blank past keep trimmed stands find_in part_of ruling tokens of_mark numeric_error prompt_from custom_prompt notice_at
needs_table f = not_final (bare Ok 6) (inl (f (bytes "CS\u{4}SEND") (bytes "\r\nOK\r\n") (bare Ok 6) refl (record { ok = refl; room = omega arith; line = refl })))

-- by an OK line:
pub needs_line : ((t s : List ℕ) (a : Answer) → NoSuccess t → digest (Verbal Verbose) t s ≡ answered a → a.kind ≡ Ok → Final (Verbal Verbose) t s a) → ⊥
unfolding verbose.digest trimmed_part is_blank past keep trimmed stands find_in part_of ruling tokens of_mark numeric_error prompt_from custom_prompt notice_at
needs_line f = not_final (bare Ok 11) (inr (inr (inl (f [] (bytes "\r\nCONNECT\r\n") (bare Ok 11) refl refl refl))))

-- the first of the line starts:
pub needs_first : ((t s : List ℕ) (a : Answer) (p : ℕ) → digest (Verbal Verbose) t s ≡ answered a → a.kind ≡ Notice → LineStart s p → a.payload.start ≡ p + 2 → Final (Verbal Verbose) t s a) → ⊥
unfolding verbose.digest trimmed_part is_blank past keep trimmed stands find_in part_of ruling tokens of_mark numeric_error prompt_from custom_prompt notice_at
needs_first f = let a = with_payload Notice 0 (record { start = 4; len = 2 }) 8 in not_final a (inr (inl (f (bytes "UR\u{2}+A") (bytes "\r\n\r\n+A\r\n") a 2 refl refl (at_crlf refl) refl)))

-- `verbose` or `connect`:
pub needs_verbal : ((t s : List ℕ) (a : Answer) → digest Numeric t s ≡ answered a → a.kind ≡ Ok → Final Numeric t s a) → ⊥
unfolding numeric.digest trimmed_part is_blank past keep trimmed
needs_verbal f = not_final (bare Ok 2) (inr (inr (inr (inr (inr (inr (inr (inl (f [] (bytes "0\r") (bare Ok 2) refl refl)))))))))

-- and up to 4,096 bytes: beyond them nothing is heard
pub beyond : (d : Digester) (t s v : List ℕ) → 4096 < length s + length v → digest (Verbal d) t (s ++ v) ≡ refused 1 []
beyond d t s v h = sym (digest_long d t (s ++ v) (rw length-append h))
