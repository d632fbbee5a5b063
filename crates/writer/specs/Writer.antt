-- The modem's side (R-12): how an answer is written, when it would be read back so, and what a call leaves. They compute.
use Rattle.std.specs.Prelude.{Option, Some, None, Result, Ok, Err, Bool, false, ◌&&◌, not, List, [], ◌∷◌, ◌++◌, ℕ, length, eqb, ltb, if◌then◌else◌}
use Rattle.outcome.specs.Outcome.{Outcome, answered, refused}
use Rattle.text.specs.Bytes.{bytes}
use Rattle.text.specs.Text.{stands, part_of}
use Rattle.table.specs.Table.{ruling}
use Rattle.table.specs.declared.TableError.{TableError}
use Rattle.table.specs.declared.TableError.TheVariants as tables
use Rattle.lines.specs.Lines.{crlf, fixed_text}
use Rattle.lines.specs.declared.Digester.TheVariants.{Verbose}
use Rattle.lines.specs.declared.Fixed.TheVariants as fixed
use Rattle.moves.specs.Moves.{put}
use Rattle.ink.specs.Ink.{decimal}
use Rattle.answers.specs.Answer.{kind_number, has_number, is_found}
use Rattle.answers.specs.declared.Kind.{Kind}
use Rattle.answers.specs.declared.Kind.TheVariants as kind
use Rattle.answers.specs.declared.Answer.{Answer}
use Rattle.digest.specs.Digest.{digest}
use Rattle.writer.specs.declared.SayError.{SayError}
use Rattle.writer.specs.declared.SayError.TheVariants as says

-- Each line goes between CRLF and CRLF,
unfoldable pub line : List ℕ → List ℕ
line p = crlf ++ p ++ crlf

-- an Ok's payload as such a line before the OK line unless it is empty;
unfoldable pub ok_with : List ℕ → List ℕ
unfolding line
ok_with [] = fixed_text fixed.Ok
ok_with (x ∷ p) = line (x ∷ p) ++ fixed_text fixed.Ok

-- a code behind its head and one space, without leading zeros;
unfoldable pub coded : List ℕ → Option ℕ → List ℕ
coded h None = []
coded h (Some n) = h ++ bytes " " ++ decimal n ++ crlf

-- a prompt is CRLF, its byte and a space.
unfoldable pub prompted : Option ℕ → List ℕ
prompted None = []
prompted (Some b) = if ltb 255 b then [] else crlf ++ (b ∷ bytes " ")

-- An answer, written out. Of another kind, and where the number isn't there or is no byte, nothing is written.
unfoldable pub written : Kind → Option ℕ → List ℕ → List ℕ
unfolding line ok_with coded prompted
written kind.None n p = []
written kind.Ok n p = ok_with p
written kind.Prompt n p = prompted n
written kind.Cme n p = coded (fixed_text fixed.Cme) n
written kind.Cms n p = coded (fixed_text fixed.Cms) n
written kind.Unknown n p = []
written kind.NotAllowed n p = []
written kind.Error n p = fixed_text fixed.Error
written kind.NoCarrier n p = fixed_text fixed.NoCarrier
written kind.Busy n p = fixed_text fixed.Busy
written kind.NoAnswer n p = fixed_text fixed.NoAnswer
written kind.NoDialtone n p = fixed_text fixed.NoDialtone
written kind.Custom n p = []
written kind.Notice n p = line p

-- is the answer's number the one given, or has it none, as given?
unfoldable pub gives : Option ℕ → Answer → Bool
gives None a = not (has_number a.kind)
gives (Some n) a = has_number a.kind && eqb a.number n

-- are the two the same bytes?
unfoldable pub same : List ℕ → List ℕ → Bool
same p q = eqb (length p) (length q) && stands p q 0

-- Is the answer a of the bytes b this kind, number and payload, and are they consumed whole? None is no answer.
unfoldable pub heard_as : Kind → Option ℕ → List ℕ → List ℕ → Answer → Bool
unfolding gives same
heard_as k n p b a =
    is_found a
    && (eqb (kind_number a.kind) (kind_number k)
    && (gives n a && (same p (part_of b a.payload.start a.payload.len) && eqb a.consumed (length b))))

-- what can't be digested isn't read back
unfoldable pub heard_in : Kind → Option ℕ → List ℕ → List ℕ → Outcome Answer → Bool
unfolding heard_as
heard_in k n p b (answered a) = heard_as k n p b a
heard_in k n p b (refused m values) = false

-- Written out and digested under the same table by document 01's digester, is the answer read back?
unfoldable pub reads_back : List ℕ → Kind → Option ℕ → List ℕ → Bool
unfolding heard_in written
reads_back t k n p = let b = written k n p in heard_in k n p b (digest Verbose t b)

-- what a call says, and the output memory that it leaves
pub record Saying : Type 0 where
  pub said : Outcome ℕ
  pub output : List ℕ

-- a faulty table's refusal as the call's
abbrev pub table_error : TableError → SayError
table_error (tables.Faulty k) = says.BadTable k

-- document 01's and R-12's number and values for each case of the answer
abbrev pub outcome : Result ℕ SayError → Outcome ℕ
outcome (Ok n) = answered n
outcome (Err (says.BadTable k)) = refused 2 (k ∷ [])
outcome (Err says.Unread) = refused 16 []
outcome (Err says.Short) = refused 17 []

abbrev pub saying : Result ℕ SayError → List ℕ → Saying
saying r o = record { said = outcome r; output = o }

abbrev refuses : ℕ → List ℕ → Saying
refuses n o = record { said = refused n []; output = o }

-- Refusal 16 when the bytes would not be read back so; 17 when the output memory is too short for them; in this order, output unchanged. Else they stand at its front.
unfoldable pub laid_out : Bool → List ℕ → List ℕ → Saying
laid_out read b o =
    if not read then refuses 16 o
    else if ltb (length o) (length b) then refuses 17 o
    else record { said = answered (length b); output = put o 0 b }

-- Refusal 2 as before, in front of these.
unfoldable pub say_under : Outcome ℕ → List ℕ → Kind → Option ℕ → List ℕ → List ℕ → Saying
unfolding reads_back written laid_out
say_under (refused n values) t k g p o = record { said = refused n values; output = o }
say_under (answered n) t k g p o = laid_out (reads_back t k g p) (written k g p) o

unfoldable pub say : List ℕ → Kind → Option ℕ → List ℕ → List ℕ → Saying
unfolding say_under
say t k g p o = say_under (ruling t) t k g p o
