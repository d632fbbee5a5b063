-- The digester that a caller chooses (R-1, R-3), and all that the ingress knows of it.
use Rattle.std.specs.Prelude.{◌≡◌, true, false, List, ℕ, ◌+◌, ◌≤◌, ◌<◌, length}
use Rattle.std.proofs.Common.{arith}
use Rattle.outcome.specs.Outcome.{Outcome, answered, refused}
use Rattle.table.specs.Table.{tokens, ruling}
use Rattle.table.specs.Laws.{ruling_two}
use Rattle.answers.specs.declared.Answer.{Answer}
use Rattle.answers.specs.Answer.{is_found, is_notice}
use Rattle.lines.specs.declared.Digester.{Digester}
use Rattle.digest.specs.Digest as verbose
use Rattle.digest.specs.Finished.{NothingFinished}
use Rattle.digest.specs.Calls as verboses
use Rattle.numeric.specs.Numeric as numeric
use Rattle.numeric.specs.Heard.{NoCode}
use Rattle.numeric.specs.Calls as numerics
use Rattle.selector.specs.declared.Selector.{Selector}
use Rattle.selector.specs.declared.Selector.TheVariants.{Verbal, Numeric}

-- What is known of an answer, under a table that the digester takes and of at most 4,096 bytes: one that found something consumes at least one byte, and its payload
-- lies in what it consumes; where it found nothing, nothing is finished.
pub record Trusted (a : Answer) (NothingFinished : Type 0) : Type 0 where
  pub some : is_found a ≡ true → 1 ≤ a.consumed
  pub payload : is_found a ≡ true → a.payload.start + a.payload.len ≤ a.consumed
  pub quiet : is_found a ≡ false → NothingFinished

-- All that the ingress knows of a digester under a table: whether it takes the table, which it refuses by 2; what it answers, of which it consumes at most the input
-- and a notice's number fits a byte; and when nothing is finished.
pub record Choice : Type 1 where
  pub rules : Outcome ℕ
  pub answers : List ℕ → Answer
  pub Quiet : List ℕ → Type 0
  pub two : (n : ℕ) (v : List ℕ) → rules ≡ refused n v → n ≡ 2
  pub within : (s : List ℕ) → (answers s).consumed ≤ length s
  pub byte : (s : List ℕ) → is_notice (answers s).kind ≡ true → (answers s).number < 256
  pub trusted : (n : ℕ) → rules ≡ answered n → (s : List ℕ) → length s ≤ 4096 → Trusted (answers s) (Quiet s)

-- those of document 01's lines
abbrev verbal : Digester → List ℕ → Choice
verbal d t =
    record {
      rules = ruling t;
      answers = verbose.digest_unchecked d t;
      Quiet = NothingFinished d (tokens t);
      two = ruling_two t;
      within = verboses.unchecked_within d t;
      byte = λ s q. omega (arith, verboses.unchecked_below d t s q);
      trusted = λ n e s h. let x = verboses.unchecked_heard d t s h n e in record { some = x.some; payload = λ f. (x.item f).payload; quiet = x.none };
    }

-- the one for modems in V0
abbrev coded : List ℕ → Choice
coded t =
    record {
      rules = numeric.ruled t;
      answers = numeric.digest_unchecked;
      Quiet = NoCode;
      two = numerics.ruled_two t;
      within = λ s. (numerics.unchecked_inside s).all;
      byte = λ s q. numerics.unchecked_byte s;
      trusted = λ n e s h. let x = numerics.unchecked_heard s in record { some = x.some; payload = λ f. (numerics.unchecked_inside s).payload; quiet = x.none };
    }

abbrev pub choice : Selector → List ℕ → Choice
choice (Verbal d) t = verbal d t
choice Numeric t = coded t

-- what the chosen digester says of an input, its refusals included
abbrev pub digest : Selector → List ℕ → List ℕ → Outcome Answer
digest (Verbal d) t s = verbose.digest d t s
digest Numeric t s = numeric.digest t s
