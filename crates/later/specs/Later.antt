-- R-13, more bytes don't change what was heard: when an answer is final, and the answers of which that is shown.
use Rattle.std.specs.Prelude.{◌≡◌, true, List, [], ◌++◌, ℕ, ◌+◌, ◌-◌, ◌≤◌, length}
use Rattle.outcome.specs.Outcome.{answered}
use Rattle.text.specs.Text.{stands}
use Rattle.table.specs.Table.{tokens, of_mark}
use Rattle.table.specs.declared.Mark.TheVariants as mark
use Rattle.lines.specs.Lines.{fixed_text}
use Rattle.lines.specs.declared.Fixed.TheVariants as fixed
use Rattle.answers.specs.declared.Kind.TheVariants as kind
use Rattle.answers.specs.declared.Answer.{Answer}
use Rattle.digest.specs.Finished.{LineStart}
use Rattle.selector.specs.Selector.{Choice, digest}
use Rattle.selector.specs.declared.Selector.{Selector}
use Rattle.turn.specs.Turn.{World, says}
use Rattle.ingress.specs.Story.{Stretch, Arrives, Consumes, Via, Waits, committed_bytes}
use Rattle.ingress.specs.Ingress.{run, committed, advanced}

-- An answer to an input of at most 4,096 bytes is final: it is the digest's, and stays so, consumed count included, with any bytes added behind, up to 4,096 in all.
-- Under the same table no refusal comes.
abbrev pub Final : Selector → List ℕ → List ℕ → Answer → Type 0
Final x t s a = (v : List ℕ) → length s + length v ≤ 4096 → digest x t (s ++ v) ≡ answered a

-- with no `CS` record
abbrev pub NoSuccess : List ℕ → Type 0
NoSuccess t = of_mark mark.Success 0 (tokens t) ≡ []

-- an Ok by an OK line: the six bytes before the consumed count are CRLF, `OK`, CRLF
pub record ByOk (s : List ℕ) (a : Answer) : Type 0 where
  pub ok : a.kind ≡ kind.Ok
  pub room : 6 ≤ a.consumed
  pub line : stands (fixed_text fixed.Ok) s (a.consumed - 6) ≡ true

-- the input's first line start
pub record FirstStart (s : List ℕ) (p : ℕ) : Type 0 where
  pub start : LineStart s p
  pub first : (q : ℕ) → LineStart s q → p ≤ q

-- a notice that begins there: its payload, which is its line trimmed, stands behind the two bytes of CRLF
pub record NoticeFirst (s : List ℕ) (a : Answer) : Type 0 where
  pub p : ℕ
  pub notice : a.kind ≡ kind.Notice
  pub start : FirstStart s p
  pub begins : a.payload.start ≡ p + 2

-- The answers that R-13 names.
pub data Settled (t s : List ℕ) (a : Answer) : Type 0 where
  by_ok : NoSuccess t → ByOk s a → Settled t s a
  by_notice : NoticeFirst s a → Settled t s a

-- What that means for an advance. Had the bytes b come before the turn from w, as they have in v (`came`), then the turn would have heard the same (`same`): the same
-- stretch consumed and delivered, with b behind what it leaves (`goes`), or the same notice waiting for a full queue (`waits`).
pub record Sooner (c : Choice) (w : World) (b : List ℕ) (v : World) : Type 0 where
  pub came : Arrives w b v
  pub same : says c v ≡ says c w
  pub goes : (x : Stretch) (u : World) → Consumes c w x u → Via (Consumes c v x) (Arrives u b)
  pub waits : Waits c w → Waits c v

-- An advance by n runs its turns from where n bytes are committed, one by n + m from where m more are: the first turn is the same.
pub record AdvanceSooner (c : Choice) (w : World) (n m : ℕ) : Type 0 where
  pub first : run c (committed w n) ≡ advanced c n w
  pub both : run c (committed w (n + m)) ≡ advanced c (n + m) w
  pub sooner : Sooner c (committed w n) (committed_bytes (committed w n) m) (committed w (n + m))
