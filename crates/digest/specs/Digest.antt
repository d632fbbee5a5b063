-- Rules 6 and 7 of one digest, and its refusals. They compute. Rules 1 to 5 are items' `Rules`.
use Rattle.std.specs.Prelude.{Option, Some, None, Bool, ◌&&◌, List, [], ℕ, zero, suc, ◌+◌, ◌-◌, length, drop, ltb, if◌then◌else◌}
use Rattle.outcome.specs.Outcome.{Outcome, answered, refused}
use Rattle.text.specs.Text.{stands}
use Rattle.table.specs.Table.{Token, tokens, ruling}
use Rattle.lines.specs.Lines.{crlf}
use Rattle.lines.specs.declared.Digester.{Digester}
use Rattle.answers.specs.declared.Answer.{Answer}
use Rattle.answers.specs.Answer.{is_found, nothing, shift}
use Rattle.items.specs.Rules.{skipped, tried}

-- Rule 6. If buf starts with CRLF and has more than 4 bytes, the digester calls itself on what follows those two bytes.
unfoldable pub retries : List ℕ → ℕ → Bool
retries s e = stands crlf s e && ltb 4 (length s - e)

-- If that isn't None, its answer stands, with e + 2 more consumed. If it is None, its consumed count is dropped.
unfoldable pub again : ℕ → Answer → Answer
unfolding shift
again e r = if is_found r then shift (e + 2) r else nothing e

-- Rule 7. Else None, e. Here f is the digester itself.
unfoldable pub after : List ℕ → (List ℕ → Answer) → ℕ → Option Answer → Answer
unfolding again retries
after s f e (Some a) = a
after s f e None = let r = again e (f (drop (e + 2) s)) in if retries s e then r else nothing e

-- with fuel, of which one more than the input's length is enough
unfoldable pub digest_by : ℕ → Digester → List Token → List ℕ → Answer
unfolding after tried skipped
digest_by zero d ts s = nothing 0
digest_by (suc n) d ts s = let e = skipped s in after s (digest_by n d ts) e (tried d ts s e)

-- rules 1 to 7, by the digester that the caller chose, under a table's tokens
unfoldable pub digest_in : Digester → List Token → List ℕ → Answer
unfolding digest_by
digest_in d ts s = digest_by (suc (length s)) d ts s

-- Refusal 1: the input is over 4,096 bytes. Refusal 2: the table breaks a rule; answers the first faulty record's number.
unfoldable pub under_table : Outcome ℕ → Digester → List ℕ → List ℕ → Outcome Answer
unfolding digest_in
under_table (answered n) d t s = answered (digest_in d (tokens t) s)
under_table (refused n values) d t s = refused n values

unfoldable pub digest : Digester → List ℕ → List ℕ → Outcome Answer
unfolding under_table
digest d t s = if ltb 4096 (length s) then refused 1 [] else under_table (ruling t) d t s

-- under a table that isn't asked about: its records as they lie; an input over 4,096 bytes is None, 0
unfoldable pub digest_unchecked : Digester → List ℕ → List ℕ → Answer
unfolding digest_in
digest_unchecked d t s = if ltb 4096 (length s) then nothing 0 else digest_in d (tokens t) s
