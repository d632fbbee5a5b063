-- The calls that a user makes: their refusals, and what they heard.
use Rattle.std.specs.Prelude.{Result, Ok, Err, is_ok, true, ◌≡◌, List, [], ◌∷◌, ℕ, ◌≤◌, ◌<◌, length, ltb}
use Rattle.std.proofs.Math.Path.{refl, ap}
use Rattle.std.proofs.Common.{sym, ◌∙◌, arith, le-ltb, lt-ltb}
use Rattle.outcome.specs.Outcome.{Outcome, answered, refused}
use Rattle.text.specs.Logic.{false_true}
use Rattle.table.specs.Table.{tokens, ruling}
use Rattle.table.specs.Table as tables
use Rattle.table.specs.declared.TableError.{TableError}
use Rattle.table.specs.declared.Mark.TheVariants as mark
use Rattle.table.specs.Laws.{good_tokens, numbers_below}
use Rattle.lines.specs.declared.Digester.{Digester}
use Rattle.answers.specs.declared.Answer.{Answer}
use Rattle.outcome.specs.Laws.{ways}
use Rattle.answers.specs.Answer.{Within}
use Rattle.answers.specs.Laws.{nothing_within}
use Rattle.digest.specs.Digest.{digest_in, under_table, digest, digest_unchecked}
use Rattle.digest.specs.Heard.{Heard, HeardIn}
use Rattle.digest.specs.Step.{digest_within}
use Rattle.digest.specs.Numbered.{Below, digest_below}
use Rattle.digest.specs.Theorem.{heard_so}

-- a table that `check` finds good
pub found_good : (t : List ℕ) (r : Result ℕ TableError) → tables.outcome r ≡ ruling t → is_ok r ≡ true → (n : ℕ) × (answered n ≡ ruling t)
found_good t (Ok n) p h = (n, p)
found_good t (Err e) p h = cc

-- what a digest under a good table hears
pub digest_heard : (d : Digester) (t s : List ℕ) (n : ℕ) → ruling t ≡ answered n → (a : Answer) → a ≡ digest_in d (tokens t) s → Heard d (tokens t) s a
digest_heard d t s n h a e = heard_so d (tokens t) (good_tokens t n h).texts s a e

module _ (d : Digester) (t s : List ℕ) where
  -- Demand 3, first half, closed: it holds of the definition, and so of whatever equals it.
  under_hears : (x : Outcome ℕ) → ruling t ≡ x → HeardIn d t s (under_table x d t s)
  unfolding under_table
  under_hears (answered n) e = digest_heard d t s n e (digest_in d (tokens t) s) refl
  under_hears (refused k v) e = tt

  pub digest_hears : HeardIn d t s (digest d t s)
  unfolding digest
  digest_hears = ways (HeardIn d t s) (ltb 4096 (length s)) (λ q. tt) (λ q. under_hears (ruling t) refl)

  pub digest_long : 4096 < length s → refused 1 [] ≡ digest d t s
  unfolding digest
  digest_long h = rw (lt-ltb 4096 (length s) h)

  module _ (l : length s ≤ 4096) where
    at_table : under_table (ruling t) d t s ≡ digest d t s
    unfolding digest
    at_table = rw (le-ltb 4096 (length s) l)

    pub digest_bad : (k : ℕ) → refused 2 (k ∷ []) ≡ ruling t → refused 2 (k ∷ []) ≡ digest d t s
    unfolding under_table
    digest_bad k p = ap (λ (x : Outcome ℕ). under_table x d t s) p ∙ at_table

    pub digest_is : (n : ℕ) → answered n ≡ ruling t → (a : Answer) → a ≡ digest_in d (tokens t) s → answered a ≡ digest d t s
    unfolding under_table
    digest_is n p a w = ap answered w ∙ ap (λ (x : Outcome ℕ). under_table x d t s) p ∙ at_table

    pub unchecked_is : (a : Answer) → a ≡ digest_in d (tokens t) s → a ≡ digest_unchecked d t s
    unfolding digest_unchecked
    unchecked_is a w = rw (le-ltb 4096 (length s) l) w

    -- demand 3, first half, under a good table that isn't checked again
    pub unchecked_heard : (n : ℕ) → ruling t ≡ answered n → Heard d (tokens t) s (digest_unchecked d t s)
    unchecked_heard n h = digest_heard d t s n h (digest_unchecked d t s) (sym (unchecked_is (digest_in d (tokens t) s) refl))

  -- what a digest under a checked table consumes lies in the input, and payload, digits and text in what is consumed
  pub unchecked_inside : Within (length s) (digest_unchecked d t s)
  unfolding digest_unchecked
  unchecked_inside = ways (Within (length s)) (ltb 4096 (length s)) (λ q. nothing_within 0 (length s) (omega arith)) (λ q. digest_within d (tokens t) s)

  -- a notice's number is below 64, under any table
  pub unchecked_below : Below 64 (digest_unchecked d t s)
  unfolding digest_unchecked
  unchecked_below = ways (Below 64) (ltb 4096 (length s)) (λ q f. absurd (false_true f refl)) (λ q. digest_below 64 d (tokens t) (numbers_below mark.Notice t) s)

  pub unchecked_within : (digest_unchecked d t s).consumed ≤ length s
  unchecked_within = unchecked_inside.all
