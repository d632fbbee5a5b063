-- R-2 added the digits and R-3 the text, and neither changed anything else of document 01's digester (`as_before`): without them an answer is what the rules gave
-- before, kind, number, payload and bytes consumed.
use mathlib.Core.Path.{◌≡◌, refl, ap, ◌∙◌}
use mathlib.Core.Bool.{Bool, true, false}
use mathlib.Core.List.{List, [], ◌∷◌}
use Prim.Native.Nat.{ℕ, zero, suc, ◌+◌}
use lib.ListN.{length, drop}
use Rattle.std.specs.Prelude.{Option, Some, None, if◌then◌else◌}
use Rattle.outcome.specs.Laws.{ways}
use Rattle.text.specs.Text.{stands, find_in}
use Rattle.text.specs.Laws.{found_at}
use Rattle.table.specs.Table.{Token, Entry, of_mark}
use Rattle.table.specs.declared.Mark.TheVariants as mark
use Rattle.lines.specs.Lines.{fixed_text, connect_place}
use Rattle.lines.specs.declared.Digester.TheVariants as digester
use Rattle.lines.specs.declared.Fixed.{Fixed}
use Rattle.lines.specs.declared.Fixed.TheVariants as fixed
use Rattle.parser.specs.Parser.{numeric_error, prompt_from, custom_prompt, notice_at}
use Rattle.text.specs.declared.Span.{Span}
use Rattle.parser.specs.declared.Digits.{Digits}
use Rattle.parser.specs.declared.Notice.{Notice}
use Rattle.parser.specs.declared.Notice.TheVariants as notice
use Rattle.answers.specs.Answer.{is_found, nothing, with_number, shift}
use Rattle.answers.specs.declared.Answer.{Answer}
use Rattle.items.specs.declared.Occurrence.{Occurrence}
use Rattle.items.specs.Rules.{or_else, first_of, skipped, heard, notices, first_custom, kind_of, success, custom_success, line_success, first_connect, connected, connect_success, successes, prompt_tried, custom_prompts, prompts, custom_error, heads, numeric_tried, numeric_errors, error_lines, line_tried, line_errors, not_allowed, errors, tried}
use Rattle.items.specs.Laws.{or_next_lem}
use Rattle.items.specs.Connect.{connect_bare}
use Rattle.digest.specs.Digest.{retries, again, after, digest_by, digest_in}

-- an answer without its digits and its text
abbrev plain : Answer → Answer
plain a = let nowhere : Span = record { start = 0; len = 0 } in record a { digits = nowhere; text = nowhere }

abbrev plainly : Option Answer → Option Answer
plainly (Some a) = Some (plain a)
plainly None = None

-- The rules as they were: CONNECT was a line like OK, and a numeric error was answered with its number alone; the other rules were as they are.
abbrev successes_before : List Entry → List ℕ → ℕ → Option Answer
successes_before l s e = or_else (custom_success (first_custom l s e) s e) (first_of (λ x. line_success s e x (find_in (fixed_text x) s e)) (fixed.Ok ∷ fixed.Connect ∷ []))

abbrev numeric_before : Fixed → Option Digits → Option Answer
numeric_before h (Some d) = Some (with_number (kind_of h) d.code d.end)
numeric_before h None = None

abbrev tried_before : List Token → List ℕ → ℕ → Option Answer
tried_before ts s e =
    or_else (notices (of_mark mark.Notice 0 ts) s e)
    (or_else (successes_before (of_mark mark.Success 0 ts) s e)
    (or_else (prompts (of_mark mark.Prompt 0 ts) s e)
    (or_else (custom_error (first_custom (of_mark mark.Error 0 ts) s e))
    (or_else (first_of (λ h. numeric_before h (numeric_error (fixed_text h) s e)) heads) (or_else (line_errors s e) (not_allowed s e))))))

unfoldable pub before_by : ℕ → List Token → List ℕ → Answer
before_by zero ts s = nothing 0
before_by (suc n) ts s = after s (before_by n ts) (skipped s) (tried_before ts s (skipped s))

-- the rules, one by one
either_plain : (t r u v : Option Answer) → plainly t ≡ u → plainly r ≡ v → plainly (or_else t r) ≡ or_else u v
unfolding or_else
either_plain (Some a) r u v p q = rw (← p)
either_plain None r u v p q = rw (← p) q

first_plain : (f g : Fixed → Option Answer) → ((l : Fixed) → plainly (f l) ≡ g l) → (ls : List Fixed) → plainly (first_of f ls) ≡ first_of g ls
unfolding first_of
first_plain f g p [] = refl
first_plain f g p (l ∷ ls) = either_plain (f l) (first_of f ls) (g l) (first_of g ls) (p l) (first_plain f g p ls)

heard_plain : (r : Notice) (n : ℕ) (s : List ℕ) (e : ℕ) → plainly (heard r n s e) ≡ heard r n s e
unfolding heard
heard_plain (notice.Ended end) n s e = refl
heard_plain notice.Unfinished n s e = refl
heard_plain notice.Nothing n s e = refl

module _ (s : List ℕ) (e : ℕ) where
  notices_plain : (l : List Entry) → plainly (notices l s e) ≡ notices l s e
  unfolding notices
  notices_plain [] = refl
  notices_plain (x ∷ l) = either_plain (heard (notice_at x.text s e) x.number s e) (notices l s e) _ _ (heard_plain (notice_at x.text s e) x.number s e) (notices_plain l)

  custom_success_plain : (r : Option Occurrence) → plainly (custom_success r s e) ≡ custom_success r s e
  unfolding custom_success success
  custom_success_plain (Some o) = refl
  custom_success_plain None = refl

  line_success_plain : (l : Fixed) (r : Option ℕ) → plainly (line_success s e l r) ≡ line_success s e l r
  unfolding line_success success
  line_success_plain l (Some k) = refl
  line_success_plain l None = refl

  -- for document 01's digester CONNECT is the bare line
  connect_plain : plainly (connect_success digester.Verbose s e (first_connect digester.Verbose s e)) ≡ line_success s e fixed.Connect (find_in (fixed_text fixed.Connect) s e)
  unfolding first_connect connect_place
  connect_plain = go (find_in (fixed_text fixed.Connect) s e) refl
    where
      go : (r : Option ℕ) → find_in (fixed_text fixed.Connect) s e ≡ r → plainly (connect_success digester.Verbose s e r) ≡ line_success s e fixed.Connect r
      go (Some k) q = unfold connect_success connected line_success success in rw (connect_bare digester.Verbose s k (found_at (fixed_text fixed.Connect) s e k q).here)
      go None q = unfold connect_success line_success in refl

  successes_plain : (l : List Entry) → plainly (successes digester.Verbose l s e) ≡ successes_before l s e
  unfolding successes first_of
  successes_plain l =
      either_plain (custom_success (first_custom l s e) s e) _ _ _ (custom_success_plain (first_custom l s e))
      (either_plain (line_success s e fixed.Ok (find_in (fixed_text fixed.Ok) s e)) _ _ _ (line_success_plain fixed.Ok (find_in (fixed_text fixed.Ok) s e)) (connect_plain ∙ or_next_lem (line_success s e fixed.Connect (find_in (fixed_text fixed.Connect) s e))))

  prompt_plain : (b : Bool) (c : ℕ) → plainly (prompt_tried b c s) ≡ prompt_tried b c s
  unfolding prompt_tried
  prompt_plain true c = refl
  prompt_plain false c = refl

  custom_prompts_plain : (l : List Entry) → plainly (custom_prompts l s e) ≡ custom_prompts l s e
  unfolding custom_prompts
  custom_prompts_plain [] = refl
  custom_prompts_plain (x ∷ l) = either_plain (prompt_tried (custom_prompt x.text s e) x.prompt s) (custom_prompts l s e) _ _ (prompt_plain (custom_prompt x.text s e) x.prompt) (custom_prompts_plain l)

  prompts_plain : (l : List Entry) → plainly (prompts l s e) ≡ prompts l s e
  unfolding prompts
  prompts_plain l =
      either_plain (custom_prompts l s e) _ _ _ (custom_prompts_plain l)
      (either_plain (prompt_tried (prompt_from 62 s e) 62 s) (prompt_tried (prompt_from 64 s e) 64 s) _ _ (prompt_plain (prompt_from 62 s e) 62) (prompt_plain (prompt_from 64 s e) 64))

  custom_error_plain : (r : Option Occurrence) → plainly (custom_error r) ≡ custom_error r
  unfolding custom_error
  custom_error_plain (Some o) = refl
  custom_error_plain None = refl

  numeric_plain : (h : Fixed) (r : Option Digits) → plainly (numeric_tried h r) ≡ numeric_before h r
  unfolding numeric_tried
  numeric_plain h (Some d) = refl
  numeric_plain h None = refl

  line_plain : (l : Fixed) (r : Option ℕ) → plainly (line_tried l r) ≡ line_tried l r
  unfolding line_tried
  line_plain l (Some p) = refl
  line_plain l None = refl

  na_plain : plainly (not_allowed s e) ≡ not_allowed s e
  unfolding not_allowed
  na_plain = ways (λ t. plainly t ≡ t) (stands (fixed_text fixed.Na) s e) (λ q. refl) (λ q. refl)

  errors_plain : (l : List Entry) → plainly (errors l s e) ≡ or_else (custom_error (first_custom l s e)) (or_else (first_of (λ h. numeric_before h (numeric_error (fixed_text h) s e)) heads) (or_else (line_errors s e) (not_allowed s e)))
  unfolding errors numeric_errors line_errors
  errors_plain l =
      either_plain (custom_error (first_custom l s e)) _ _ _ (custom_error_plain (first_custom l s e))
      (either_plain (numeric_errors s e) _ _ _ (first_plain (λ h. numeric_tried h (numeric_error (fixed_text h) s e)) (λ h. numeric_before h (numeric_error (fixed_text h) s e)) (λ h. numeric_plain h (numeric_error (fixed_text h) s e)) heads)
      (either_plain (line_errors s e) (not_allowed s e) _ _ (first_plain (λ x. line_tried x (find_in (fixed_text x) s e)) (λ x. line_tried x (find_in (fixed_text x) s e)) (λ x. line_plain x (find_in (fixed_text x) s e)) error_lines) na_plain))

  tried_plain : (ts : List Token) → plainly (tried digester.Verbose ts s e) ≡ tried_before ts s e
  unfolding tried
  tried_plain ts =
      either_plain (notices (of_mark mark.Notice 0 ts) s e) _ _ _ (notices_plain (of_mark mark.Notice 0 ts))
      (either_plain (successes digester.Verbose (of_mark mark.Success 0 ts) s e) _ _ _ (successes_plain (of_mark mark.Success 0 ts))
      (either_plain (prompts (of_mark mark.Prompt 0 ts) s e) (errors (of_mark mark.Error 0 ts) s e) _ _ (prompts_plain (of_mark mark.Prompt 0 ts)) (errors_plain (of_mark mark.Error 0 ts))))

-- the retry
again_plain : (e : ℕ) (r : Answer) → plain (again e r) ≡ again e (plain r)
unfolding again
again_plain e r = go (is_found r)
  where
    go : (b : Bool) → plain (if b then shift (e + 2) r else nothing e) ≡ (if b then shift (e + 2) (plain r) else nothing e)
    go true = unfold shift in refl
    go false = refl

after_plain : (s : List ℕ) (f g : List ℕ → Answer) (e : ℕ) (t : Option Answer) → plain (f (drop (e + 2) s)) ≡ g (drop (e + 2) s) → plain (after s f e t) ≡ after s g e (plainly t)
unfolding after
after_plain s f g e (Some a) p = refl
after_plain s f g e None p = go (retries s e)
  where
    go : (b : Bool) → plain (if b then again e (f (drop (e + 2) s)) else nothing e) ≡ (if b then again e (g (drop (e + 2) s)) else nothing e)
    go true = again_plain e (f (drop (e + 2) s)) ∙ ap (again e) p
    go false = refl

by_plain : (n : ℕ) (ts : List Token) (s : List ℕ) → plain (digest_by n digester.Verbose ts s) ≡ before_by n ts s
unfolding digest_by before_by
by_plain zero ts s = refl
by_plain (suc n) ts s =
    let e = skipped s in
    after_plain s (digest_by n digester.Verbose ts) (before_by n ts) e (tried digester.Verbose ts s e) (by_plain n ts (drop (e + 2) s)) ∙ ap (after s (before_by n ts) e) (tried_plain s e ts)

pub as_before : (ts : List Token) (s : List ℕ) → plain (digest_in digester.Verbose ts s) ≡ before_by (suc (length s)) ts s
unfolding digest_in
as_before ts s = by_plain (suc (length s)) ts s
