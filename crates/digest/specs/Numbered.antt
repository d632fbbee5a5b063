-- A notice's number is its record's in the table, so below 64: it fits the byte that a queue's record has for it.
use Rattle.std.specs.Prelude.{Option, Some, None, ◌≡◌, Bool, true, ℕ, ◌+◌, ◌<◌, length, drop}
use Rattle.std.proofs.Math.Path.{refl}
use Rattle.std.proofs.Math.Bool.{false}
use mathlib.Core.List.{List, [], ◌∷◌}
use Rattle.outcome.specs.Laws.{ways}
use Rattle.text.specs.Logic.{false_true}
use Rattle.text.specs.Text.{stands, find_in}
use Rattle.table.specs.Table.{Token, Entry, of_mark}
use Rattle.table.specs.Laws.{NumbersBelow}
use Rattle.table.specs.declared.Mark.TheVariants as mark
use Rattle.lines.specs.Lines.{fixed_text}
use Rattle.lines.specs.declared.Digester.{Digester}
use Rattle.lines.specs.declared.Fixed.{Fixed}
use Rattle.lines.specs.declared.Fixed.TheVariants as fixed
use Rattle.parser.specs.declared.Digits.{Digits}
use Rattle.parser.specs.Parser.{numeric_error, prompt_from, custom_prompt, notice_at}
use Rattle.parser.specs.declared.Notice.{Notice}
use Rattle.parser.specs.declared.Notice.TheVariants as notice
use Rattle.answers.specs.declared.Answer.{Answer}
use Rattle.answers.specs.Answer.{is_found, is_notice, shift}
use Rattle.items.specs.declared.Occurrence.{Occurrence}
use Rattle.items.specs.Rules.{or_else, skipped, heard, notices, first_custom, kind_of, success, custom_success, line_success, connect_at, first_connect, connected, connect_success, successes, prompt_tried, custom_prompts, prompts, custom_error, heads, numeric_tried, numeric_errors, error_lines, line_tried, line_errors, not_allowed, errors, tried}
use Rattle.digest.specs.Digest.{retries, again, after, digest_in}
use Rattle.digest.specs.Step.{TriedHas, either_has, first_has, by_length, rest_shorter, digest_step}

abbrev pub Below : ℕ → Answer → Type 0
Below k a = is_notice a.kind ≡ true → a.number < k

-- an answer of another kind
other : {A : Type 0} (b : Bool) → b ≡ false → b ≡ true → A
other b h q = absurd (false_true q h)

kind_other : (l : Fixed) → is_notice (kind_of l) ≡ false
kind_other fixed.Ok = refl
kind_other fixed.Connect = refl
kind_other fixed.Error = refl
kind_other fixed.CommandNotSupport = refl
kind_other fixed.NoCarrier = refl
kind_other fixed.Busy = refl
kind_other fixed.NoAnswer = refl
kind_other fixed.NoDialtone = refl
kind_other fixed.Na = refl
kind_other fixed.Cme = refl
kind_other fixed.Cms = refl
kind_other fixed.Modem = refl
kind_other fixed.ConnectText = refl

module _ (k : ℕ) (s : List ℕ) (e : ℕ) where
  heard_below : (n : ℕ) → n < k → (r : Notice) → TriedHas (Below k) (heard r n s e)
  unfolding heard
  heard_below n h (notice.Ended end) = λ q. h
  heard_below n h notice.Unfinished = other false refl
  heard_below n h notice.Nothing = tt

  notices_below : (l : List Entry) → NumbersBelow k l → TriedHas (Below k) (notices l s e)
  unfolding notices
  notices_below [] w = tt
  notices_below (x ∷ l) w = either_has (Below k) (heard (notice_at x.text s e) x.number s e) (notices l s e) (heard_below x.number w.0 (notice_at x.text s e)) (notices_below l w.1)

  custom_success_below : (r : Option Occurrence) → TriedHas (Below k) (custom_success r s e)
  unfolding custom_success success
  custom_success_below (Some o) = other false refl
  custom_success_below None = tt

  line_success_below : (l : Fixed) (r : Option ℕ) → TriedHas (Below k) (line_success s e l r)
  unfolding line_success success
  line_success_below l (Some p) = other false refl
  line_success_below l None = tt

  connected_below : (p : ℕ) (r : Option ℕ) → TriedHas (Below k) (connected s e p r)
  unfolding connected
  connected_below p (Some end) = other false refl
  connected_below p None = tt

  connect_below : (d : Digester) (r : Option ℕ) → TriedHas (Below k) (connect_success d s e r)
  unfolding connect_success
  connect_below d (Some p) = connected_below p (connect_at d s p)
  connect_below d None = tt

  prompt_below : (b : Bool) (c : ℕ) → TriedHas (Below k) (prompt_tried b c s)
  unfolding prompt_tried
  prompt_below b c = ways (TriedHas (Below k)) b (λ q. other false refl) (λ q. tt)

  custom_prompts_below : (l : List Entry) → TriedHas (Below k) (custom_prompts l s e)
  unfolding custom_prompts
  custom_prompts_below [] = tt
  custom_prompts_below (x ∷ l) = either_has (Below k) (prompt_tried (custom_prompt x.text s e) x.prompt s) (custom_prompts l s e) (prompt_below (custom_prompt x.text s e) x.prompt) (custom_prompts_below l)

  custom_error_below : (r : Option Occurrence) → TriedHas (Below k) (custom_error r)
  unfolding custom_error
  custom_error_below (Some o) = other false refl
  custom_error_below None = tt

  numeric_below : (h : Fixed) (r : Option Digits) → TriedHas (Below k) (numeric_tried h r)
  unfolding numeric_tried
  numeric_below h (Some d) = other (is_notice (kind_of h)) (kind_other h)
  numeric_below h None = tt

  line_below : (l : Fixed) (r : Option ℕ) → TriedHas (Below k) (line_tried l r)
  unfolding line_tried
  line_below l (Some p) = other (is_notice (kind_of l)) (kind_other l)
  line_below l None = tt

  na_below : TriedHas (Below k) (not_allowed s e)
  unfolding not_allowed
  na_below = ways (TriedHas (Below k)) (stands (fixed_text fixed.Na) s e) (λ q. other false refl) (λ q. tt)

  -- of rules 3 to 5, which have no notice
  pub others_below : (d : Digester) (ts : List Token) → TriedHas (Below k) (or_else (successes d (of_mark mark.Success 0 ts) s e) (or_else (prompts (of_mark mark.Prompt 0 ts) s e) (errors (of_mark mark.Error 0 ts) s e)))
  unfolding successes prompts errors numeric_errors line_errors
  others_below d ts =
      either_has (Below k) (successes d (of_mark mark.Success 0 ts) s e) _
      (either_has (Below k) (custom_success (first_custom (of_mark mark.Success 0 ts) s e) s e) _ (custom_success_below (first_custom (of_mark mark.Success 0 ts) s e))
      (either_has (Below k) (line_success s e fixed.Ok (find_in (fixed_text fixed.Ok) s e)) _ (line_success_below fixed.Ok (find_in (fixed_text fixed.Ok) s e)) (connect_below d (first_connect d s e))))
      (either_has (Below k) (prompts (of_mark mark.Prompt 0 ts) s e) _
      (either_has (Below k) (custom_prompts (of_mark mark.Prompt 0 ts) s e) _ (custom_prompts_below (of_mark mark.Prompt 0 ts))
      (either_has (Below k) (prompt_tried (prompt_from 62 s e) 62 s) _ (prompt_below (prompt_from 62 s e) 62) (prompt_below (prompt_from 64 s e) 64)))
      (either_has (Below k) (custom_error (first_custom (of_mark mark.Error 0 ts) s e)) _ (custom_error_below (first_custom (of_mark mark.Error 0 ts) s e))
      (either_has (Below k) (numeric_errors s e) _ (first_has (Below k) (λ h. numeric_tried h (numeric_error (fixed_text h) s e)) (λ h. numeric_below h (numeric_error (fixed_text h) s e)) heads)
      (either_has (Below k) (line_errors s e) _ (first_has (Below k) (λ x. line_tried x (find_in (fixed_text x) s e)) (λ x. line_below x (find_in (fixed_text x) s e)) error_lines) na_below))))

  tried_below : (d : Digester) (ts : List Token) → NumbersBelow k (of_mark mark.Notice 0 ts) → TriedHas (Below k) (tried d ts s e)
  unfolding tried
  tried_below d ts w = either_has (Below k) (notices (of_mark mark.Notice 0 ts) s e) _ (notices_below (of_mark mark.Notice 0 ts) w) (others_below d ts)

-- the retry's answer is of the same kind and has the same number
again_below : (k e : ℕ) (r : Answer) → Below k r → Below k (again e r)
unfolding again shift
again_below k e r h = ways (Below k) (is_found r) (λ q. h) (λ q. other false refl)

after_below : (k : ℕ) (s : List ℕ) (f : List ℕ → Answer) (e : ℕ) (t : Option Answer) → TriedHas (Below k) t → (retries s e ≡ true → Below k (f (drop (e + 2) s))) → Below k (after s f e t)
unfolding after
after_below k s f e (Some a) w g = w
after_below k s f e None w g = ways (Below k) (retries s e) (λ q. again_below k e (f (drop (e + 2) s)) (g q)) (λ q. other false refl)

pub digest_below : (k : ℕ) (d : Digester) (ts : List Token) → NumbersBelow k (of_mark mark.Notice 0 ts) → (s : List ℕ) → Below k (digest_in d ts s)
digest_below k d ts w = by_length (λ s. Below k (digest_in d ts s)) one
  where
    one : (s : List ℕ) → ((l : List ℕ) → length l < length s → Below k (digest_in d ts l)) → Below k (digest_in d ts s)
    one s ih =
        let e = skipped s in
        rw (digest_step d ts s) (after_below k s (digest_in d ts) e (tried d ts s e) (tried_below k s e d ts w) (λ q. ih (drop (e + 2) s) (rest_shorter s e q)))
