-- The levels of the retry: hints and what is gone hold in the suffix that the retry takes (`handed`), and a level says what rules 1 to 5 say (`level_says`, `level_below_says`).
-- The one real proof is `custom_whole`: a custom prompt that ends a suffix ends the whole.
use Rattle.std.specs.Prelude.{Option, Some, None, ◌≡◌, Bool, true, false, ℕ, ◌+◌, ◌-◌, ◌≤◌, ◌<◌, length, get_or, take, drop, leb}
use Rattle.std.proofs.Math.Path.{refl}
use Rattle.std.proofs.Common.{sym, ap, ◌∙◌, arith, length-drop, drop-drop, get_or-drop, le-leb, leb-true}
use mathlib.Core.List.{List, [], ◌∷◌}
use Rattle.std.specs.declared.ops.ControlFlow.TheVariants.{Continue}
use Rattle.text.specs.Logic.{false_true, not_true_false, and_both}
use Rattle.text.specs.Text.{is_blank, keep, begins, stands, find_in}
use Rattle.text.specs.Laws.{find_drop, moved, stands_drop, keep_passes, keep_stops, keep_le, keep_is, rest}
use Rattle.text.specs.declared.Blanks.TheVariants as blanks
use Rattle.table.specs.Table.{Token, Entry, of_mark, tokens, entries}
use Rattle.table.specs.declared.Mark.TheVariants as mark
use Rattle.lines.specs.Lines.{fixed_text}
use Rattle.lines.specs.declared.Digester.{Digester}
use Rattle.lines.specs.declared.Fixed.{Fixed}
use Rattle.lines.specs.declared.Fixed.TheVariants as fixed
use Rattle.parser.specs.declared.Digits.{Digits}
use Rattle.answers.specs.declared.Answer.{Answer}
use Rattle.parser.specs.Parser.{prompt_from, custom_prompt, wrapped, at_found, numeric_error}
use Rattle.parser.specs.Moved.{prompt_moved, custom_moved, shift_numeric, numeric_moved_on}
use Rattle.places.specs.Places.{unsought}
use Rattle.pass.specs.Pass.{first_places}
use Rattle.places.specs.Laws.{sought_first}
use Rattle.pass.specs.Laws.{heads_first}
use Rattle.items.specs.declared.First.{First}
use Rattle.items.specs.declared.First.TheVariants as first
use Rattle.items.specs.declared.Hints.{Hints}
use Rattle.items.specs.declared.Occurrence.{Occurrence}
use Rattle.items.specs.Rules.{or_else, first_of, skipped, notices, occurs_or, first_custom, success, custom_success, line_success, successes, prompt_tried, custom_prompts, prompts, custom_error, numeric_tried, numeric_errors, error_lines, line_tried, line_errors, not_allowed, errors, tried}
use Rattle.items.specs.Hints.{Level, given, prompt_bytes, numerics, firsts, unknown, hint_of, Known, Says}
use Rattle.items.specs.Connect.{connect_none, connect_next, connect_lost}
use Rattle.items.specs.Laws.{next_both, both_next, done_next, or_next_lem, or_assoc, prompt_miss}
use Rattle.items.specs.Says.{find_lost, before_says, onward_says, bytes_say, numerics_say, firsts_say, nothing_known}
use Rattle.level.specs.Laws.{line_success_none, line_none, skipped_le}
use Rattle.level.specs.Level.{not_allowed_from, errors_from, outermost, below, Gone, GoneAll}

pub known_later : (s : List ℕ) (e : ℕ) (h : Hints) → Known s e h → (k : ℕ) → e ≤ k → Known s k h
known_later s e h w k l x = λ m a b. w x m (omega arith) b

-- What a rule that gave no answer looked for is nowhere.
pub occurs_none : (f : Option ℕ) (x : Entry) (r : Option Occurrence) → occurs_or f x r ≡ None → (f ≡ None) × (r ≡ None)
unfolding occurs_or
occurs_none (Some k) x r h = cc
occurs_none None x r h = (refl, h)

pub error_nowhere : (r : Option Occurrence) → custom_error r ≡ None → r ≡ None
unfolding custom_error
error_nowhere (Some o) h = absurd (done_next _ refl h)
error_nowhere None h = refl

pub success_nowhere : (s : List ℕ) (e : ℕ) (r : Option Occurrence) → custom_success r s e ≡ None → r ≡ None
unfolding custom_success success
success_nowhere s e (Some o) h = absurd (done_next _ refl h)
success_nowhere s e None h = refl

pub line_success_nowhere : (s : List ℕ) (e : ℕ) (l : Fixed) (r : Option ℕ) → line_success s e l r ≡ None → r ≡ None
unfolding line_success success
line_success_nowhere s e l (Some k) h = absurd (done_next _ refl h)
line_success_nowhere s e l None h = refl

pub line_nowhere : (l : Fixed) (r : Option ℕ) → line_tried l r ≡ None → r ≡ None
unfolding line_tried
line_nowhere l (Some k) h = absurd (done_next _ refl h)
line_nowhere l None h = refl

pub prompt_nowhere : (b : Bool) (c : ℕ) (s : List ℕ) → prompt_tried b c s ≡ None → b ≡ false
unfolding prompt_tried
prompt_nowhere true c s h = absurd (done_next _ refl h)
prompt_nowhere false c s h = refl

pub numeric_nowhere : (l : Fixed) (r : Option Digits) → numeric_tried l r ≡ None → r ≡ None
unfolding numeric_tried
numeric_nowhere l (Some d) h = absurd (done_next _ refl h)
numeric_nowhere l None h = refl

-- the same of a list: where no text answers, none does for another rule that answers no more often
pub first_lost_of : (f g : Fixed → Option Answer) → ((l : Fixed) → f l ≡ None → g l ≡ None) → (ls : List Fixed) → first_of f ls ≡ None → first_of g ls ≡ None
unfolding first_of
first_lost_of f g w [] h = refl
first_lost_of f g w (l ∷ ls) h = let v = next_both (f l) (first_of f ls) h in both_next (g l) (first_of g ls) (w l v.0) (first_lost_of f g w ls v.1)

-- What is known of s is known of its suffix.
prompt_on : (b : ℕ) (s : List ℕ) (k m : ℕ) → k + m ≤ length s → prompt_from b (drop k s) m ≡ prompt_from b s (k + m)
prompt_on b s k m h =
    prompt_moved b (drop k s) m (rw length-drop (omega arith)) ∙ ap (λ (u : List ℕ). prompt_from b u 0) (drop-drop m k s) ∙ sym (prompt_moved b s (k + m) h)

prompt_idle : (b : ℕ) (s : List ℕ) (k m : ℕ) → k + m ≤ length s → prompt_tried (prompt_from b s (k + m)) b s ≡ None → prompt_tried (prompt_from b (drop k s) m) b (drop k s) ≡ None
prompt_idle b s k m h q = sym (prompt_miss (prompt_from b (drop k s) m) b (drop k s) (prompt_on b s k m h ∙ prompt_nowhere (prompt_from b s (k + m)) b s q))

found_moved : (t s : List ℕ) (k : ℕ) (r : Option ℕ) → at_found t s (moved k r) ≡ shift_numeric k (at_found t (drop k s) r)
unfolding at_found moved
found_moved t s k (Some p) = numeric_moved_on t s k p
found_moved t s k None = unfold shift_numeric in refl

no_shift : (k : ℕ) (r : Option Digits) → shift_numeric k r ≡ None → r ≡ None
unfolding shift_numeric
no_shift k (Some d) h = cc
no_shift k None h = refl

numeric_idle : (x : Fixed) (s : List ℕ) (k m : ℕ) → numeric_tried x (numeric_error (fixed_text x) s (k + m)) ≡ None → numeric_tried x (numeric_error (fixed_text x) (drop k s) m) ≡ None
unfolding numeric_error
numeric_idle x s k m q =
    let t = fixed_text x in
    let n = numeric_nowhere x (at_found t s (find_in t s (k + m))) q in
    let r = find_in t (drop k s) m in
    ap (numeric_tried x) (no_shift k (at_found t (drop k s) r) (sym (found_moved t s k r) ∙ ap (at_found t s) (sym (find_drop t s k m)) ∙ n)) ∙ (unfold numeric_tried in refl)

given_on : (x : First) (s : List ℕ) (k m : ℕ) → k + m ≤ length s → given x s (k + m) ≡ None → given x (drop k s) m ≡ None
given_on first.Greater s k m h = prompt_idle 62 s k m h
given_on first.Sign s k m h = prompt_idle 64 s k m h
given_on first.Cme s k m h = numeric_idle fixed.Cme s k m
given_on first.Cms s k m h = numeric_idle fixed.Cms s k m
given_on first.Modem s k m h = numeric_idle fixed.Modem s k m

known_on : (s : List ℕ) (k : ℕ) (h : Hints) → k ≤ length s → Known s k h → Known (drop k s) 0 h
known_on s k h l w x m a b =
    let g : m + hint_of h x ≤ length s - k = rw length-drop at b in
    given_on x s k m (omega arith) (w x (k + m) (omega arith) (omega arith))

-- What a level that gave no answer looked for in all that follows.
pub gone : (d : Digester) (ts : List Token) (s : List ℕ) (e : ℕ) → tried d ts s e ≡ None → Gone d ts s e
unfolding tried prompts errors
gone d ts s e h =
    let a = next_both (notices (of_mark mark.Notice 0 ts) s e) _ h in
    let b = next_both (successes d (of_mark mark.Success 0 ts) s e) _ a.1 in
    let c = next_both (prompts (of_mark mark.Prompt 0 ts) s e) (errors (of_mark mark.Error 0 ts) s e) b.1 in
    let d = next_both (custom_error (first_custom (of_mark mark.Error 0 ts) s e)) _ c.1 in
    record {
      success = b.0;
      prompt = (next_both (custom_prompts (of_mark mark.Prompt 0 ts) s e) _ c.0).0;
      custom = d.0;
      error = (next_both (line_errors s e) _ (next_both (numeric_errors s e) _ d.1).1).0;
    }

-- a custom prompt that ends a suffix ends the whole
custom_whole : (x u : List ℕ) (m n : ℕ) → keep (is_blank blanks.Run) (drop m u) ≡ n → leb (length x) n ≡ true → stands x (drop m u) (0 + (n - length x)) ≡ true → custom_prompt x u 0 ≡ true
unfolding custom_prompt
custom_whole [] u m n k a b = rw (le-leb 0 (keep (is_blank blanks.Run) u) (omega arith)) (unfold stands begins in refl)
custom_whole (y ∷ x) u m n k a b =
    let v = drop m u in
    let t = y ∷ x in
    let l = leb-true (length t) n a in
    let o : 0 < keep (is_blank blanks.Run) v = omega arith in
    let f = keep_le (is_blank blanks.Run) v in
    let g : length v ≡ length u - m = length-drop m u in
    let i : m + n - 1 ≡ m + (n - 1) = omega arith in
    let e : keep (is_blank blanks.Run) u ≡ m + n =
    keep_is (is_blank blanks.Run) u (m + n) (omega arith) (omega arith)
    (ap (λ (j : ℕ). is_blank blanks.Run (get_or u j 0)) i ∙ ap (is_blank blanks.Run) (sym (get_or-drop m u (n - 1) 0)) ∙ ap (λ (j : ℕ). is_blank blanks.Run (get_or v (j - 1) 0)) (sym k) ∙ keep_stops (is_blank blanks.Run) v o)
    (λ j p q.
    let c : m + (j - m) ≡ j = omega arith in
    ap (λ (z : ℕ). is_blank blanks.Run (get_or u z 0)) (sym c) ∙ ap (is_blank blanks.Run) (sym (get_or-drop m u (j - m) 0)) ∙ keep_passes (is_blank blanks.Run) v (j - m) (omega arith) (omega arith)) in
    let c : 0 + (m + n - length t) ≡ m + (0 + (n - length t)) = omega arith in
    rw (e, le-leb (length t) (m + n) (omega arith)) (ap (stands t u) c ∙ sym (stands_drop t u m (0 + (n - length t))) ∙ b)

custom_shorter : (x u : List ℕ) (m : ℕ) → custom_prompt x u 0 ≡ false → custom_prompt x (drop m u) 0 ≡ false
unfolding custom_prompt
custom_shorter x u m h =
    not_true_false _ (λ g.
    let n = keep (is_blank blanks.Run) (drop m u) in
    let w = and_both (leb (length x) n) (stands x (drop m u) (0 + (n - length x))) g in
    false_true (custom_whole x u m n refl w.0 w.1) h)

-- What is gone from e on stays gone further on in the suffix.
module _ (s : List ℕ) (e k m : ℕ) (later : e ≤ k + m) where
  custom_lost : (x : List ℕ) → custom_prompt x s e ≡ false → custom_prompt x (drop k s) m ≡ false
  custom_lost x h =
      let i : e + (k + m - e) ≡ k + m = omega arith in
      let v : drop m (drop k s) ≡ drop (k + m - e) (drop e s) = drop-drop m k s ∙ ap (λ (j : ℕ). drop j s) (sym i) ∙ sym (drop-drop (k + m - e) e s) in
      custom_moved x (drop k s) m ∙ ap (λ (l : List ℕ). custom_prompt x l 0) v ∙ custom_shorter x (drop e s) (k + m - e) (sym (custom_moved x s e) ∙ h)

  prompts_lost : (l : List Entry) → custom_prompts l s e ≡ None → custom_prompts l (drop k s) m ≡ None
  unfolding custom_prompts
  prompts_lost [] h = refl
  prompts_lost (x ∷ l) h =
      let w = next_both (prompt_tried (custom_prompt x.text s e) x.prompt s) (custom_prompts l s e) h in
      both_next (prompt_tried (custom_prompt x.text (drop k s) m) x.prompt (drop k s)) (custom_prompts l (drop k s) m)
      (sym (prompt_miss (custom_prompt x.text (drop k s) m) x.prompt (drop k s) (custom_lost x.text (prompt_nowhere (custom_prompt x.text s e) x.prompt s w.0))))
      (prompts_lost l w.1)

  first_lost : (l : List Entry) → first_custom l s e ≡ None → first_custom l (drop k s) m ≡ None
  unfolding first_custom
  first_lost [] h = refl
  first_lost (x ∷ l) h =
      let w = occurs_none (find_in (wrapped x.text) s e) x (first_custom l s e) h in
      rw (find_lost (wrapped x.text) s e k m later w.0) (unfold occurs_or in first_lost l w.1)

  line_success_lost : (l : Fixed) → line_success s e l (find_in (fixed_text l) s e) ≡ None → line_success (drop k s) m l (find_in (fixed_text l) (drop k s) m) ≡ None
  line_success_lost l h =
      let t = fixed_text l in
      line_success_none (drop k s) m l (find_in t (drop k s) m) (find_lost t s e k m later (line_success_nowhere s e l (find_in t s e) h))

  line_lost : (l : Fixed) → line_tried l (find_in (fixed_text l) s e) ≡ None → line_tried l (find_in (fixed_text l) (drop k s) m) ≡ None
  line_lost l h = let t = fixed_text l in line_none l (find_in t (drop k s) m) (find_lost t s e k m later (line_nowhere l (find_in t s e) h))

  errors_lost : line_errors s e ≡ None → line_errors (drop k s) m ≡ None
  unfolding line_errors
  errors_lost = first_lost_of _ _ line_lost error_lines

  successes_lost : (d : Digester) (l : List Entry) → successes d l s e ≡ None → successes d l (drop k s) m ≡ None
  unfolding successes custom_success
  successes_lost d l h =
      let w = next_both (custom_success (first_custom l s e) s e) _ h in
      let v = next_both (line_success s e fixed.Ok (find_in (fixed_text fixed.Ok) s e)) _ w.1 in
      both_next (custom_success (first_custom l (drop k s) m) (drop k s) m) _
      (ap (λ (r : Option Occurrence). custom_success r (drop k s) m) (first_lost l (success_nowhere s e (first_custom l s e) w.0)))
      (both_next (line_success (drop k s) m fixed.Ok (find_in (fixed_text fixed.Ok) (drop k s) m)) _ (line_success_lost fixed.Ok v.0)
      (connect_next d (drop k s) m (λ j g. connect_lost d s k j (connect_none d s e v.1 (k + j) (omega arith)))))

  custom_error_lost : (l : List Entry) → custom_error (first_custom l s e) ≡ None → custom_error (first_custom l (drop k s) m) ≡ None
  unfolding custom_error
  custom_error_lost l h = ap custom_error (first_lost l (error_nowhere (first_custom l s e) h))

  gone_on : (d : Digester) (ts : List Token) → Gone d ts s e → Gone d ts (drop k s) m
  gone_on d ts w =
      record {
        success = successes_lost d (of_mark mark.Success 0 ts) w.success;
        prompt = prompts_lost (of_mark mark.Prompt 0 ts) w.prompt;
        custom = custom_error_lost (of_mark mark.Error 0 ts) w.custom;
        error = errors_lost w.error;
      }

-- What a level hands down to the one on the suffix from k on.
pub handed : (d : Digester) (ts : List Token) (s : List ℕ) (e k : ℕ) (h : Hints) → e ≤ k → k ≤ length s → tried d ts s e ≡ None → Known s e h → GoneAll d ts (take (length s - k) (drop k s)) × Known (take (length s - k) (drop k s)) 0 h
handed d ts s e k h l i q w = rw (rest s k) (λ m a. gone_on s e k m (omega arith) d ts (gone d ts s e q), known_on s k h i (known_later s e h w k l))

says_of : (s : List ℕ) (e : ℕ) {t u : Option Answer} → t ≡ u → (r : Level) → Says s e t r → Says s e u r
says_of s e p r w = rw p at w

-- NA is what is left, and says so.
last_says : (s : List ℕ) (e : ℕ) (h : Hints) → Known s e h → Says s e (not_allowed s e) (not_allowed_from s e h)
last_says s e h w = says_of s e (sym (or_next_lem (not_allowed s e))) (not_allowed_from s e h) (before_says s e (not_allowed s e) None (Continue (e, h)) (refl, (refl, w)))

module _ (d : Digester) (t s : List ℕ) (e : ℕ) (l : e ≤ length s) where
  errors_say : (h : Hints) → Known s e h → Says s e (errors (entries mark.Error t 0 0) s e) (errors_from (entries mark.Error t 0 0) s e (first_places s e) h)
  unfolding errors errors_from
  errors_say h w =
      let rest = or_else (line_errors s e) (not_allowed s e) in
      before_says s e (custom_error (first_custom (entries mark.Error t 0 0) s e)) (or_else (numeric_errors s e) rest) _
      (onward_says s e (numeric_errors s e) rest (numerics s e (first_places s e) h) _ (numerics_say s e (first_places s e) (heads_first s e (first_places s e) refl) l h w) (λ k v.
      before_says s e (line_errors s e) (not_allowed s e) (not_allowed_from s e k) (last_says s e k v)))

  outermost_says : length s ≤ 4096 → Says s e (tried d (tokens t) s e) (outermost d t s e)
  unfolding tried prompts outermost entries tokens
  outermost_says g =
      let heard = notices (of_mark mark.Notice 0 (tokens t)) s e in
      let success = successes d (of_mark mark.Success 0 (tokens t)) s e in
      let custom = custom_prompts (of_mark mark.Prompt 0 (tokens t)) s e in
      let bytes = or_else (given first.Greater s e) (given first.Sign s e) in
      let error = errors (of_mark mark.Error 0 (tokens t)) s e in
      says_of s e {t = or_else heard (or_else success (or_else custom (or_else bytes error)))} (rw (or_assoc custom bytes error)) (outermost d t s e)
      (before_says s e heard (or_else success (or_else custom (or_else bytes error))) _
      (before_says s e success (or_else custom (or_else bytes error)) _
      (before_says s e custom (or_else bytes error) _
      (onward_says s e bytes error (prompt_bytes s e (first_places s e) unknown) _ (bytes_say s e (first_places s e) (heads_first s e (first_places s e) refl) l unknown (nothing_known s e g)) errors_say))))

  -- The retry lemma: where the others are gone, a level can only answer a notice, one of the five, or NA.
  below_says : Gone d (tokens t) s e → (h : Hints) → Known s e h → Says s e (tried d (tokens t) s e) (below t s e h)
  unfolding tried prompts errors or_else below entries tokens
  below_says z h w =
      let five = or_else (given first.Greater s e) (given first.Sign s e) in
      before_says s e (notices (of_mark mark.Notice 0 (tokens t)) s e) _ _
      (rw (z.success, z.prompt, z.custom, z.error, or_assoc five (numeric_errors s e) (not_allowed s e))
      (onward_says s e _ _ (firsts s e (unsought e) h) _ (firsts_say s e (unsought e) (sought_first s e (unsought e) refl) l h w) (last_says s e)))

-- A level says what rules 1 to 5 say: the outermost one, and one below it.
pub level_says : (d : Digester) (t s : List ℕ) → length s ≤ 4096 → Says s (skipped s) (tried d (tokens t) s (skipped s)) (outermost d t s (skipped s))
level_says d t s l = outermost_says d t s (skipped s) (skipped_le s) l

pub level_below_says : (d : Digester) (t s : List ℕ) (h : Hints) → GoneAll d (tokens t) s → Known s 0 h → Says s (skipped s) (tried d (tokens t) s (skipped s)) (below t s (skipped s) h)
level_below_says d t s h g w = below_says d t s (skipped s) (skipped_le s) (g (skipped s) (skipped_le s)) h (known_later s 0 h w (skipped s) (omega arith))
