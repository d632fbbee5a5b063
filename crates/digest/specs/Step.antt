-- The digester's own equation, with no fuel in it, and that an answer stays within its input.
-- Rests on the retry's suffix being shorter; everything above goes by `digest_step` and by induction on the length.
use Rattle.std.specs.Prelude.{Option, Some, None, unwrap_or, ◌≡◌, Bool, ℕ, zero, suc, ◌+◌, ◌-◌, ◌≤◌, ◌<◌, take, drop, ltb, if◌then◌else◌}
use Rattle.std.proofs.Math.Path.{refl, sym, ap}
use Rattle.std.proofs.Common.{◌∙◌, not-suc-le-zero, arith, length-drop}
use Rattle.std.proofs.Math.Bool.{true, false}
use mathlib.Core.List.{List, [], ◌∷◌}
use Rattle.std.proofs.Math.ListN.{length}
use borrow.Author.Tests.{ltb-true}
use Rattle.std.specs.declared.ops.ControlFlow.TheVariants.{Break, Continue}
use Rattle.outcome.specs.Laws.{ways, same_way}
use Rattle.text.specs.Logic.{and_both}
use Rattle.text.specs.Text.{trimmed_part, stands, find_in}
use Rattle.text.specs.Laws.{rest, trimmed_room}
use Rattle.table.specs.Table.{Token, Entry, of_mark, tokens}
use Rattle.table.specs.declared.Mark.TheVariants as mark
use Rattle.lines.specs.Lines.{crlf, fixed_text}
use Rattle.lines.specs.declared.Digester.{Digester}
use Rattle.lines.specs.declared.Fixed.{Fixed}
use Rattle.lines.specs.declared.Fixed.TheVariants as fixed
use Rattle.parser.specs.declared.Digits.{Digits}
use Rattle.parser.specs.Parser.{numeric_error, prompt_from, custom_prompt, notice_at}
use Rattle.parser.specs.Laws.{notice_bounds, error_bounds}
use Rattle.parser.specs.declared.Notice.{Notice}
use Rattle.parser.specs.declared.Notice.TheVariants as notice
use Rattle.answers.specs.declared.Kind.{Kind}
use Rattle.answers.specs.declared.Kind.TheVariants as kind
use Rattle.answers.specs.declared.Answer.{Answer}
use Rattle.answers.specs.Answer.{is_found, nothing, with_payload, shift, Within}
use Rattle.answers.specs.Laws.{longer_within, bare_within, nothing_within, number_within, digits_within, payload_within, text_within, shift_within_lem, shift_shift}
use Rattle.items.specs.declared.Hints.{Hints}
use Rattle.items.specs.declared.Occurrence.{Occurrence}
use Rattle.items.specs.Rules.{or_else, first_of, skipped, heard, notices, first_custom, kind_of, success, custom_success, line_success, connect_at, first_connect, connected, connect_success, successes, prompt_tried, custom_prompts, prompts, custom_error, heads, numeric_tried, numeric_errors, error_lines, line_tried, line_errors, not_allowed, errors, tried}
use Rattle.items.specs.Hints.{Level, Known, Says}
use Rattle.items.specs.Laws.{occurs_room}
use Rattle.items.specs.Connect.{LeastSays, least_connect, connect_room}
use Rattle.level.specs.Level.{outermost, below, GoneAll}
use Rattle.level.specs.Laws.{line_room, na_room, skipped_le}
use Rattle.level.specs.Levels.{handed, level_says, level_below_says}
use Rattle.digest.specs.Digest.{retries, again, after, digest_by, digest_in}

-- rule 6
module _ (s : List ℕ) (e : ℕ) where
  pub retries_on : stands crlf s e ≡ true → ltb 4 (length s - e) ≡ retries s e
  unfolding retries
  retries_on h = rw h

  pub retries_room : retries s e ≡ true → e + 4 < length s
  unfolding retries
  retries_room h = omega (arith, ltb-true 4 (length s - e) (and_both (stands crlf s e) (ltb 4 (length s - e)) h).1)

-- An answer of the retry seen from the front, before which m bytes stand: moved; None, whose consumed count is dropped, is no answer.
unfoldable pub seen_from : ℕ → Answer → Option Answer
seen_from m a = if is_found a then Some (shift m a) else None

-- a level of the retry more, seen from the front
seen_again : (m e : ℕ) (r : Answer) → seen_from (m + (e + 2)) r ≡ seen_from m (again e r)
unfolding seen_from again
seen_again m e r = go (is_found r) refl
  where
    go : (b : Bool) → is_found r ≡ b → (if b then Some (shift (m + (e + 2)) r) else None) ≡ (if is_found (if b then shift (e + 2) r else nothing e) then Some (shift m (if b then shift (e + 2) r else nothing e)) else None)
    go true q = unfold shift in rw q (ap Some (sym (shift_shift (e + 2) m r)))
    go false q = refl

-- what the retry from e on gives, where nothing is moved: its answer, or rule 7's None
seen_front : (s : List ℕ) (f : List ℕ → Answer) (e : ℕ) → unwrap_or (seen_from 0 (after s f e None)) (nothing e) ≡ after s f e None
unfolding after seen_from again
seen_front s f e = go (retries s e) (is_found (f (drop (e + 2) s))) refl
  where
    r : Answer
    r = f (drop (e + 2) s)

    go : (b c : Bool) → is_found r ≡ c → unwrap_or (if is_found (if b then (if c then shift (e + 2) r else nothing e) else nothing e) then Some (shift 0 (if b then (if c then shift (e + 2) r else nothing e) else nothing e)) else None) (nothing e) ≡ (if b then (if c then shift (e + 2) r else nothing e) else nothing e)
    go true true q = let i : 0 + (e + 2) ≡ e + 2 = omega arith in (unfold shift in rw q (shift_shift (e + 2) 0 r)) ∙ ap (λ (k : ℕ). shift k r) i
    go true false q = refl
    go false c q = refl

-- induction on the length
by_bound : (P : List ℕ → Type 0) → ((s : List ℕ) → ((l : List ℕ) → length l < length s → P l) → P s) → (n : ℕ) (s : List ℕ) → length s < n → P s
by_bound P step zero s h = absurd (not-suc-le-zero h)
by_bound P step (suc n) s h = step s (λ l g. by_bound P step n l (omega arith))

pub by_length : (P : List ℕ → Type 0) → ((s : List ℕ) → ((l : List ℕ) → length l < length s → P l) → P s) → (s : List ℕ) → P s
by_length P step s = by_bound P step (suc (length s)) s (omega arith)

-- fuel does not matter
pub after_same : (s : List ℕ) (f g : List ℕ → Answer) (e : ℕ) (t : Option Answer) → (retries s e ≡ true → f (drop (e + 2) s) ≡ g (drop (e + 2) s)) → after s f e t ≡ after s g e t
unfolding after
after_same s f g e (Some a) h = refl
after_same s f g e None h = same_way (nothing e) (retries s e) (λ q. ap (again e) (h q))

pub rest_shorter : (s : List ℕ) (e : ℕ) → retries s e ≡ true → length (drop (e + 2) s) < length s
rest_shorter s e h = omega (arith, retries_room s e h, length-drop (e + 2) s)

same_fuel : (n m : ℕ) (d : Digester) (ts : List Token) (s : List ℕ) → length s < n → length s < m → digest_by n d ts s ≡ digest_by m d ts s
unfolding digest_by
same_fuel zero m d ts s h g = absurd (not-suc-le-zero h)
same_fuel (suc n) zero d ts s h g = absurd (not-suc-le-zero g)
same_fuel (suc n) (suc m) d ts s h g =
    let e = skipped s in
    after_same s (digest_by n d ts) (digest_by m d ts) e (tried d ts s e)
    (λ q. same_fuel n m d ts (drop (e + 2) s) (omega (arith, rest_shorter s e q)) (omega (arith, rest_shorter s e q)))

pub digest_step : (d : Digester) (ts : List Token) (s : List ℕ) → digest_in d ts s ≡ after s (digest_in d ts) (skipped s) (tried d ts s (skipped s))
unfolding digest_in digest_by
digest_step d ts s =
    let e = skipped s in
    after_same s (digest_by (length s) d ts) (digest_in d ts) e (tried d ts s e)
    (λ q. same_fuel (length s) (suc (length (drop (e + 2) s))) d ts (drop (e + 2) s) (rest_shorter s e q) (omega arith))

-- what rules 2 to 5 answer where buf begins is the digest's answer
pub done_is : (d : Digester) (ts : List Token) (s : List ℕ) (a : Answer) → tried d ts s (skipped s) ≡ Some a → digest_in d ts s ≡ a
unfolding after
done_is d ts s a h = rw h at (digest_step d ts s)

-- the answer that a rule gives, if it gives one, has a property
abbrev pub TriedHas : (Answer → Type 0) → Option Answer → Type 0
TriedHas P (Some a) = P a
TriedHas P None = Unit {0}

pub either_has : (P : Answer → Type 0) (t r : Option Answer) → TriedHas P t → TriedHas P r → TriedHas P (or_else t r)
unfolding or_else
either_has P (Some a) r h g = h
either_has P None r h g = g

pub first_has : (P : Answer → Type 0) (f : Fixed → Option Answer) → ((l : Fixed) → TriedHas P (f l)) → (ls : List Fixed) → TriedHas P (first_of f ls)
unfolding first_of
first_has P f w [] = tt
first_has P f w (l ∷ ls) = either_has P (f l) (first_of f ls) (w l) (first_has P f w ls)

-- what a rule gives stays within the input

module _ (s : List ℕ) (e : ℕ) where
  part_within : (k : Kind) (m to c : ℕ) → e ≤ to → to ≤ c → c ≤ length s → Within (length s) (with_payload k m (trimmed_part s e to) c)
  part_within k m to c h f g = payload_within k m (trimmed_part s e to) c (length s) (omega (arith, trimmed_room s e to h (omega arith))) g

  heard_within : e ≤ length s → (x : List ℕ) (n : ℕ) (r : Notice) → notice_at x s e ≡ r → TriedHas (Within (length s)) (heard r n s e)
  unfolding heard
  heard_within h x n (notice.Ended end) p = let w = notice_bounds x s e end p in part_within kind.Notice n end end w.0 (omega arith) w.1
  heard_within h x n notice.Unfinished p = nothing_within e (length s) h
  heard_within h x n notice.Nothing p = tt

  notices_within : e ≤ length s → (l : List Entry) → TriedHas (Within (length s)) (notices l s e)
  unfolding notices
  notices_within h [] = tt
  notices_within h (x ∷ l) = either_has (Within (length s)) (heard (notice_at x.text s e) x.number s e) (notices l s e) (heard_within h x.text x.number (notice_at x.text s e) refl) (notices_within h l)

  custom_success_within : (l : List Entry) (r : Option Occurrence) → first_custom l s e ≡ r → TriedHas (Within (length s)) (custom_success r s e)
  unfolding custom_success success
  custom_success_within l (Some o) p = let w = occurs_room l s e (Some o) (sym p) o refl in part_within kind.Ok 0 o.place (o.place + (o.len + 4)) w.0 (omega arith) w.1
  custom_success_within l None p = tt

  custom_error_within : (l : List Entry) (r : Option Occurrence) → first_custom l s e ≡ r → TriedHas (Within (length s)) (custom_error r)
  unfolding custom_error
  custom_error_within l (Some o) p = let w = occurs_room l s e (Some o) (sym p) o refl in payload_within kind.Custom o.number (record { start = o.place + 2; len = o.len }) (o.place + (o.len + 4)) (length s) (omega arith) w.1
  custom_error_within l None p = tt

  line_success_within : (l : Fixed) (r : Option ℕ) → find_in (fixed_text l) s e ≡ r → TriedHas (Within (length s)) (line_success s e l r)
  unfolding line_success success
  line_success_within l (Some k) p = let w = line_room s e l (Some k) (sym p) k refl in part_within kind.Ok 0 k (k + length (fixed_text l)) w.0 (omega arith) w.1
  line_success_within l None p = tt

  connected_within : (d : Digester) (k : ℕ) → e ≤ k → (r : Option ℕ) → connect_at d s k ≡ r → TriedHas (Within (length s)) (connected s e k r)
  unfolding connected
  connected_within d k h (Some end) p =
      let w = connect_room d s k end p in
      text_within (trimmed_part s e k) (record { start = k + 10; len = end - (k + 12) }) end (length s) (omega (arith, w.0, trimmed_room s e k h (omega (arith, w.0, w.1)))) (omega (arith, w.0)) w.1
  connected_within d k h None p = tt

  connect_within : (d : Digester) (r : Option ℕ) → LeastSays d s e r → TriedHas (Within (length s)) (connect_success d s e r)
  unfolding connect_success
  connect_within d (Some k) w = connected_within d k w.after (connect_at d s k) refl
  connect_within d None w = tt

  line_within : (l : Fixed) (r : Option ℕ) → find_in (fixed_text l) s e ≡ r → TriedHas (Within (length s)) (line_tried l r)
  unfolding line_tried
  line_within l (Some k) p = bare_within (kind_of l) (k + length (fixed_text l)) (length s) (line_room s e l (Some k) (sym p) k refl).1
  line_within l None p = tt

  numeric_within : (h : Fixed) (r : Option Digits) → numeric_error (fixed_text h) s e ≡ r → TriedHas (Within (length s)) (numeric_tried h r)
  unfolding numeric_tried
  numeric_within h (Some d) p =
      let w = error_bounds (fixed_text h) s e d p in
      digits_within (kind_of h) d.code (record { start = d.start; len = d.stop - d.start }) d.end (length s) (omega (arith, w.0, w.1.0)) w.1.1
  numeric_within h None p = tt

  prompt_within : (b : Bool) (c : ℕ) → TriedHas (Within (length s)) (prompt_tried b c s)
  unfolding prompt_tried
  prompt_within b c = ways (TriedHas (Within (length s))) b (λ q. number_within kind.Prompt c (length s) (length s) (omega arith)) (λ q. tt)

  custom_prompts_within : (l : List Entry) → TriedHas (Within (length s)) (custom_prompts l s e)
  unfolding custom_prompts
  custom_prompts_within [] = tt
  custom_prompts_within (x ∷ l) = either_has (Within (length s)) (prompt_tried (custom_prompt x.text s e) x.prompt s) (custom_prompts l s e) (prompt_within (custom_prompt x.text s e) x.prompt) (custom_prompts_within l)

  na_within : TriedHas (Within (length s)) (not_allowed s e)
  unfolding not_allowed
  na_within = ways (TriedHas (Within (length s))) (stands (fixed_text fixed.Na) s e) (λ q. bare_within kind.NotAllowed (e + 6) (length s) (na_room s e q)) (λ q. tt)

  successes_within : (d : Digester) (l : List Entry) → TriedHas (Within (length s)) (successes d l s e)
  unfolding successes
  successes_within d l =
      either_has (Within (length s)) (custom_success (first_custom l s e) s e) _ (custom_success_within l (first_custom l s e) refl)
      (either_has (Within (length s)) (line_success s e fixed.Ok (find_in (fixed_text fixed.Ok) s e)) _ (line_success_within fixed.Ok (find_in (fixed_text fixed.Ok) s e) refl) (connect_within d (first_connect d s e) (least_connect d s e)))

  prompts_within : (l : List Entry) → TriedHas (Within (length s)) (prompts l s e)
  unfolding prompts
  prompts_within l =
      either_has (Within (length s)) (custom_prompts l s e) _ (custom_prompts_within l)
      (either_has (Within (length s)) (prompt_tried (prompt_from 62 s e) 62 s) _ (prompt_within (prompt_from 62 s e) 62) (prompt_within (prompt_from 64 s e) 64))

  errors_within : (l : List Entry) → TriedHas (Within (length s)) (errors l s e)
  unfolding errors numeric_errors line_errors
  errors_within l =
      either_has (Within (length s)) (custom_error (first_custom l s e)) _ (custom_error_within l (first_custom l s e) refl)
      (either_has (Within (length s)) (numeric_errors s e) _ (first_has (Within (length s)) (λ h. numeric_tried h (numeric_error (fixed_text h) s e)) (λ h. numeric_within h (numeric_error (fixed_text h) s e) refl) heads)
      (either_has (Within (length s)) (line_errors s e) _ (first_has (Within (length s)) (λ x. line_tried x (find_in (fixed_text x) s e)) (λ x. line_within x (find_in (fixed_text x) s e) refl) error_lines) na_within))

  pub tried_within : e ≤ length s → (d : Digester) (ts : List Token) → TriedHas (Within (length s)) (tried d ts s e)
  unfolding tried
  tried_within h d ts =
      either_has (Within (length s)) (notices (of_mark mark.Notice 0 ts) s e) _ (notices_within h (of_mark mark.Notice 0 ts))
      (either_has (Within (length s)) (successes d (of_mark mark.Success 0 ts) s e) _ (successes_within d (of_mark mark.Success 0 ts))
      (either_has (Within (length s)) (prompts (of_mark mark.Prompt 0 ts) s e) _ (prompts_within (of_mark mark.Prompt 0 ts)) (errors_within (of_mark mark.Error 0 ts))))

again_within : (s : List ℕ) (e : ℕ) (r : Answer) → e ≤ length s → e + 2 ≤ length s → Within (length s - (e + 2)) r → Within (length s) (again e r)
unfolding again
again_within s e r h g w =
    ways (Within (length s)) (is_found r)
    (λ q. longer_within (length s - (e + 2) + (e + 2)) (length s) (shift (e + 2) r) (shift_within_lem (e + 2) (length s - (e + 2)) r w) (omega (arith, g)))
    (λ q. nothing_within e (length s) h)

after_within : (s : List ℕ) (f : List ℕ → Answer) (e : ℕ) (t : Option Answer) → e ≤ length s → TriedHas (Within (length s)) t → (retries s e ≡ true → Within (length (drop (e + 2) s)) (f (drop (e + 2) s))) → Within (length s) (after s f e t)
unfolding after
after_within s f e (Some a) h w g = w
after_within s f e None h w g =
    ways (Within (length s)) (retries s e)
    (λ q. again_within s e (f (drop (e + 2) s)) h (omega (arith, retries_room s e q)) (rw (length-drop (e + 2) s) at (g q)))
    (λ q. nothing_within e (length s) h)

pub digest_within : (d : Digester) (ts : List Token) (s : List ℕ) → Within (length s) (digest_in d ts s)
digest_within d ts = by_length (λ s. Within (length s) (digest_in d ts s)) one
  where
    one : (s : List ℕ) → ((l : List ℕ) → length l < length s → Within (length l) (digest_in d ts l)) → Within (length s) (digest_in d ts s)
    one s ih =
        let e = skipped s in
        rw (digest_step d ts s)
        (after_within s (digest_in d ts) e (tried d ts s e) (skipped_le s) (tried_within s e (skipped_le s) d ts) (λ q. ih (drop (e + 2) s) (rest_shorter s e q)))

-- What a level hands down: where there is a level below it, what is gone and known there.
abbrev pub Handed : Digester → List Token → List ℕ → ℕ → Hints → Type 0
Handed d ts s e h = retries s e ≡ true → GoneAll d ts (drop (e + 2) s) × Known (drop (e + 2) s) 0 h

-- what a level gave is what rules 1 to 5 say; one below the outermost one is told what is gone and known
pub said : (d : Digester) (t s : List ℕ) → length s ≤ 4096 → (r : Level) → r ≡ outermost d t s (skipped s) → Says s (skipped s) (tried d (tokens t) s (skipped s)) r
said d t s l r q = rw q (level_says d t s l)

pub said_below : (d : Digester) (t s : List ℕ) (h : Hints) → GoneAll d (tokens t) s × Known s 0 h → (r : Level) → r ≡ below t s (skipped s) h → Says s (skipped s) (tried d (tokens t) s (skipped s)) r
said_below d t s h w r q = rw q (level_below_says d t s h w.0 w.1)

-- The ways out of a level: r is what it gave, and it says what rules 1 to 5 say.
module _ (d : Digester) (ts : List Token) (s : List ℕ) (r : Level) (w : Says s (skipped s) (tried d ts s (skipped s)) r) where
  pub digest_done : (a : Answer) → r ≡ Break a → a ≡ digest_in d ts s
  unfolding after
  digest_done a q = let z : tried d ts s (skipped s) ≡ Some a = rw q at w in sym (rw z at (digest_step d ts s))

  pub done_within : (a : Answer) → r ≡ Break a → length s ≤ 4096 → Within 4096 a
  done_within a q l = longer_within (length s) 4096 a (rw (digest_done a q) (digest_within d ts s)) l

  module _ (e : ℕ) (h : Hints) (q : r ≡ Continue (e, h)) where
    next : (tried d ts s (skipped s) ≡ None) × ((e ≡ skipped s) × Known s (skipped s) h)
    next = rw q at w

    pub next_is : after s (digest_in d ts) e None ≡ digest_in d ts s
    next_is = ap (λ (k : ℕ). after s (digest_in d ts) k None) next.1.0 ∙ ap (after s (digest_in d ts) (skipped s)) (sym next.0) ∙ sym (digest_step d ts s)

    pub next_hands : Handed d ts s e h
    next_hands z =
        let o = retries_room s e z in
        rw (rest s (e + 2)) at (handed d ts s (skipped s) (e + 2) h (omega (arith, next.1.0)) (omega (arith, o)) next.0 next.1.1)

    -- x is what the retry from e on gave
    pub digest_next : (x : Option Answer) → x ≡ seen_from 0 (after s (digest_in d ts) e None) → unwrap_or x (nothing e) ≡ digest_in d ts s
    digest_next x v = ap (λ (y : Option Answer). unwrap_or y (nothing e)) v ∙ seen_front s (digest_in d ts) e ∙ next_is

-- The retry from e on, before which m bytes stand: it ends there; or it is that of the suffix behind the CRLF, as the code takes it.
module _ (d : Digester) (ts : List Token) (s : List ℕ) (e m : ℕ) where
  pub retry_stop : retries s e ≡ false → seen_from m (after s (digest_in d ts) e None) ≡ None
  unfolding seen_from after
  retry_stop z = rw z

  abbrev pub behind : List ℕ
  behind = take (length s - (e + 2)) (drop (e + 2) s)

  module _ (z : retries s e ≡ true) where
    pub retry_length : length behind + (e + 2) ≡ length s
    retry_length = rw (rest s (e + 2)) (omega (arith, length-drop (e + 2) s, retries_room s e z))

    pub retry_handed : (h : Hints) → Handed d ts s e h → GoneAll d ts behind × Known behind 0 h
    retry_handed h w = rw (rest s (e + 2)) (w z)

    pub retry_is : (n : ℕ) → n ≡ m + (e + 2) → (a : Answer) → a ≡ digest_in d ts behind → seen_from n a ≡ seen_from m (after s (digest_in d ts) e None)
    unfolding after
    retry_is n i a w = ap (λ (k : ℕ). seen_from k a) i ∙ ap (seen_from (m + (e + 2))) (w ∙ ap (digest_in d ts) (rest s (e + 2))) ∙ seen_again m e (digest_in d ts (drop (e + 2) s)) ∙ rw z
