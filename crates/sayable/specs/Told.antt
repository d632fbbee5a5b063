-- Under no records whatever the digester says can be said, and has no payload, unless it is None, an Ok, unknown or not allowed (`digest_told`).
-- Rests on the rules of items one by one, and on the retry's answer being of the same kind, number and payload's length.
use Rattle.std.specs.Prelude.{Option, Some, None, ◌≡◌, refl, Bool, true, false, ◌&&◌, List, [], ℕ, ◌+◌, ◌≤◌, ◌<◌, length, drop, leb, ltb, if◌then◌else◌}
use Rattle.std.proofs.Math.Path.{subst}
use Rattle.std.proofs.Common.{arith, leb-true}
use Rattle.outcome.specs.Laws.{ways}
use Rattle.text.specs.Logic.{false_true}
use Rattle.text.specs.Text.{is_blank, past, stands, find_in}
use Rattle.text.specs.declared.Blanks.TheVariants as blanks
use Rattle.table.specs.Table.{of_mark}
use Rattle.lines.specs.Lines.{fixed_text}
use Rattle.lines.specs.declared.Digester.{Digester}
use Rattle.lines.specs.declared.Fixed.{Fixed}
use Rattle.lines.specs.declared.Fixed.TheVariants as fixed
use Rattle.parser.specs.declared.Digits.{Digits}
use Rattle.parser.specs.Parser.{is_digit, value, run_at, digits_at, line_ending, ended_run, at_found, numeric_error, prompt_from}
use Rattle.answers.specs.declared.Kind.{Kind}
use Rattle.answers.specs.declared.Kind.TheVariants as kind
use Rattle.answers.specs.declared.Answer.{Answer}
use Rattle.answers.specs.Answer.{none, number, has_number, numbered, stored, is_found}
use Rattle.items.specs.Rules.{or_else, skipped, kind_of, line_success, connect_at, first_connect, connected, connect_success, prompt_tried, heads, numeric_tried, numeric_errors, error_lines, line_tried, line_errors, not_allowed, tried}
use Rattle.digest.specs.Digest.{retries, again, after, digest_in}
use Rattle.digest.specs.Step.{TriedHas, either_has, first_has, by_length, rest_shorter, digest_step}
use Rattle.sayable.specs.Sayable.{Sayable, cme, cms, error, no_carrier, busy, no_answer, no_dialtone, greater, sign}

-- all kinds but None, Ok, unknown and not allowed
abbrev pub is_other : Kind → Bool
is_other kind.None = false
is_other kind.Ok = false
is_other kind.Prompt = true
is_other kind.Cme = true
is_other kind.Cms = true
is_other kind.Unknown = false
is_other kind.NotAllowed = false
is_other kind.Error = true
is_other kind.NoCarrier = true
is_other kind.Busy = true
is_other kind.NoAnswer = true
is_other kind.NoDialtone = true
is_other kind.Custom = true
is_other kind.Notice = true

-- a kind's number as it is handed in
abbrev pub given_of : Kind → ℕ → Option ℕ
given_of k n = if has_number k then Some n else None

abbrev pub Told : Answer → Type 0
Told a = is_other a.kind ≡ true → (a.payload.len ≡ 0) × Sayable a.kind (given_of a.kind a.number) []

given_stored : (k : Kind) (n : ℕ) → given_of k n ≡ given_of k (stored (numbered k n))
given_stored k n = go (has_number k)
  where
    go : (b : Bool) → (if b then Some n else None) ≡ (if b then Some (stored (if b then number n else none)) else None)
    go true = refl
    go false = refl

silent : {A : Type 0} → ◌≡◌ {A = Bool} false true → A
silent h = absurd (false_true h refl)

-- a code is at most 65,535
abbrev Small : Option Digits → Type 0
Small (Some d) = d.code ≤ 65535
Small None = Unit {0}

run_small : (s : List ℕ) (a : ℕ) → Small (ended_run s a (digits_at s a))
unfolding ended_run run_at
run_small s a =
    ways (λ (r : Option (ℕ × ℕ)). Small (ended_run s a r)) (leb (value 0 (drop a s)) 65535)
    (λ q. ways Small (ltb a (past is_digit s a) && ltb 0 (line_ending s (past is_digit s a))) (λ _. leb-true (value 0 (drop a s)) 65535 q) (λ _. tt))
    (λ q. tt)

found_small : (h s : List ℕ) (r : Option ℕ) → Small (at_found h s r)
unfolding at_found
found_small h s (Some p) = ways Small (stands h s p) (λ q. run_small s (past (is_blank blanks.Run) s (p + length h))) (λ q. tt)
found_small h s None = tt

-- a line or a head, with the number n where its kind has one
fixed_told : (l : Fixed) (n : ℕ) → n ≤ 65535 → is_other (kind_of l) ≡ true → Sayable (kind_of l) (given_of (kind_of l) n) []
fixed_told fixed.Ok n h q = silent q
fixed_told fixed.Connect n h q = silent q
fixed_told fixed.Error n h q = error
fixed_told fixed.CommandNotSupport n h q = error
fixed_told fixed.NoCarrier n h q = no_carrier
fixed_told fixed.Busy n h q = busy
fixed_told fixed.NoAnswer n h q = no_answer
fixed_told fixed.NoDialtone n h q = no_dialtone
fixed_told fixed.Na n h q = silent q
fixed_told fixed.Cme n h q = cme h
fixed_told fixed.Cms n h q = cms h
fixed_told fixed.Modem n h q = silent q
fixed_told fixed.ConnectText n h q = silent q

-- the rules, one by one
module _ (s : List ℕ) (e : ℕ) where
  ok_told : (r : Option ℕ) → TriedHas Told (line_success s e fixed.Ok r)
  unfolding line_success
  ok_told (Some p) = silent
  ok_told None = tt

  connected_told : (p : ℕ) (r : Option ℕ) → TriedHas Told (connected s e p r)
  unfolding connected
  connected_told p (Some end) = silent
  connected_told p None = tt

  connect_told : (d : Digester) (r : Option ℕ) → TriedHas Told (connect_success d s e r)
  unfolding connect_success
  connect_told d (Some p) = connected_told p (connect_at d s p)
  connect_told d None = tt

  prompt_told : (b : Bool) (c : ℕ) → Sayable kind.Prompt (Some c) [] → TriedHas Told (prompt_tried b c s)
  unfolding prompt_tried
  prompt_told b c w = ways (TriedHas Told) b (λ q h. (refl, w)) (λ q. tt)

  numeric_told : (h : Fixed) (r : Option Digits) → Small r → TriedHas Told (numeric_tried h r)
  unfolding numeric_tried
  numeric_told h (Some d) w = λ q. (refl, subst (λ (g : Option ℕ). Sayable (kind_of h) g []) (given_stored (kind_of h) d.code) (fixed_told h d.code w q))
  numeric_told h None w = tt

  line_told : (l : Fixed) (r : Option ℕ) → TriedHas Told (line_tried l r)
  unfolding line_tried
  line_told l (Some p) = λ q. (refl, fixed_told l 0 (omega arith) q)
  line_told l None = tt

  na_told : TriedHas Told (not_allowed s e)
  unfolding not_allowed
  na_told = ways (TriedHas Told) (stands (fixed_text fixed.Na) s e) (λ q. silent) (λ q. tt)

  tried_told : (d : Digester) → TriedHas Told (tried d [] s e)
  unfolding tried of_mark numeric_error
  tried_told d =
      either_has Told (or_else (line_success s e fixed.Ok (find_in (fixed_text fixed.Ok) s e)) (connect_success d s e (first_connect d s e))) _
      (either_has Told (line_success s e fixed.Ok (find_in (fixed_text fixed.Ok) s e)) _ (ok_told (find_in (fixed_text fixed.Ok) s e)) (connect_told d (first_connect d s e)))
      (either_has Told (or_else (prompt_tried (prompt_from 62 s e) 62 s) (prompt_tried (prompt_from 64 s e) 64 s)) _
      (either_has Told (prompt_tried (prompt_from 62 s e) 62 s) _ (prompt_told (prompt_from 62 s e) 62 greater) (prompt_told (prompt_from 64 s e) 64 sign))
      (either_has Told (numeric_errors s e) _ (first_has Told (λ h. numeric_tried h (numeric_error (fixed_text h) s e)) (λ h. numeric_told h (numeric_error (fixed_text h) s e) (found_small (fixed_text h) s (find_in (fixed_text h) s e))) heads)
      (either_has Told (line_errors s e) _ (first_has Told (λ x. line_tried x (find_in (fixed_text x) s e)) (λ x. line_told x (find_in (fixed_text x) s e)) error_lines) na_told)))

-- the retry's answer is of the same kind, number and payload's length
again_told : (e : ℕ) (r : Answer) → Told r → Told (again e r)
unfolding again
again_told e r h = ways Told (is_found r) (λ q. h) (λ q. silent)

after_told : (s : List ℕ) (f : List ℕ → Answer) (e : ℕ) (t : Option Answer) → TriedHas Told t → (retries s e ≡ true → Told (f (drop (e + 2) s))) → Told (after s f e t)
unfolding after
after_told s f e (Some a) w g = w
after_told s f e None w g = ways Told (retries s e) (λ q. again_told e (f (drop (e + 2) s)) (g q)) (λ q. silent)

pub digest_told : (d : Digester) (s : List ℕ) → Told (digest_in d [] s)
digest_told d = by_length (λ s. Told (digest_in d [] s)) one
  where
    one : (s : List ℕ) → ((l : List ℕ) → length l < length s → Told (digest_in d [] l)) → Told (digest_in d [] s)
    one s ih =
        let e = skipped s in
        rw (digest_step d [] s) (after_told s (digest_in d []) e (tried d [] s e) (tried_told s e d) (λ q. ih (drop (e + 2) s) (rest_shorter s e q)))
