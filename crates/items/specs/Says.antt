-- Where hints are right, what the five give with them is what the rules give, and the hints that they hand on are right too (`firsts_say`).
use Rattle.std.specs.Prelude.{Option, Some, None, ◌≡◌, List, ℕ, ◌+◌, ◌-◌, ◌≤◌, length, drop, leb}
use Rattle.std.proofs.Math.Path.{refl}
use Rattle.std.proofs.Common.{sym, ap, ◌∙◌, arith}
use borrow.Author.Tests.{leb-true}
use Rattle.std.specs.declared.ops.ControlFlow.{ControlFlow}
use Rattle.std.specs.declared.ops.ControlFlow.TheVariants.{Break, Continue}
use Rattle.outcome.specs.Laws.{ways}
use Rattle.text.specs.Text.{find_in}
use Rattle.text.specs.Laws.{found_at, found_none, find_is, stands_drop}
use Rattle.lines.specs.Lines.{fixed_text}
use Rattle.lines.specs.declared.Fixed.TheVariants as fixed
use Rattle.parser.specs.Parser.{only_blanks, prompt_from, at_found, numeric_error}
use Rattle.places.specs.Places.{FirstPlaces}
use Rattle.places.specs.declared.Places.{Places}
use Rattle.answers.specs.declared.Answer.{Answer}
use Rattle.items.specs.declared.First.{First}
use Rattle.items.specs.declared.First.TheVariants as first
use Rattle.items.specs.declared.Hints.{Hints}
use Rattle.items.specs.Rules.{or_else, first_of, prompt_tried, numeric_tried, numeric_errors}
use Rattle.items.specs.Hints.{Level, given, sought, first_place, decided, Idle, or_hint, found_hint, first_from, before, hinted, onward, prompt_bytes, numerics, firsts, unknown, hint_of, Known, Says}
use Rattle.items.specs.Laws.{or_next_lem, place_within}

-- a search from further on, but not past what was found, finds the same
find_same : (t s : List ℕ) (e k m : ℕ) → find_in t s e ≡ Some k → e ≤ m → m ≤ k → find_in t s m ≡ Some k
find_same t s e k m q h g =
    let v = found_at t s e k q in
    find_is t s m (Some k) (record { after = g; here = v.here; first = λ j a b. v.first j (omega arith) b })

-- what is nowhere from e on is nowhere further on, in any suffix
pub find_lost : (t s : List ℕ) (e k m : ℕ) → e ≤ k + m → find_in t s e ≡ None → find_in t (drop k s) m ≡ None
find_lost t s e k m h q = find_is t (drop k s) m None (λ j g. stands_drop t s k j ∙ found_none t s e q (k + j) (omega arith))

-- The five rules by the first place of what they look for.
given_found : (x : First) (s : List ℕ) (e : ℕ) (r : Option ℕ) → find_in (sought x) s e ≡ r → given x s e ≡ decided x s r
unfolding prompt_from numeric_error
given_found first.Greater s e r q = ap (λ (f : Option ℕ). prompt_tried (only_blanks s f) 62 s) q
given_found first.Sign s e r q = ap (λ (f : Option ℕ). prompt_tried (only_blanks s f) 64 s) q
given_found first.Cme s e r q = ap (λ (f : Option ℕ). numeric_tried fixed.Cme (at_found (fixed_text fixed.Cme) s f)) q
given_found first.Cms s e r q = ap (λ (f : Option ℕ). numeric_tried fixed.Cms (at_found (fixed_text fixed.Cms) s f)) q
given_found first.Modem s e r q = ap (λ (f : Option ℕ). numeric_tried fixed.Modem (at_found (fixed_text fixed.Modem) s f)) q

decided_none : (x : First) (s : List ℕ) → decided x s None ≡ None
unfolding only_blanks prompt_tried at_found numeric_tried
decided_none first.Greater s = refl
decided_none first.Sign s = refl
decided_none first.Cme s = refl
decided_none first.Cms s = refl
decided_none first.Modem s = refl

first_is : (x : First) (s : List ℕ) (e : ℕ) (p : Places) → FirstPlaces s e p → first_place x s e p ≡ find_in (sought x) s e
first_is first.Greater s e p w = refl
first_is first.Sign s e p w = refl
first_is first.Cme s e p w = w fixed.Cme
first_is first.Cms s e p w = w fixed.Cms
first_is first.Modem s e p w = w fixed.Modem

-- One of the five: its answer, or a hint that is right.
abbrev HintSays : First → List ℕ → ℕ → ControlFlow Answer ℕ → Type 0
HintSays x s e (Break a) = given x s e ≡ Some a
HintSays x s e (Continue n) = (given x s e ≡ None) × Idle (given x s) s e n

module _ (x : First) (s : List ℕ) (e : ℕ) where
  or_says : (t : Option Answer) (n : ℕ) → given x s e ≡ t → (t ≡ None → Idle (given x s) s e n) → HintSays x s e (or_hint t n)
  unfolding or_hint
  or_says (Some a) n q v = q
  or_says None n q v = (q, v refl)

  found_says : e ≤ length s → (p : Places) (r : Option ℕ) → first_place x s e p ≡ r → find_in (sought x) s e ≡ r → HintSays x s e (found_hint x s r)
  unfolding found_hint
  found_says l p (Some k) z q =
      let i = place_within x s e p k z in
      or_says (decided x s (Some k)) (length s - k) (given_found x s e (Some k) q)
      (λ y m h g. given_found x s m (Some k) (find_same (sought x) s e k m q h (omega arith)) ∙ y)
  found_says l p None z q =
      (given_found x s e None q ∙ decided_none x s, λ m h g. given_found x s m None (find_lost (sought x) s e 0 m (omega arith) q) ∙ decided_none x s)

  pub first_says : (p : Places) → FirstPlaces s e p → e ≤ length s → (d : ℕ) → Idle (given x s) s e d → HintSays x s e (first_from x s e p d)
  unfolding first_from
  first_says p f l d w =
      ways (HintSays x s e) (leb d (length s - e))
      (λ q. let g = leb-true d (length s - e) q in (w e (omega arith) (omega arith), w))
      (λ q. found_says l p (first_place x s e p) refl (sym (first_is x s e p f)))

-- a level's parts, one before the other
module _ (s : List ℕ) (e : ℕ) where
  pub before_says : (t u : Option Answer) (r : Level) → Says s e u r → Says s e (or_else t u) (before t r)
  unfolding or_else before
  before_says (Some a) u r w = refl
  before_says None u r w = w

  hinted_says : (x : First) (r : ControlFlow Answer ℕ) (u : Option Answer) (f : ℕ → Level) → HintSays x s e r → ((n : ℕ) → Idle (given x s) s e n → Says s e u (f n)) → Says s e (or_else (given x s e) u) (hinted r f)
  unfolding or_else hinted
  hinted_says x (Break a) u f w g = rw w
  hinted_says x (Continue n) u f w g = rw w.0 (g n w.1)

  pub onward_says : (t u : Option Answer) (r : Level) (f : Hints → Level) → Says s e t r → ((h : Hints) → Known s e h → Says s e u (f h)) → Says s e (or_else t u) (onward r f)
  unfolding or_else onward
  onward_says t u (Break a) f w g = rw w
  onward_says t u (Continue (k, h)) f w g = rw w.0 (g h w.1.1)

module _ (s : List ℕ) (e : ℕ) (p : Places) (f : FirstPlaces s e p) (l : e ≤ length s) where
  says : (x : First) (h : Hints) → Known s e h → HintSays x s e (first_from x s e p (hint_of h x))
  says x h w = first_says x s e p f l (hint_of h x) (w x)

  pub bytes_say : (h : Hints) → Known s e h → Says s e (or_else (given first.Greater s e) (given first.Sign s e)) (prompt_bytes s e p h)
  unfolding prompt_bytes
  bytes_say h w =
      rw (or_next_lem (given first.Sign s e))
      (hinted_says s e first.Greater (first_from first.Greater s e p h.greater) _ _ (says first.Greater h w) (λ a u.
      hinted_says s e first.Sign (first_from first.Sign s e p h.sign) _ _ (says first.Sign h w) (λ b v.
      (refl, (refl, known a b u v)))))
    where
      known : (a b : ℕ) → Idle (given first.Greater s) s e a → Idle (given first.Sign s) s e b → Known s e (record h { greater = a; sign = b })
      known a b u v first.Greater = u
      known a b u v first.Sign = v
      known a b u v first.Cme = w first.Cme
      known a b u v first.Cms = w first.Cms
      known a b u v first.Modem = w first.Modem

  pub numerics_say : (h : Hints) → Known s e h → Says s e (numeric_errors s e) (numerics s e p h)
  unfolding numerics numeric_errors first_of
  numerics_say h w =
      hinted_says s e first.Cme (first_from first.Cme s e p h.cme) _ _ (says first.Cme h w) (λ a u.
      hinted_says s e first.Cms (first_from first.Cms s e p h.cms) _ _ (says first.Cms h w) (λ b v.
      hinted_says s e first.Modem (first_from first.Modem s e p h.modem) _ _ (says first.Modem h w) (λ c y.
      (refl, (refl, known a b c u v y)))))
    where
      known : (a b c : ℕ) → Idle (given first.Cme s) s e a → Idle (given first.Cms s) s e b → Idle (given first.Modem s) s e c → Known s e (record h { cme = a; cms = b; modem = c })
      known a b c u v y first.Greater = w first.Greater
      known a b c u v y first.Sign = w first.Sign
      known a b c u v y first.Cme = u
      known a b c u v y first.Cms = v
      known a b c u v y first.Modem = y

  pub firsts_say : (h : Hints) → Known s e h → Says s e (or_else (or_else (given first.Greater s e) (given first.Sign s e)) (numeric_errors s e)) (firsts s e p h)
  unfolding firsts
  firsts_say h w = onward_says s e _ (numeric_errors s e) (prompt_bytes s e p h) (numerics s e p) (bytes_say h w) numerics_say

-- What the five hints say: nothing at first.
pub nothing_known : (s : List ℕ) (e : ℕ) → length s ≤ 4096 → Known s e unknown
nothing_known s e l first.Greater = λ m a b. absurd (omega arith)
nothing_known s e l first.Sign = λ m a b. absurd (omega arith)
nothing_known s e l first.Cme = λ m a b. absurd (omega arith)
nothing_known s e l first.Cms = λ m a b. absurd (omega arith)
nothing_known s e l first.Modem = λ m a b. absurd (omega arith)
