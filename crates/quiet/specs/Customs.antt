-- A table of notices alone has no custom prompt, as the walk over its marks and lengths sees.
use Rattle.std.specs.Prelude.{◌≡◌, Bool, true, false, length, leb, ltb, eqb}
use Rattle.std.proofs.Math.Path.{refl}
use mathlib.Core.List.{List, [], ◌∷◌}
use Prim.Native.Nat.{ℕ, zero, suc, ◌+◌, ◌≤◌}
use Rattle.std.proofs.Math.ListN.{get_or}
use Rattle.std.proofs.Common.{sym, ap, ◌∙◌, arith, drop, drop-drop, get_or-drop, length-drop, le-leb}
use borrow.Author.Tests.{eqb-true}
use Rattle.outcome.specs.Laws.{ways}
use Rattle.text.specs.Bytes.{bytes}
use Rattle.text.specs.Text.{begins, stands}
use Rattle.table.specs.Table.{text_at, record_at, then_tokens, tokens_by, of_mark, entries}
use Rattle.table.specs.declared.Mark.TheVariants.{Prompt}

-- no record from `at` on is a custom prompt
abbrev pub NoPrompts : List ℕ → ℕ → Type 0
NoPrompts t at = (f n : ℕ) → of_mark Prompt n (tokens_by f t at) ≡ []

-- what a walk says of the whole table
abbrev pub OnlyNotices : List ℕ → Bool → Type 0
OnlyNotices t true = entries Prompt t 0 0 ≡ []
OnlyNotices t false = Unit {0}

module _ (t : List ℕ) (at : ℕ) where
  pub none_end : length t ≤ at → NoPrompts t at
  unfolding tokens_by record_at then_tokens of_mark
  none_end h zero n = refl
  none_end h (suc f) n = rw (le-leb (length t) at h)

  -- a notice is none, and the next record begins where its text ends
  pub none_step : stands (bytes "UR") t at ≡ true → NoPrompts t (at + 2 + 1 + get_or t (at + 2) 0) → NoPrompts t at
  unfolding tokens_by record_at text_at then_tokens of_mark
  none_step g p zero n = refl
  none_step g p (suc f) n =
      let None : _ → Type 0 = λ q. of_mark Prompt n (then_tokens t q (tokens_by f t)) ≡ [] in
      ways None (leb (length t) at) (λ e. refl)
      (λ e. rw g (ways None (ltb (at + 2 + get_or t (at + 2) 0) (length t)) (λ h. p f (n + 1)) (λ h. refl)))

-- the same where the walk has what is left of the table, u, which is so long that it has a mark and a length
marked : (u : List ℕ) → 2 ≤ length u → get_or u 0 0 ≡ 85 → get_or u 1 0 ≡ 82 → begins (bytes "UR") u ≡ true
unfolding begins
marked [] h a b = absurd (omega arith)
marked (x ∷ []) h a b = absurd (omega arith)
marked (x ∷ y ∷ u) h a b = rw (a, b)

pub none_next : (t : List ℕ) (at : ℕ) (u : List ℕ) → u ≡ drop at t → 3 ≤ length u → get_or u 0 0 ≡ 85 → get_or u 1 0 ≡ 82 → (len : ℕ) → len ≡ get_or u 2 0 → (drop len (drop 3 u) ≡ drop (at + (3 + len)) t) × (NoPrompts t (at + (3 + len)) → NoPrompts t at)
unfolding stands
none_next t at u e h a b len l =
    let i : get_or t (at + 2) 0 ≡ len = sym (get_or-drop at t 2 0) ∙ ap (λ (v : List ℕ). get_or v 2 0) (sym e) ∙ sym l in
    let j : at + (3 + len) ≡ at + 2 + 1 + get_or t (at + 2) 0 = omega arith in (
      drop-drop len 3 u ∙ ap (drop (3 + len)) e ∙ drop-drop (3 + len) at t,
      λ p. none_step t at (ap (begins (bytes "UR")) (sym e) ∙ marked u (omega arith) a b) (rw j at p),
    )

none_all : (t : List ℕ) → NoPrompts t 0 → entries Prompt t 0 0 ≡ []
unfolding entries
none_all t p = p 64 0

-- nothing is left of it, or something is
pub only_left : (t : List ℕ) (at : ℕ) (u : List ℕ) → u ≡ drop at t → (NoPrompts t at → NoPrompts t 0) → (b : Bool) → b ≡ eqb (length u) 0 → OnlyNotices t b
only_left t at u e w true q = none_all t (w (none_end t at (omega (arith, eqb-true (length u) 0 (sym q), ap length e, length-drop at t))))
only_left t at u e w false q = tt
