-- Small laws of tests and orders that every layer above uses, and the one law that says what an equation as a promise is worth.
use Rattle.std.specs.Prelude.{◌≡◌, refl, ◌⊎◌, Bool, true, false, ◌&&◌, cond, ℕ, ◌+◌, ◌-◌, ◌≤◌, ◌<◌, leb}
use Rattle.std.proofs.Common.{sym, ap, ◌∙◌, inl, inr, ⊎_elim, arith, le-leb}
use Rattle.std.proofs.Math.Decide.{dec_lt}
use Rattle.std.proofs.lemmas.Bool.{lt-leb}

-- Where a promise is `r ≡ d`, any two results that it allows are equal.
pub determined : {A : Type 0} {d r q : A} → r ≡ d → q ≡ d → r ≡ q
determined p q = p ∙ sym q

pub false_true : {b : Bool} → b ≡ true → b ≡ false → ⊥
false_true p q = let z : ◌≡◌ {A = ℕ} 0 1 = ap (λ (b : Bool). cond b 0 1) (sym p ∙ q) in omega arith

pub not_true_false : (b : Bool) → (b ≡ true → ⊥) → b ≡ false
not_true_false true h = absurd (h refl)
not_true_false false h = refl

pub and_both : (a b : Bool) → a && b ≡ true → (a ≡ true) × (b ≡ true)
and_both true b e = (refl, e)
and_both false b e = absurd (false_true e refl)

-- a < b or b ≤ a, to be taken apart
pub order : (a b : ℕ) → (a < b) ⊎ (b ≤ a)
order a b = elim (dec_lt a b) [ yes p ↦ inl p | no n ↦ inr (omega arith) ]

pub leb_shift : (n d m : ℕ) → d ≤ n → leb n (d + m) ≡ leb (n - d) m
leb_shift n d m h =
    ⊎_elim
    (λ (q : m < n - d). lt-leb n (d + m) (omega arith) ∙ sym (lt-leb (n - d) m q))
    (λ (q : n - d ≤ m). le-leb n (d + m) (omega arith) ∙ sym (le-leb (n - d) m q))
    (order m (n - d))
