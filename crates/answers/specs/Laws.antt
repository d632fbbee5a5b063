-- How the makers' numbers are found, and that what they make lies within its input.
use Rattle.std.specs.Prelude.{Result, Ok, Err, ◌≡◌, refl, true, false, ℕ, zero, suc, ◌+◌, ◌≤◌, get_or}
use Rattle.std.proofs.Common.{sym, ap, ◌∙◌, arith, le-leb}
use Rattle.outcome.specs.Laws.{ways}
use Rattle.text.specs.Logic.{false_true}
use Rattle.text.specs.declared.Span.{Span}
use Rattle.answers.specs.declared.Kind.{Kind}
use Rattle.answers.specs.declared.Kind.TheVariants as kind
use Rattle.answers.specs.declared.Answer.{Answer}
use Rattle.answers.specs.declared.DigestError.{DigestError}
use Rattle.answers.specs.declared.DigestError.TheVariants as says
use Rattle.answers.specs.Answer.{kind_number, kinds, none, number, has_number, numbered, kind_found, is_notice, is_numeric, placed, bare, nothing, made, with_number, with_digits, with_payload, with_text, carried, further, shift, longest, shift_within, Within, outcome}

-- A kind is known by its number.
kind_back : (k : Kind) → get_or kinds (kind_number k) kind.None ≡ k
kind_back kind.None = refl
kind_back kind.Ok = refl
kind_back kind.Prompt = refl
kind_back kind.Cme = refl
kind_back kind.Cms = refl
kind_back kind.Unknown = refl
kind_back kind.NotAllowed = refl
kind_back kind.Error = refl
kind_back kind.NoCarrier = refl
kind_back kind.Busy = refl
kind_back kind.NoAnswer = refl
kind_back kind.NoDialtone = refl
kind_back kind.Custom = refl
kind_back kind.Notice = refl

pub kind_one : (k j : Kind) → kind_number k ≡ kind_number j → k ≡ j
kind_one k j e = sym (kind_back k) ∙ ap (λ (n : ℕ). get_or kinds n kind.None) e ∙ kind_back j

-- the only kind that isn't found is None
pub none_only : (k : Kind) → kind_found k ≡ false → k ≡ kind.None
none_only kind.None e = refl
none_only _ e = absurd (false_true refl e)

-- the only notice is Notice, which has no digits
notice_only : (k : Kind) → is_notice k ≡ true → k ≡ kind.Notice
notice_only kind.Notice e = refl
notice_only _ e = absurd (false_true e refl)

pub notice_plain : (k : Kind) → is_notice k ≡ true → is_numeric k ≡ false
notice_plain k e = ap is_numeric (notice_only k e)

-- a kind with a number, and one without
pub numbered_some : (k : Kind) (n : ℕ) → has_number k ≡ true → number n ≡ numbered k n
numbered_some k n h = rw h

pub numbered_none : (k : Kind) (n : ℕ) → has_number k ≡ false → none ≡ numbered k n
numbered_none k n h = rw h

pub placed_none : (len p : ℕ) → len ≡ 0 → 0 ≡ placed len p
placed_none len p e = rw e

pub placed_some : (len p : ℕ) → (len ≡ 0 → ⊥) → p ≡ placed len p
placed_some zero p h = absurd (h refl)
placed_some (suc n) p h = refl

placed_le : (len p : ℕ) → placed len p + len ≤ p + len
placed_le zero p = omega arith
placed_le (suc n) p = omega arith

-- An empty text is none, wherever it is said to stand.
pub text_empty : (p t : Span) (c : ℕ) → t.len ≡ 0 → with_payload kind.Ok 0 p c ≡ with_text p t c
text_empty p t c e = ap (λ (n : ℕ). made kind.Ok 0 p (record { start = 0; len = 0 }) (record { start = t.start; len = n }) c) (sym e)

-- An answer within an input is moved by `shift`.
pub shift_is : (d n : ℕ) (a : Answer) → Within n a → n ≤ longest → d ≤ longest → shift_within d a ≡ shift d a
unfolding shift_within
shift_is d n a w h g = rw (le-leb a.payload.start longest (omega (arith, w.payload, w.all)), le-leb a.digits.start longest (omega (arith, w.digits, w.all)), le-leb a.text.start longest (omega (arith, w.text, w.all)), le-leb a.consumed longest (omega (arith, w.all)), le-leb d longest g)

pub longer_within : (n m : ℕ) (a : Answer) → Within n a → n ≤ m → Within m a
longer_within n m a w h = record { payload = w.payload; digits = w.digits; text = w.text; all = omega (arith, w.all) }

pub bare_within : (k : Kind) (c n : ℕ) → c ≤ n → Within n (bare k c)
bare_within k c n h = record { payload = omega arith; digits = omega arith; text = omega arith; all = h }

pub nothing_within : (c n : ℕ) → c ≤ n → Within n (nothing c)
nothing_within c n h = bare_within kind.None c n h

pub number_within : (k : Kind) (m c n : ℕ) → c ≤ n → Within n (with_number k m c)
number_within k m c n h = record { payload = omega arith; digits = omega arith; text = omega arith; all = h }

pub digits_within : (k : Kind) (m : ℕ) (q : Span) (c n : ℕ) → q.start + q.len ≤ c → c ≤ n → Within n (with_digits k m q c)
digits_within k m q c n h g = record { payload = omega arith; digits = omega (arith, placed_le q.len q.start); text = omega arith; all = g }

pub text_within : (p t : Span) (c n : ℕ) → p.start + p.len ≤ c → t.start + t.len ≤ c → c ≤ n → Within n (with_text p t c)
text_within p t c n h f g = record { payload = omega (arith, placed_le p.len p.start); digits = omega arith; text = omega (arith, placed_le t.len t.start); all = g }

pub payload_within : (k : Kind) (m : ℕ) (p : Span) (c n : ℕ) → p.start + p.len ≤ c → c ≤ n → Within n (with_payload k m p c)
payload_within k m p c n h g = record { payload = omega (arith, placed_le p.len p.start); digits = omega arith; text = omega arith; all = g }

pub shift_within_lem : (d n : ℕ) (a : Answer) → Within n a → Within (n + d) (shift d a)
unfolding shift
shift_within_lem d n a w =
    record {
      payload = omega (arith, placed_le a.payload.len (a.payload.start + d), w.payload);
      digits = omega (arith, placed_le a.digits.len (a.digits.start + d), w.digits);
      text = omega (arith, placed_le a.text.len (a.text.start + d), w.text);
      all = omega (arith, w.all);
    }

-- moved twice is moved by both
placed_twice : (len p a b : ℕ) → placed len (placed len (p + a) + b) ≡ placed len (p + (b + a))
placed_twice zero p a b = refl
placed_twice (suc n) p a b = omega arith

further_twice : (p : Span) (a b : ℕ) → further b (further a p) ≡ further (b + a) p
further_twice p a b = λ i. record { start = placed_twice p.len p.start a b i; len = p.len }

pub shift_shift : (a b : ℕ) (r : Answer) → shift b (shift a r) ≡ shift (b + a) r
unfolding shift
shift_shift a b r =
    let c : r.consumed + a + b ≡ r.consumed + (b + a) = omega arith in
    λ i. record {
      kind = r.kind;
      number = r.number;
      payload = further_twice r.payload a b i;
      digits = further_twice r.digits a b i;
      text = further_twice r.text a b i;
      consumed = c i;
    }

-- what goes along lies within what is consumed
pub carried_within : (n : ℕ) (a : Answer) → Within n a → (carried a).start + (carried a).len ≤ a.consumed
carried_within n a w = ways (λ (p : Span). p.start + p.len ≤ a.consumed) (is_numeric a.kind) (λ q. w.digits) (λ q. w.payload)

-- no two answers of a digest have the same outcome
pub outcome_one : (r q : Result Answer DigestError) → outcome r ≡ outcome q → r ≡ q
outcome_one (Ok a) (Ok b) e = cc
outcome_one (Ok a) (Err says.TooLong) e = cc
outcome_one (Ok a) (Err (says.BadTable k)) e = cc
outcome_one (Err says.TooLong) (Ok a) e = cc
outcome_one (Err says.TooLong) (Err says.TooLong) e = refl
outcome_one (Err says.TooLong) (Err (says.BadTable k)) e = cc
outcome_one (Err (says.BadTable k)) (Ok a) e = cc
outcome_one (Err (says.BadTable k)) (Err says.TooLong) e = cc
outcome_one (Err (says.BadTable k)) (Err (says.BadTable m)) e = cc
