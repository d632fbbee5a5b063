-- From a place of the payload to the laws: what the tests of the readers say of the bytes from there on.
use Rattle.std.proofs.Math.Path.{◌≡◌, refl, ap}
use Rattle.std.proofs.Common.{Option, Some, None, Result, Ok, Err, sym, ◌∙◌, subst, ⊎_elim, arith, drop_of_length-le, drop-cons, drop-drop, get_or-drop}
use Rattle.std.specs.Prelude.{Bool, not, ◌&&◌, List, ◌∷◌, length, get_or, drop, eqb, if◌then◌else◌}
use Rattle.std.proofs.Math.Bool.{true, false}
use Prim.Native.Nat.{ℕ, zero, suc, ◌+◌, ◌≤◌, ◌<◌}
use Rattle.std.proofs.Math.ListN.{get_or-eq_default}
use Rattle.std.proofs.Math.Dec.{leb}
use borrow.Author.Tests.{ne_eqb, leb-true, leb-false}
use Rattle.text.specs.Logic.{false_true, order}
use Rattle.text.specs.Text.{lead, past}
use Rattle.parser.specs.Parser.{is_digit, value, run_at}
use Rattle.pieces.specs.Pieces.{string_end, number_at}
use Rattle.pieces.specs.declared.Kind.TheVariants as kinds
use Rattle.pieces.specs.declared.StringError.{StringError}
use Rattle.pieces.specs.declared.StringError.TheVariants.{Broken}
use Rattle.lists.specs.declared.ListError.{ListError}
use Rattle.lists.specs.declared.ListError.TheVariants.{Malformed, TooLarge, TooMany}
use Rattle.lists.specs.Grammar.{made}
use Rattle.lists.specs.Scan.{outside}
use Rattle.lists.specs.Strings.{Strung, strung}
use Rattle.lists.specs.Reader.{Bodied, ends_at, Bare}
use Rattle.lists.specs.Bodies.{string_late, string_is, string_broken, Run, runs, number_large, number_late, number_is, range_malformed, range_large, range_is}

-- the first byte still to come
pub first_byte : (s : List ℕ) (at : ℕ) → get_or (drop at s) 0 0 ≡ get_or s at 0
first_byte s at = get_or-drop at s 0 0 ∙ ap (λ (i : ℕ). get_or s i 0) (omega arith)

eqb_outside : (d : ℕ) → eqb d 0 ≡ outside d
eqb_outside zero = refl
eqb_outside (suc d) = ne_eqb (suc d) 0 (λ e. omega arith)

not_outside : (d : ℕ) → (d ≡ 0 → ⊥) → not (outside d) ≡ true
not_outside zero h = absurd (h refl)
not_outside (suc d) h = refl

module _ (s : List ℕ) (at d : ℕ) where
  pub ends_past : length s ≤ at → eqb d 0 ≡ ends_at d (drop at s)
  unfolding ends_at
  ends_past h = rw (drop_of_length-le s h) (eqb_outside d)

  module _ (h : at < length s) where
    pub ends_comma : get_or s at 0 ≡ 44 → true ≡ ends_at d (drop at s)
    unfolding ends_at
    ends_comma e = rw (drop-cons s at 0 h, e)

    module _ (n : get_or s at 0 ≡ 44 → ⊥) where
      pub ends_outside : d ≡ 0 → false ≡ ends_at d (drop at s)
      unfolding ends_at
      ends_outside e = rw (drop-cons s at 0 h, ne_eqb (get_or s at 0) 44 n, e) (no_and (eqb (get_or s at 0) 41))
        where
          no_and : (c : Bool) → false ≡ c && false
          no_and true = refl
          no_and false = refl

      pub ends_inside : (d ≡ 0 → ⊥) → eqb (get_or s at 0) 41 ≡ ends_at d (drop at s)
      unfolding ends_at
      ends_inside e = rw (drop-cons s at 0 h, ne_eqb (get_or s at 0) 44 n, not_outside d e) (and_one (eqb (get_or s at 0) 41))
        where
          and_one : (c : Bool) → c ≡ c && true
          and_one true = refl
          and_one false = refl

-- a byte that is told stands there
pub told_byte : (s : List ℕ) (at b : ℕ) → get_or s at 0 ≡ suc b → at < length s
told_byte s at b e =
    ⊎_elim (λ h. h) (λ (h : length s ≤ at). absurd (omega (arith, e, get_or-eq_default s 0 h))) (order at (length s))

pub told_digit : (s : List ℕ) (at : ℕ) → is_digit (get_or s at 0) ≡ true → at < length s
unfolding is_digit
told_digit s at e =
    ⊎_elim (λ h. h) (λ (h : length s ≤ at). absurd (false_true (sym (ap is_digit (get_or-eq_default s 0 h)) ∙ e) refl)) (order at (length s))

pub opens_with : (s : List ℕ) (at b : ℕ) → get_or s at 0 ≡ suc b → drop at s ≡ suc b ∷ drop (at + 1) s
opens_with s at b e = let n : suc at ≡ at + 1 = omega arith in drop-cons s at 0 (told_byte s at b e) ∙ ap (λ (c : ℕ). c ∷ drop (suc at) s) e ∙ ap (λ (i : ℕ). suc b ∷ drop i s) n

-- a string that is broken is malformed there
abbrev pub malformed_by : StringError → ListError
malformed_by (Broken p) = Malformed p

-- a string at the place `at`
module _ (s : List ℕ) (at d n : ℕ) (q : get_or s at 0 ≡ 34) where
  pub string_over : 256 ≤ n → Bodied d n at (drop at s) (Err (TooMany at))
  string_over g = subst (λ (x : List ℕ). Bodied d n at x (Err (TooMany at))) (sym (opens_with s at 33 q)) (string_late d n at (drop (at + 1) s) g)

  module _ (g : n < 256) (r : Result ℕ StringError) (f : r ≡ string_end 0 (at + 1) (drop (at + 1) s)) where
    read_string : Strung d (suc n) 0 (suc at) (drop (at + 1) s) r
    read_string =
        let e : suc at ≡ at + 1 = omega arith in
        subst (Strung d (suc n) 0 (suc at) (drop (at + 1) s)) (ap (λ (i : ℕ). string_end 0 i (drop (at + 1) s)) e ∙ sym f) (strung d (suc n) (drop (at + 1) s) 0 (suc at))

    pub string_closed : (e : ℕ) → r ≡ Ok e → Bodied d n at (drop at s) (Ok (made at e kinds.String d 0 0))
    string_closed e h =
        subst (λ (x : List ℕ). Bodied d n at x (Ok (made at e kinds.String d 0 0))) (sym (opens_with s at 33 q))
        (string_is d n at (drop (at + 1) s) g e (subst (Strung d (suc n) 0 (suc at) (drop (at + 1) s)) h read_string))

    pub string_open : (p : ℕ) → r ≡ Err (Broken p) → Bodied d n at (drop at s) (Err (Malformed p))
    string_open p h =
        subst (λ (x : List ℕ). Bodied d n at x (Err (Malformed p))) (sym (opens_with s at 33 q))
        (string_broken d n at (drop (at + 1) s) g p (subst (Strung d (suc n) 0 (suc at) (drop (at + 1) s)) h read_string))

-- a run of digits that was read
record Valued (s : List ℕ) (p v e : ℕ) : Type 0 where
  is : v ≡ value 0 (drop p s)
  small : value 0 (drop p s) ≤ 4294967295
  end : e ≡ p + lead is_digit (drop p s)

module _ (s : List ℕ) (p : ℕ) where
  split : (b : Bool) → leb (value 0 (drop p s)) 4294967295 ≡ b → (v e : ℕ) → ◌≡◌ {A = Option (ℕ × ℕ)} (Some (v, e)) (if b then Some (value 0 (drop p s), past is_digit s p) else None) → Valued s p v e
  unfolding past
  split true h v e f = record { is = ap number_of f; small = leb-true (value 0 (drop p s)) 4294967295 h; end = ap end_of f }
    where
      number_of : Option (ℕ × ℕ) → ℕ
      number_of (Some (a, b)) = a
      number_of None = 0

      end_of : Option (ℕ × ℕ) → ℕ
      end_of (Some (a, b)) = b
      end_of None = 0
  split false h v e f = absurd (let z : ◌≡◌ {A = ℕ} 1 0 = ap is_value f in omega arith)
    where
      is_value : Option (ℕ × ℕ) → ℕ
      is_value (Some (a, b)) = 1
      is_value None = 0

  valued : (v e : ℕ) → ◌≡◌ {A = Option (ℕ × ℕ)} (Some (v, e)) (number_at s p) → Valued s p v e
  unfolding run_at
  valued v e = split (leb (value 0 (drop p s)) 4294967295) refl v e

  too_large_lem : None ≡ number_at s p → 4294967295 < value 0 (drop p s)
  unfolding run_at
  too_large_lem = go (leb (value 0 (drop p s)) 4294967295) refl
    where
      go : (b : Bool) → leb (value 0 (drop p s)) 4294967295 ≡ b → ◌≡◌ {A = Option (ℕ × ℕ)} None (if b then Some (value 0 (drop p s), past is_digit s p) else None) → 4294967295 < value 0 (drop p s)
      go true h f = absurd (let z : ◌≡◌ {A = ℕ} 0 1 = ap is_value f in omega arith)
        where
          is_value : Option (ℕ × ℕ) → ℕ
          is_value (Some (a, b)) = 1
          is_value None = 0
      go false h f = leb-false (value 0 (drop p s)) 4294967295 h

-- a number or a range at the place `at`
module _ (s : List ℕ) (at d n : ℕ) (q : is_digit (get_or s at 0) ≡ true) (r : Option (ℕ × ℕ)) (f : r ≡ number_at s at) where
  digits_here : Run (drop at s) (lead is_digit (drop at s))
  digits_here = runs (drop at s) (ap is_digit (first_byte s at) ∙ q)

  pub number_over : r ≡ None → Bodied d n at (drop at s) (Err (TooLarge at))
  number_over h = number_large d n at (lead is_digit (drop at s)) (drop at s) digits_here (too_large_lem s at (sym h ∙ f))

  module _ (v e : ℕ) (h : r ≡ Some (v, e)) where
    here : Valued s at v e
    here = valued s at v e (sym h ∙ f)

    pub number_over_count : 256 ≤ n → Bodied d n at (drop at s) (Err (TooMany at))
    number_over_count g = number_late d n at (lead is_digit (drop at s)) (drop at s) digits_here here.small g

    behind : digits_here.rest ≡ drop e s
    behind = digits_here.left ∙ drop-drop (lead is_digit (drop at s)) at s ∙ ap (λ (i : ℕ). drop i s) (sym here.end)

    module _ (g : n < 256) where
      pub number_alone : (get_or s e 0 ≡ 45 → ⊥) → Bodied d n at (drop at s) (Ok (made at e kinds.Number d v v))
      number_alone l =
          rw (here.is, here.end)
          (number_is d n at (lead is_digit (drop at s)) (drop at s) digits_here here.small g
          (ap (λ (y : List ℕ). eqb (get_or y 0 0) 45) behind ∙ ap (λ (b : ℕ). eqb b 45) (first_byte s e) ∙ ne_eqb (get_or s e 0) 45 l))

      module _ (l : get_or s e 0 ≡ 45) where
        dash_behind : digits_here.rest ≡ 45 ∷ drop (e + 1) s
        dash_behind = behind ∙ opens_with s e 44 l

        place : at + lead is_digit (drop at s) + 1 ≡ e + 1
        place = ap (λ (i : ℕ). i + 1) (sym here.end)

        pub range_broken : is_digit (get_or s (e + 1) 0) ≡ false → Bodied d n at (drop at s) (Err (Malformed (e + 1)))
        range_broken m =
            subst (λ (i : ℕ). Bodied d n at (drop at s) (Err (Malformed i))) place
            (range_malformed d n at (lead is_digit (drop at s)) (drop at s) digits_here here.small g (drop (e + 1) s) dash_behind (ap is_digit (first_byte s (e + 1)) ∙ m))

        module _ (m : is_digit (get_or s (e + 1) 0) ≡ true) (r₂ : Option (ℕ × ℕ)) (k : r₂ ≡ number_at s (e + 1)) where
          second : Run (drop (e + 1) s) (lead is_digit (drop (e + 1) s))
          second = runs (drop (e + 1) s) (ap is_digit (first_byte s (e + 1)) ∙ m)

          pub range_over : r₂ ≡ None → Bodied d n at (drop at s) (Err (TooLarge (e + 1)))
          range_over i =
              subst (λ (i : ℕ). Bodied d n at (drop at s) (Err (TooLarge i))) place
              (range_large d n at (lead is_digit (drop at s)) (drop at s) digits_here here.small g (drop (e + 1) s) dash_behind (lead is_digit (drop (e + 1) s)) second (too_large_lem s (e + 1) (sym i ∙ k)))

          pub range_whole : (u z : ℕ) → r₂ ≡ Some (u, z) → Bodied d n at (drop at s) (Ok (made at z kinds.Range d v u))
          range_whole u z i =
              let there = valued s (e + 1) u z (sym i ∙ k) in
              let stop : z ≡ at + lead is_digit (drop at s) + 1 + lead is_digit (drop (e + 1) s) = omega (arith, there.end, here.end) in
              rw (here.is, there.is, stop)
              (range_is d n at (lead is_digit (drop at s)) (drop at s) digits_here here.small g (drop (e + 1) s) dash_behind (lead is_digit (drop (e + 1) s)) second there.small)

-- where no number, string, space or bracket begins
pub bare : (s : List ℕ) (at b : ℕ) → b ≡ get_or s at 0 → is_digit b ≡ false → (b ≡ 34 → ⊥) → (get_or s at 0 ≡ 32 → ⊥) → (get_or s at 0 ≡ 40 → ⊥) → Bare (drop at s)
bare s at b e f g h k =
    let i = first_byte s at in
    record {
      digit = ap is_digit (i ∙ sym e) ∙ f;
      space = ap (λ (c : ℕ). eqb c 32) i ∙ ne_eqb (get_or s at 0) 32 h;
      quote = ap (λ (c : ℕ). eqb c 34) i ∙ ne_eqb (get_or s at 0) 34 (λ q. g (e ∙ q));
      opens = ap (λ (c : ℕ). eqb c 40) i ∙ ne_eqb (get_or s at 0) 40 k;
    }
