-- A limit that a derivation passes shows in the state at its place and in the bytes that follow there: any bytes that show as much are refused there too.
use Rattle.std.specs.Prelude.{◌≡◌, ◌⊎◌, Bool, true, false, get_or, take, drop, replicate, eqb, leb, ltb, if◌then◌else◌}
use Rattle.std.proofs.Math.Path.{refl}
use Rattle.std.proofs.Common.{sym, ap, ◌∙◌, subst, inl, inr, ⊎_elim, arith, length-append, take-append-drop}
use mathlib.Core.List.Memᴰ
use mathlib.Core.List.{List, [], ◌∷◌, ◌++◌, Memᴰ, append_assoc}
use Prim.Native.Nat.{ℕ, suc, ◌+◌, ◌*◌, ◌-◌, ◌≤◌, ◌<◌}
use Rattle.std.proofs.Math.ListN.{length}
use Rattle.std.proofs.lemmas.List.{length-replicate}
use Rattle.std.proofs.Math.Seq.{take-append_seam}
use borrow.Author.Tests.{le-leb, lt-leb, leb-true, ltb-true, ne_eqb}
use Rattle.outcome.specs.Laws.{ways}
use Rattle.text.specs.Logic.{false_true, and_both}
use Rattle.parser.specs.Parser.{is_digit, value}
use Rattle.parser.specs.Laws.{digit_bounds, value_grows}
use Rattle.lists.specs.Grammar.{digits, is_number, Symbol, Derivation, empty, number, range, string, bracket, spaced, one, more, word, elements, Over, too_deep, too_large, too_many, over}
use Rattle.lists.specs.Scan.{State, at, start, dash, step, run, is_dead, final, many, limit, fault_in}
use Rattle.lists.specs.Places.{run_append}
use Rattle.lists.specs.Ends.{is_number_lem, number_digits, ends, run_number, run_spaces}

-- what may follow an element: nothing, a comma, a closing bracket
pub data Follow : List ℕ → Type 0 where
  nothing : Follow []
  comma : (x : List ℕ) → Follow (44 ∷ x)
  close : (x : List ℕ) → Follow (41 ∷ x)

-- the first byte is none of the spaces in front of an element
abbrev pub Begun : List ℕ → Type 0
Begun [] = Unit {0}
Begun (b ∷ x) = eqb b 32 ≡ false

-- where v is still to come, its first j bytes show that the limit k is passed
pub data Shows (k : ℕ) (v : List ℕ) (j : ℕ) (σ : State) : Type 0 where
  deep : (d n : ℕ) (x : List ℕ) → σ ≡ at start d n → k ≡ 7 → 4 ≤ d → v ≡ 40 ∷ x → j ≡ 1 → Shows k v j σ
  large : (d n : ℕ) (w x : List ℕ) → (σ ≡ at start d n) ⊎ (σ ≡ at dash d n) → k ≡ 8 → is_number w ≡ true → 4294967295 < value 0 w → v ≡ w ++ x → j ≡ length w → Shows k v j σ
  late : (d n : ℕ) → σ ≡ at start d n → k ≡ 9 → 256 ≤ n → Begun v → j ≡ 1 → Shows k v j σ

-- the limit o of a derivation whose word, with what follows it, is s from the place p on, read from the state σ
pub record Shown (σ : State) (p : ℕ) (s : List ℕ) (o : Over) : Type 0 where
  pub before : List ℕ
  pub behind : List ℕ
  pub parts : s ≡ before ++ behind
  pub place : o.place ≡ p + length before
  pub seen : ℕ
  pub end : o.shown ≡ o.place + seen
  pub shows : Shows o.refusal behind seen (run σ before)

shows_as : {k j : ℕ} {v : List ℕ} {σ τ : State} → σ ≡ τ → Shows k v j τ → Shows k v j σ
shows_as e (deep d n x f q h g l) = deep d n x (e ∙ f) q h g l
shows_as e (large d n w x (inl f) q h g l m) = large d n w x (inl (e ∙ f)) q h g l m
shows_as e (large d n w x (inr f) q h g l m) = large d n w x (inr (e ∙ f)) q h g l m
shows_as e (late d n f q h g l) = late d n (e ∙ f) q h g l

-- what is shown behind more bytes
module _ (σ τ : State) (p q : ℕ) (u s x : List ℕ) (o : Over) where
  shown_behind : run σ u ≡ τ → q ≡ p + length u → x ≡ u ++ s → Shown τ q s o → Shown σ p x o
  shown_behind e f g h =
      record {
        before = u ++ h.before;
        behind = h.behind;
        parts = g ∙ ap (λ (l : List ℕ). u ++ l) h.parts ∙ sym (append_assoc u h.before h.behind);
        place = omega (arith, h.place, length-append u h.before, f);
        seen = h.seen;
        end = h.end;
        shows = shows_as (run_append σ u h.before ∙ ap (λ (ρ : State). run ρ h.before) e) h.shows;
      }

-- what is shown at once
module _ (σ : State) (p j : ℕ) (v : List ℕ) (o : Over) where
  shown_here : o.place ≡ p → o.shown ≡ p + j → Shows o.refusal v j σ → Shown σ p v o
  unfolding run
  shown_here e f h = record { before = []; behind = v; parts = refl; place = omega arith; seen = j; end = omega arith; shows = h }

in_if : (b : Bool) (o q : Over) → Memᴰ o (if b then q ∷ [] else []) → (b ≡ true) × (o ≡ q)
in_if true o q m = (refl, ⊎_elim (λ e. e) (λ w. absurd (Memᴰ.not-nil w)) (Memᴰ.cases_cons m))
in_if false o q m = absurd (Memᴰ.not-nil m)

module _ (d p n : ℕ) (v : List ℕ) (o : Over) where
  shown_deep : (x : List ℕ) → v ≡ 40 ∷ x → Memᴰ o (too_deep d p) → Shown (at start d n) p v o
  unfolding too_deep
  shown_deep x g m =
      let h = in_if (leb 4 d) o (record { refusal = 7; place = p; shown = suc p }) m in
      shown_here (at start d n) p 1 v o (ap (λ (a : Over). a.place) h.1) (ap (λ (a : Over). a.shown) h.1 ∙ omega arith)
      (deep d n x refl (ap (λ (a : Over). a.refusal) h.1) (leb-true 4 d h.0) g refl)

  shown_late : Begun v → Memᴰ o (too_many n p) → Shown (at start d n) p v o
  unfolding too_many
  shown_late g m =
      let h = in_if (leb 256 n) o (record { refusal = 9; place = p; shown = suc p }) m in
      shown_here (at start d n) p 1 v o (ap (λ (a : Over). a.place) h.1) (ap (λ (a : Over). a.shown) h.1 ∙ omega arith)
      (late d n refl (ap (λ (a : Over). a.refusal) h.1) (leb-true 256 n h.0) g refl)

  shown_large : (σ : State) → (σ ≡ at start d n) ⊎ (σ ≡ at dash d n) → (w x : List ℕ) → is_number w ≡ true → v ≡ w ++ x → Memᴰ o (too_large w p) → Shown σ p v o
  unfolding too_large
  shown_large σ e w x g f m =
      let h = in_if (ltb 4294967295 (value 0 w)) o (record { refusal = 8; place = p; shown = p + length w }) m in
      shown_here σ p (length w) v o (ap (λ (a : Over). a.place) h.1) (ap (λ (a : Over). a.shown) h.1)
      (large d n w x e (ap (λ (a : Over). a.refusal) h.1) g (ltb-true 4294967295 (value 0 w) h.0) f refl)

-- a digit is no space
pub digit_begun : (w x : List ℕ) → is_number w ≡ true → Begun (w ++ x)
unfolding is_number
digit_begun [] x e = absurd (false_true e refl)
digit_begun (b ∷ w) x e =
    let h = digit_bounds b (and_both (is_digit b) (digits w) e).0 in
    ne_eqb b 32 (λ q. omega arith)

pub follow_begun : (x : List ℕ) → Follow x → Begun x
follow_begun [] f = tt
follow_begun (b ∷ x) (comma y) = refl
follow_begun (b ∷ x) (close y) = refl

pub shown : {c : Symbol} (t : Derivation c) (d p n : ℕ) (r : List ℕ) → Follow r → (o : Over) → Memᴰ o (over t d p n) → Shown (at start d n) p (word t ++ r) o
unfolding over word run step is_digit
shown empty d p n r f o m = shown_late d p n r o (follow_begun r f) m
shown (number w h) d p n r f o m =
    ⊎_elim
    (λ a. shown_large d p n (w ++ r) o (at start d n) (inl refl) w r h refl a)
    (λ a. shown_late d p n (w ++ r) o (digit_begun w r h) a)
    (Memᴰ.append_cases (too_large w p) m)
shown (range w x h g) d p n r f o m =
    ⊎_elim
    (λ a. shown_large d p n ((w ++ 45 ∷ x) ++ r) o (at start d n) (inl refl) w ((45 ∷ x) ++ r) h (append_assoc w (45 ∷ x) r) a)
    (λ b.
    ⊎_elim
    (λ a. shown_late d p n ((w ++ 45 ∷ x) ++ r) o (subst Begun (sym (append_assoc w (45 ∷ x) r)) (digit_begun w ((45 ∷ x) ++ r) h)) a)
    (λ a.
    shown_behind (at start d n) (at dash d (suc n)) p (suc (p + length w)) (w ++ 45 ∷ []) (x ++ r) ((w ++ 45 ∷ x) ++ r) o
    (run_append (at start d n) w (45 ∷ []) ∙ ap (λ (τ : State). run τ (45 ∷ [])) (run_number d n w h))
    (omega (arith, length-append w (45 ∷ [])))
    (append_assoc w (45 ∷ x) r ∙ sym (append_assoc w (45 ∷ []) (x ++ r)))
    (shown_large d (suc (p + length w)) (suc n) (x ++ r) o (at dash d (suc n)) (inr refl) x r g refl a))
    (Memᴰ.append_cases (too_many n p) b))
    (Memᴰ.append_cases (too_large w p) m)
shown (string ps) d p n r f o m = shown_late d p n (word (string ps) ++ r) o refl m
shown (bracket l) d p n r f o m =
    ⊎_elim
    (λ a. shown_deep d p n (word (bracket l) ++ r) o ((word l ++ 41 ∷ []) ++ r) refl a)
    (λ b.
    ⊎_elim
    (λ a. shown_late d p n (word (bracket l) ++ r) o refl a)
    (λ a.
    shown_behind (at start d n) (at start (suc d) (suc n)) p (suc p) (40 ∷ []) (word l ++ 41 ∷ r) (word (bracket l) ++ r) o refl (omega arith)
    (ap (λ (y : List ℕ). 40 ∷ y) (append_assoc (word l) (41 ∷ []) r))
    (shown l (suc d) (suc p) (suc n) (41 ∷ r) (close r) o a))
    (Memᴰ.append_cases (too_many n p) b))
    (Memᴰ.append_cases (too_deep d p) m)
shown (spaced k t) d p n r f o m =
    shown_behind (at start d n) (at start d n) p (p + k) (replicate k 32) (word t ++ r) ((replicate k 32 ++ word t) ++ r) o
    (run_spaces d n k)
    (ap (λ (a : ℕ). p + a) (sym (length-replicate k 32)))
    (append_assoc (replicate k 32) (word t) r)
    (shown t d (p + k) n r f o m)
shown (one e) d p n r f o m = shown e d p n r f o m
shown (more e l) d p n r f o m =
    ⊎_elim
    (λ a.
    subst (λ (y : List ℕ). Shown (at start d n) p y o) (sym (append_assoc (word e) (44 ∷ word l) r))
    (shown e d p n (44 ∷ (word l ++ r)) (comma (word l ++ r)) o a))
    (λ a.
    shown_behind (at start d n) (at start d (n + length (elements e d p))) p (suc (p + length (word e))) (word e ++ 44 ∷ []) (word l ++ r) ((word e ++ 44 ∷ word l) ++ r) o
    (run_append (at start d n) (word e) (44 ∷ []) ∙ (ends e d p n).comma)
    (omega (arith, length-append (word e) (44 ∷ [])))
    (append_assoc (word e) (44 ∷ word l) r ∙ sym (append_assoc (word e) (44 ∷ []) (word l ++ r)))
    (shown l d (suc (p + length (word e))) (n + length (elements e d p)) r f o a))
    (Memᴰ.append_cases (over e d p n) m)

-- a value only grows with what follows
value_front : (a : ℕ) (w x : List ℕ) → digits w ≡ true → value a w ≤ value a (w ++ x)
unfolding value digits
value_front a [] x e = value_grows a x
value_front a (b ∷ w) x e =
    let h = and_both (is_digit b) (digits w) e in
    rw h.0 (value_front (a * 10 + (b - 48)) w x h.1)

-- bytes that are the same as far as w goes begin with w
pub same_front : (w x y : List ℕ) (j : ℕ) → j ≡ length w → take j x ≡ take j (w ++ y) → x ≡ w ++ drop j x
same_front w x y j e f = sym (take-append-drop j x) ∙ ap (λ (l : List ℕ). l ++ drop j x) (f ∙ ap (λ (n : ℕ). take n (w ++ y)) e ∙ take-append_seam w y)

-- the fault is one, and at most k
abbrev pub UpTo : ℕ → ℕ → Type 0
UpTo k i = (0 < i) × (i ≤ k)

pub deep_fault : (d n : ℕ) (x : List ℕ) → 4 ≤ d → fault_in (at start d n) (40 ∷ x) ≡ 7
unfolding fault_in step is_digit is_dead limit
deep_fault d n x h = rw (le-leb 4 d h)

module _ (d n b : ℕ) (x : List ℕ) (e : is_digit b ≡ true) (h : 4294967295 < value 0 (b ∷ x)) where
  pub large_fault : fault_in (at start d n) (b ∷ x) ≡ 8
  unfolding fault_in step is_dead limit
  large_fault = rw (e, lt-leb (value 0 (b ∷ x)) 4294967295 h)

  pub second_fault : fault_in (at dash d n) (b ∷ x) ≡ 8
  unfolding fault_in step is_dead limit
  second_fault = rw (e, lt-leb (value 0 (b ∷ x)) 4294967295 h)

late_fault : (d n : ℕ) (x : List ℕ) → 256 ≤ n → Begun x → UpTo 9 (fault_in (at start d n) x)
unfolding fault_in limit many
late_fault d n [] h g = ways (UpTo 9) (final (at start d n)) (λ q. rw (le-leb 256 n h) (omega arith, omega arith)) (λ q. (omega arith, omega arith))
late_fault d n (b ∷ x) h g =
    ways (UpTo 9) (is_dead (step (at start d n) b)) (λ q. (omega arith, omega arith))
    (λ q.
    rw (g, le-leb 256 n h)
    (ways (UpTo 9) (is_digit b)
    (λ z. ways (UpTo 9) (leb (value 0 (b ∷ x)) 4294967295) (λ y. (omega arith, omega arith)) (λ y. (omega arith, omega arith)))
    (λ z. ways (UpTo 9) (eqb b 40) (λ y. ways (UpTo 9) (leb 4 d) (λ w. (omega arith, omega arith)) (λ w. (omega arith, omega arith))) (λ y. (omega arith, omega arith)))))

begun_same : (x v : List ℕ) (j : ℕ) → j ≡ 1 → take j x ≡ take j v → Begun v → Begun x
begun_same [] v j e f g = tt
begun_same (b ∷ x) [] j e f g = let z : ◌≡◌ {A = ℕ} 1 0 = ap length (ap (λ (n : ℕ). take n (b ∷ x)) (sym e) ∙ f ∙ ap (λ (n : ℕ). take {A = ℕ} n []) e) in absurd (omega arith)
begun_same (b ∷ x) (c ∷ v) j e f g = ap (λ (l : List ℕ). eqb (get_or l 0 0) 32) (ap (λ (n : ℕ). take n (b ∷ x)) (sym e) ∙ f ∙ ap (λ (n : ℕ). take n (c ∷ v)) e) ∙ g

is_up_to : (k m i : ℕ) → i ≡ m → 0 < m → m ≤ k → UpTo k i
is_up_to k m i e g h = (omega arith, omega arith)

-- a number that is too large is so with anything behind it, and begins with a digit
module _ (w x z : List ℕ) (g : is_number w ≡ true) (h : 4294967295 < value 0 w) (e : x ≡ w ++ z) where
  pub large_there : (σ : State) → ((b : ℕ) (y : List ℕ) → is_digit b ≡ true → 4294967295 < value 0 (b ∷ y) → fault_in σ (b ∷ y) ≡ 8) → fault_in σ x ≡ 8
  large_there σ f =
      let n = is_number_lem w g in
      let parts : x ≡ n.first ∷ (n.others ++ z) = e ∙ ap (λ (l : List ℕ). l ++ z) n.parts in
      let most : 4294967295 < value 0 (n.first ∷ (n.others ++ z)) = subst (λ (l : List ℕ). 4294967295 < value 0 l) (sym e ∙ parts) (omega (arith, h, value_front 0 w z (number_digits w g))) in
      ap (fault_in σ) parts ∙ f n.first (n.others ++ z) n.digit most

-- where a limit shows, the bytes that show it are refused, by its number or a lower one
pub refused_there : (k j : ℕ) (v x : List ℕ) (σ : State) → Shows k v j σ → take j x ≡ take j v → UpTo k (fault_in σ x)
refused_there k j v x σ (deep d n y e f g h i) q =
    is_up_to k 7 (fault_in σ x)
    (ap (λ (τ : State). fault_in τ x) e ∙ ap (fault_in (at start d n)) (same_front (40 ∷ []) x y j i (q ∙ ap (take j) h)) ∙ deep_fault d n (drop j x) g)
    (omega arith)
    (omega arith)
refused_there k j v x σ (large d n w y (inl e) f g h i l) q =
    is_up_to k 8 (fault_in σ x)
    (ap (λ (τ : State). fault_in τ x) e ∙ large_there w x (drop j x) g h (same_front w x y j l (q ∙ ap (take j) i)) (at start d n) (λ b z. large_fault d n b z))
    (omega arith)
    (omega arith)
refused_there k j v x σ (large d n w y (inr e) f g h i l) q =
    is_up_to k 8 (fault_in σ x)
    (ap (λ (τ : State). fault_in τ x) e ∙ large_there w x (drop j x) g h (same_front w x y j l (q ∙ ap (take j) i)) (at dash d n) (λ b z. second_fault d n b z))
    (omega arith)
    (omega arith)
refused_there k j v x σ (late d n e f g h i) q =
    let u : UpTo 9 (fault_in σ x) = subst (λ (τ : State). UpTo 9 (fault_in τ x)) (sym e) (late_fault d n x g (begun_same x v j i q h)) in
    (u.0, omega (arith, u.1, f))
