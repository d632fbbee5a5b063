-- What the beginnings say of the bytes so far: these end in the state's, and in no longer one that is open; so a text is finished exactly
-- where the state lacks its last byte and that byte comes. Tests over the eleven texts and all states are computed.
use Rattle.std.specs.Prelude.{Some, None, ◌≡◌, refl, Bool, true, false, ◌&&◌, ◌||◌, ℕ, ◌+◌, ◌-◌, ◌<◌, ◌≤◌, length, leb, if◌then◌else◌}
use Rattle.std.proofs.Common.{sym, ap, ap₂, ◌∙◌, arith, length-append}
use Rattle.std.proofs.Math.Logic.{⊎_elim}
use Rattle.std.proofs.Math.Bool.{not}
use mathlib.Core.List.{List, [], ◌∷◌, ◌++◌, append_assoc}
use Rattle.std.proofs.Math.Dec.{eqb}
use borrow.Author.Tests.{eqb-true, eq-eqb, le-leb, leb-true}
use Rattle.text.specs.Logic.{false_true, not_true_false, and_both}
use Rattle.scan.specs.Words.{opens, is_open, longest_of, longest, texts, text_of, words, word}
use Rattle.scan.specs.Table.{last_of, finished}
use Rattle.scan.specs.Every.{or_both, or_right, every, at, same, same_is, same_self}

-- a beginning of what is open, is open
opens_front : (w u t : List ℕ) → opens (w ++ u) t ≡ true → opens w t ≡ true
unfolding opens
opens_front w u [] e = absurd (false_true (sym (nil_none (w ++ u)) ∙ e) refl)
  where
    nil_none : (v : List ℕ) → opens v [] ≡ false
    nil_none [] = refl
    nil_none (x ∷ v) = refl
opens_front [] u (y ∷ t) e = refl
opens_front (x ∷ w) u (y ∷ t) e =
    let z = and_both (eqb x y) (opens (w ++ u) t) e in
    rw (z.0, opens_front w u t z.1)

open_front : (ts : List (List ℕ)) (w u : List ℕ) → is_open ts (w ++ u) ≡ true → is_open ts w ≡ true
unfolding is_open
open_front [] w u e = e
open_front (t ∷ ts) w u e =
    ⊎_elim
    (λ (q : opens (w ++ u) t ≡ true). rw (opens_front w u t q))
    (λ (q : is_open ts (w ++ u) ≡ true). or_right (opens w t) (is_open ts w) (open_front ts w u q))
    (or_both (opens (w ++ u) t) (is_open ts (w ++ u)) e)

-- so the state is all that the next byte needs to know of the bytes so far
pub longest_step : (w : List ℕ) (b : ℕ) → longest (w ++ (b ∷ [])) ≡ longest (longest w ++ (b ∷ []))
unfolding longest_of
longest_step [] b = refl
longest_step (x ∷ w) b = go (is_open texts (x ∷ w)) refl (longest_step w b)
  where
    go : (c : Bool) → is_open texts (x ∷ w) ≡ c → longest (w ++ (b ∷ [])) ≡ longest (longest w ++ (b ∷ [])) → longest ((x ∷ w) ++ (b ∷ [])) ≡ longest ((if c then x ∷ w else longest w) ++ (b ∷ []))
    go true e r = refl
    go false e r =
        let shut = not_true_false (is_open texts ((x ∷ w) ++ (b ∷ []))) (λ q. false_true (open_front texts (x ∷ w) (b ∷ []) q) e) in
        rw shut r

-- the bytes end in it
pub record EndsIn (w v : List ℕ) : Type 0 where
  pub front : List ℕ
  pub is : w ≡ front ++ v

longest_end : (w : List ℕ) → EndsIn w (longest w)
unfolding longest_of
longest_end [] = record { front = []; is = refl }
longest_end (x ∷ w) = go (is_open texts (x ∷ w)) (longest_end w)
  where
    go : (c : Bool) → EndsIn w (longest w) → EndsIn (x ∷ w) (if c then x ∷ w else longest w)
    go true r = record { front = []; is = refl }
    go false r = record { front = x ∷ r.front; is = ap (λ (l : List ℕ). x ∷ l) r.is }

-- and it has every end that is open
longest_has : (u v : List ℕ) → is_open texts v ≡ true → EndsIn (longest (u ++ v)) v
unfolding longest_of
longest_has [] [] e = record { front = []; is = refl }
longest_has [] (x ∷ v) e = record { front = []; is = ap (λ (c : Bool). if c then x ∷ v else longest v) e }
longest_has (x ∷ u) v e = go (is_open texts (x ∷ (u ++ v))) (longest_has u v e)
  where
    go : (c : Bool) → EndsIn (longest (u ++ v)) v → EndsIn (if c then x ∷ (u ++ v) else longest (u ++ v)) v
    go true r = record { front = x ∷ u; is = refl }
    go false r = r

-- does w end in t?
unfoldable ends : List ℕ → List ℕ → Bool
ends t [] = same t []
ends t (x ∷ w) = let r = ends t w in same t (x ∷ w) || r

ends_is : (u t : List ℕ) → ends t (u ++ t) ≡ true
unfolding ends
ends_is [] [] = same_self []
ends_is [] (x ∷ t) = rw (same_self (x ∷ t))
ends_is (x ∷ u) t = or_right (same t (x ∷ (u ++ t))) (ends t (u ++ t)) (ends_is u t)

-- the last eleven states: each with its last byte is a text, is open, and is an end of no other state's
unfoldable lacks : ℕ → List ℕ → Bool
lacks k t =
    let r = is_open texts (word (87 + k)) in
    same (word (87 + k) ++ (last_of k ∷ [])) t && r

all_lack : every lacks 0 texts ≡ true
unfolding every lacks same is_open opens last_of words texts
all_lack = refl

unfoldable alone : List ℕ → ℕ → ℕ → List ℕ → Bool
alone t k q w = let r = not (ends t w) in eqb q (87 + k) || r

unfoldable all_alone : ℕ → List ℕ → Bool
all_alone k t = every (alone (word (87 + k)) k) 0 words

all_alone_lem : every all_alone 0 texts ≡ true
unfolding every all_alone alone ends same words texts
all_alone_lem = refl

module _ (k : ℕ) (h : k < 11) where
  below_texts : k < length texts
  below_texts = unfold texts in h

  lack : (word (87 + k) ++ (last_of k ∷ []) ≡ text_of k) × (is_open texts (word (87 + k)) ≡ true)
  unfolding lacks
  lack =
      let t = word (87 + k) ++ (last_of k ∷ []) in
      let w = and_both (same t (text_of k)) (is_open texts (word (87 + k))) (at lacks [] texts all_lack k below_texts) in
      (same_is t (text_of k) w.0, w.1)

  lack_alone : (q : ℕ) → q < 98 → ends (word (87 + k)) (word q) ≡ true → q ≡ 87 + k
  unfolding all_alone alone
  lack_alone q g e =
      let t = word (87 + k) in
      let a = at (alone t k) [] words (at all_alone [] texts all_alone_lem k below_texts) q (unfold words in g) in
      ⊎_elim
      (λ (p : eqb q (87 + k) ≡ true). eqb-true q (87 + k) p)
      (λ (p : not (ends t (word q)) ≡ true). absurd (false_true (sym (ap not e) ∙ p) refl))
      (or_both (eqb q (87 + k)) (not (ends t (word q))) a)

  -- no text is empty
  pub text_some : 0 < length (text_of k)
  text_some = omega (arith, ap length lack.0, length-append (word (87 + k)) (last_of k ∷ []))

tail_is : (x y : ℕ) (u v : List ℕ) → ◌≡◌ {A = List ℕ} (x ∷ u) (y ∷ v) → (x ≡ y) × (u ≡ v)
tail_is x y u v e = ((cc), (cc))

last_is : (u v : List ℕ) (a b : ℕ) → u ++ (a ∷ []) ≡ v ++ (b ∷ []) → (u ≡ v) × (a ≡ b)
last_is [] [] a b e = (refl, (tail_is a b [] [] e).0)
last_is [] (y ∷ v) a b e = absurd (omega (arith, ap length e, length-append v (b ∷ [])))
last_is (x ∷ u) [] a b e = absurd (omega (arith, ap length e, length-append u (a ∷ [])))
last_is (x ∷ u) (y ∷ v) a b e =
    let w = tail_is x y (u ++ (a ∷ [])) (v ++ (b ∷ [])) e in
    let r = last_is u v a b w.1 in
    (ap₂ (λ (c : ℕ) (l : List ℕ). c ∷ l) w.0 r.0, r.1)

-- what a finished text says of the state and the byte
finishing : (q b k : ℕ) → finished q b ≡ Some k → (q ≡ 87 + k) × (b ≡ last_of k)
unfolding finished
finishing q b k e = go (leb 87 q && eqb b (last_of (q - 87))) refl e
  where
    go : (c : Bool) → leb 87 q && eqb b (last_of (q - 87)) ≡ c → (if c then Some (q - 87) else None) ≡ Some k → (q ≡ 87 + k) × (b ≡ last_of k)
    go true p g =
        let w = and_both (leb 87 q) (eqb b (last_of (q - 87))) p in
        let l : 87 ≤ q = leb-true 87 q w.0 in
        let m : q - 87 ≡ k = cc in
        (omega arith, eqb-true b (last_of (q - 87)) w.1 ∙ ap last_of m)
    go false p g = absurd (cc)

finished_is : (k : ℕ) → finished (87 + k) (last_of k) ≡ Some k
unfolding finished
finished_is k =
    let n : 87 + k - 87 ≡ k = omega arith in
    rw (n, le-leb 87 (87 + k) (omega arith), eq-eqb (last_of k) (last_of k) refl)

module _ (w : List ℕ) (q b : ℕ) (h : q < 98) (e : word q ≡ longest w) (k : ℕ) (g : k < 11) where
  -- the text of that number ends here
  pub finish_here : finished q b ≡ Some k → EndsIn (w ++ (b ∷ [])) (text_of k)
  finish_here f =
      let s = finishing q b k f in
      let r = longest_end w in
      let z : longest w ≡ word (87 + k) = sym e ∙ ap word s.0 in
      record {
        front = r.front;
        is =
            ap (λ (l : List ℕ). l ++ (b ∷ [])) (r.is ∙ ap (λ (l : List ℕ). r.front ++ l) z)
            ∙ append_assoc r.front (word (87 + k)) (b ∷ [])
            ∙ ap (λ (c : ℕ). r.front ++ (word (87 + k) ++ (c ∷ []))) s.1
            ∙ ap (λ (l : List ℕ). r.front ++ l) (lack k g).0;
      }

  -- and no other
  pub finish_only : EndsIn (w ++ (b ∷ [])) (text_of k) → finished q b ≡ Some k
  finish_only r =
      let v = word (87 + k) in
      let i : w ++ (b ∷ []) ≡ (r.front ++ v) ++ (last_of k ∷ []) = r.is ∙ ap (λ (l : List ℕ). r.front ++ l) (sym (lack k g).0) ∙ sym (append_assoc r.front v (last_of k ∷ [])) in
      let z = last_is w (r.front ++ v) b (last_of k) i in
      let y = longest_has r.front v (lack k g).1 in
      let x : word q ≡ y.front ++ v = e ∙ ap (λ (l : List ℕ). longest l) z.0 ∙ y.is in
      let s : q ≡ 87 + k = lack_alone k g q h (ap (ends v) x ∙ ends_is y.front v) in
      ap₂ finished s z.1 ∙ finished_is k
