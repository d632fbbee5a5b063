-- The verdict is the grammar's: no list goes on where the reading says 6, and no limit is passed before it stops.
use Rattle.std.specs.Prelude.{◌≡◌, refl, ◌⊎◌, Bool, true, false, ℕ, suc, ◌+◌, ◌≤◌, ◌<◌, length, take, drop, eqb, leb, if◌then◌else◌}
use Rattle.std.proofs.Common.{sym, ◌∙◌, subst, inl, inr, ⊎_elim, arith, length-append, take-append-drop, length-take-le, take_all, take-take}
use Rattle.std.proofs.Math.Path.{ap}
use mathlib.Core.List.{List, [], ◌∷◌, ◌++◌, Memᴰ, append_assoc, append-nil}
use Rattle.std.proofs.Math.Seq.{take-append_seam, take-append-add, drop-append_seam}
use Rattle.outcome.specs.Laws.{ways}
use Rattle.text.specs.Logic.{false_true, order}
use Rattle.parser.specs.Parser.{is_digit, value}
use Rattle.lists.specs.Grammar.{Derivation, list, word, Over, over, Begins}
use Rattle.lists.specs.Scan.{State, at, dead, start, low, dash, high, done, text, step, run, is_dead, final, many, limit, fault_in, stop, scan}
use Rattle.lists.specs.Places.{run_append, run_dead, stopped, Comes, there, before, comes, scan_stops}
use Rattle.lists.specs.Ends.{ends, alive}
use Rattle.lists.specs.Shows.{nothing, Shown, shown, UpTo, same_front, refused_there}

-- a limit is another refusal
abbrev Other : ℕ → Type 0
Other i = i ≡ 6 → ⊥

many_other : (n : ℕ) → Other (many n)
unfolding many
many_other n = ways Other (leb 256 n) (λ h e. omega arith) (λ h e. omega arith)

limit_other : (σ : State) (x : List ℕ) → Other (limit σ x)
unfolding limit
limit_other (at start d n) [] = many_other n
limit_other (at start d n) (b ∷ x) =
    ways Other (is_digit b)
    (λ f. ways Other (leb (value 0 (b ∷ x)) 4294967295) (λ g. many_other n) (λ g e. omega arith))
    (λ f.
    ways Other (eqb b 32) (λ g e. omega arith)
    (λ g. ways Other (eqb b 40) (λ k. ways Other (leb 4 d) (λ h e. omega arith) (λ h. many_other n)) (λ k. many_other n)))
limit_other (at low d n) x = λ e. omega arith
limit_other (at dash d n) x = ways Other (leb (value 0 x) 4294967295) (λ h e. omega arith) (λ h e. omega arith)
limit_other (at high d n) x = λ e. omega arith
limit_other (at done d n) x = λ e. omega arith
limit_other (at (text k) d n) x = λ e. omega arith
limit_other dead x = λ e. omega arith

is_dead_lem : (σ : State) → is_dead σ ≡ true → σ ≡ dead
unfolding is_dead
is_dead_lem (at m d n) e = absurd (false_true e refl)
is_dead_lem dead e = refl

-- malformed at a byte: no word goes on with it; at the end: it is no word
six_byte : (σ : State) (b : ℕ) (x : List ℕ) → fault_in σ (b ∷ x) ≡ 6 → step σ b ≡ dead
unfolding fault_in
six_byte σ b x = go (is_dead (step σ b)) refl
  where
    go : (c : Bool) → is_dead (step σ b) ≡ c → (if c then 6 else limit σ (b ∷ x)) ≡ 6 → step σ b ≡ dead
    go true e f = is_dead_lem (step σ b) e
    go false e f = absurd (limit_other σ (b ∷ x) f)

six_end : (σ : State) → fault_in σ [] ≡ 6 → final σ ≡ false
unfolding fault_in
six_end σ = go (final σ)
  where
    go : (c : Bool) → (if c then limit σ [] else 6) ≡ 6 → c ≡ false
    go true f = absurd (limit_other σ [] f)
    go false f = refl

abbrev fresh : State
fresh = at start 0 0

module _ (t : Derivation list) (u : List ℕ) where
  -- the word is read alive, and to a state in which a list may end
  word_lives : (b : ℕ) (z : List ℕ) → word t ≡ (u ++ b ∷ []) ++ z → step (run fresh u) b ≡ dead → ⊥
  unfolding run is_dead
  word_lives b z e f =
      false_true
      (ap is_dead (ap (run fresh) e ∙ run_append fresh (u ++ b ∷ []) z ∙ ap (λ (σ : State). run σ z) (run_append fresh u (b ∷ []) ∙ f) ∙ run_dead z))
      (alive 0 _ (run fresh (word t)) (ends t 0 0 0))

  word_ends : word t ≡ u → final (run fresh u) ≡ true
  word_ends e = ap (λ (x : List ℕ). final (run fresh x)) (sym e) ∙ (ends t 0 0 0).end

-- no more bytes than u, as far as one more byte goes
no_longer : (w u : List ℕ) → take (suc (length u)) w ≡ u → w ≡ u
no_longer w u e =
    ⊎_elim
    (λ (h : length u < length w). absurd (omega (arith, ap length e, length-take-le (suc (length u)) w (omega arith))))
    (λ (h : length w ≤ length u). sym (take_all (suc (length u)) w (omega arith)) ∙ e)
    (order (length u) (length w))

pub none_goes_on : (s : List ℕ) (q : ℕ) → scan fresh 0 s ≡ stop 6 q → Begins s (suc q) → ⊥
none_goes_on s q e g = let w = stopped s fresh 0 6 q e in from w.before w.behind w.parts w.place w.fault
  where
    t : Derivation list
    t = g.tree

    same : (u : List ℕ) → q ≡ 0 + length u → take (suc (length u)) (word t) ≡ take (suc (length u)) s
    same u h = let n : q ≡ length u = omega arith in subst (λ (n : ℕ). take (suc n) (word t) ≡ take (suc n) s) n g.same

    from : (u v : List ℕ) → s ≡ u ++ v → q ≡ 0 + length u → fault_in (run fresh u) v ≡ 6 → ⊥
    from u [] p h f =
        let whole : s ≡ u = p ∙ append-nil u in
        let w : word t ≡ u = no_longer (word t) u (same u h ∙ ap (take (suc (length u))) whole ∙ take_all (suc (length u)) u (omega arith)) in
        false_true (word_ends t u w) (six_end (run fresh u) f)
    from u (b ∷ v) p h f =
        word_lives t u b (drop (suc (length u)) (word t))
        (same_front (u ++ b ∷ []) (word t) v (suc (length u)) (omega (arith, length-append u (b ∷ []))) (same u h ∙ ap (take (suc (length u))) (p ∙ sym (append_assoc u (b ∷ []) v))))
        (six_byte (run fresh u) b v f)

-- the verdict s is given, at the place q by the number k or before
pub record Earlier (s : List ℕ) (k q : ℕ) : Type 0 where
  pub number : ℕ
  pub place : ℕ
  pub told : scan fresh 0 s ≡ stop number place
  pub early : (place < q) ⊎ ((place ≡ q) × (number ≤ k))

-- two that are the same as far as u and j more bytes: what follows u in both is the same as far as j bytes
module _ (u v s : List ℕ) (j : ℕ) (e : take (length u + j) (u ++ v) ≡ take (length u + j) s) where
  begins_too : s ≡ u ++ drop (length u) s
  begins_too =
      sym (take-append-drop (length u) s)
      ∙ ap (λ (l : List ℕ). l ++ drop (length u) s)
      (sym (take-take (length u) (length u + j) s (omega arith)) ∙ ap (take (length u)) (sym e) ∙ take-take (length u) (length u + j) (u ++ v) (omega arith) ∙ take-append_seam u v)

  same_behind : take j (drop (length u) s) ≡ take j v
  same_behind =
      let x = drop (length u) s in
      sym (drop-append_seam u (take j x))
      ∙ ap (drop (length u)) (sym (take-append-add u x j) ∙ ap (take (length u + j)) (sym begins_too) ∙ sym e ∙ take-append-add u v j)
      ∙ drop-append_seam u (take j v)

-- a limit that a list passes, as far as s shows it too
pub passes : (s : List ℕ) (t : Derivation list) (o : Over) → Memᴰ o (over t 0 0 0) → take o.shown (word t) ≡ take o.shown s → Earlier s o.refusal o.place
passes s t o m e = go (shown t 0 0 0 [] nothing o m)
  where
    go : Shown fresh 0 (word t ++ []) o → Earlier s o.refusal o.place
    go h =
        let u = h.before in
        let n : o.shown ≡ length u + h.seen = omega (arith, h.end, h.place) in
        let f : take (length u + h.seen) (u ++ h.behind) ≡ take (length u + h.seen) s = subst (λ (n : ℕ). take n (u ++ h.behind) ≡ take n s) n (ap (take o.shown) (sym h.parts ∙ append-nil (word t)) ∙ e) in
        let x = drop (length u) s in
        let r = refused_there o.refusal h.seen h.behind x (run fresh u) h.shows (same_behind u h.behind s h.seen f) in
        came h x (begins_too u h.behind s h.seen f) r (comes u x fresh 0)
      where
        came : (h : Shown fresh 0 (word t ++ []) o) (x : List ℕ) → s ≡ h.before ++ x → UpTo o.refusal (fault_in (run fresh h.before) x) → Comes fresh 0 h.before x → Earlier s o.refusal o.place
        came h x b r (there q) = record { number = fault_in (run fresh h.before) x; place = 0 + length h.before; told = ap (scan fresh 0) b ∙ q ∙ scan_stops (run fresh h.before) (0 + length h.before) x r.0; early = inr (omega (arith, h.place), r.1) }
        came h x b r (before k p l q) = record { number = k; place = p; told = ap (scan fresh 0) b ∙ q; early = inl (omega (arith, l, h.place)) }
