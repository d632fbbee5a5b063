-- Genuine findings, those of the very bytes held, make a call with findings the ingress's own call; and what it leaves them is genuine again, refused by 5 or not.
use Rattle.std.specs.Prelude.{◌≡◌, Bool, drop, eqb, if◌then◌else◌}
use Rattle.std.proofs.Math.Path.{refl, sym, ap}
use Rattle.std.proofs.Common.{◌∙◌, ⊎_elim, length-append, length-take-le, eq-eqb, eqb-true, le-leb, leb-true, leb-false, ltb-false}
use Rattle.std.proofs.Math.Bool.{true, false}
use mathlib.Core.List.{List, [], ◌∷◌, ◌++◌, map}
use Prim.Native.Nat.{ℕ, ◌+◌, ◌-◌, ◌≤◌, ◌<◌, min}
use native.Mathlib.Omega.{arith}
use Rattle.std.proofs.Math.ListN.{length, length-drop}
use Rattle.std.proofs.Math.Seq.{take-length}
use Rattle.std.proofs.Math.Dec.{leb, ltb}
use Rattle.text.specs.Logic.{order, false_true, not_true_false}
use Rattle.outcome.specs.Outcome.{Outcome, answered, refused}
use Rattle.outcome.specs.Laws.{ways}
use Rattle.answers.specs.declared.Answer.{Answer}
use Rattle.answers.specs.Answer.{is_notice, nothing}
use Rattle.findings.specs.declared.Findings.{Findings}
use Rattle.findings.specs.Findings.{findings_in, numbers_of, findings_of, extended}
use Rattle.findings.proofs.Laws.{extended_findings, numbers_back}
use Rattle.selector.specs.Selector.{Choice}
use Rattle.turn.specs.Turn.{is_refused, World, held, says, delivering, went, once}
use Rattle.turn.specs.Says.{held_long, says_answers, says_within}
use Rattle.turn.specs.Laws.{once_goes}
use Rattle.turn.specs.Kept.{Good, idle_next, waits_full}
use Rattle.ingress.specs.Ingress.{After, done, refused_at, run, judged, unless_refused, committed, advanced, Writing, wrote, stopped, copied, after_copy, write_once, then_write, write_on, answering, written}
use Rattle.ingress.specs.Laws.{passed, passes, run_empty, run_still, copy_none, write_step, write_refused}
use Rattle.ingress.specs.Story.{Stretch, consumed, came_by, went_by, flat, Story, Arrives, committed_bytes}
use Rattle.ingress.specs.Kept.{story_bytes, run_ends}
use Rattle.ingress.specs.Conserved.{flat_turns, commit_good, commit_arrives, copy_good, copy_arrives}
use Rattle.feed.specs.Feed.{Fed, fed, fitting, judged_with, unless, renewed, turning, settled, advanced_with, afresh, took, write_in, written_with}

-- the numbers m are the findings of the bytes held
abbrev pub Genuine : List ℕ → World → Type 0
Genuine m w = m ≡ numbers_of (findings_of (held w))

-- what q tells of genuine findings is so
abbrev pub Right : Choice → (Findings → List ℕ → Bool) → Type 0
Right c q = (n : ℕ) → c.rules ≡ answered n → (s : List ℕ) → length s ≤ 4096 → q (findings_of s) s ≡ true → c.answers s ≡ nothing 0

-- a result, with the findings of what it leaves held
abbrev pub found : {A : Type 0} → After A → Fed A
found r = fed r (numbers_of (findings_of (held r.left)))

-- bytes that arrive carry genuine findings on to genuine ones
known_on : (m : List ℕ) (w v : World) (b : List ℕ) → Genuine m w → Arrives w b v → extended (findings_in m) (held v) ≡ findings_of (held v)
known_on m w v b g a =
    ap (λ (n : List ℕ). extended (findings_in n) (held v)) g
    ∙ ap (λ (f : Findings). extended f (held v)) (numbers_back (held w))
    ∙ ap (extended (findings_of (held w))) a.behind
    ∙ extended_findings (held w) b
    ∙ ap findings_of (sym a.behind)

module _ (c : Choice) (q : Findings → List ℕ → Bool) (right : Right c q) (w : World) (g : Good c w) where
  long : length (held w) ≡ w.state.end
  long = omega (arith, held_long w, g.inside)

  -- where nothing would be found and consumed, turns change nothing
  module _ (z : c.answers (held w) ≡ nothing 0) where
    says_none : says c w ≡ nothing 0
    says_none = says_answers c w ∙ z

    goes : (delivering c w).waits ≡ false
    goes = not_true_false (delivering c w).waits (λ r. false_true (waits_full c w g r).0 (ap (λ (a : Answer). is_notice a.kind) says_none))

    turn_none : went w 0 ≡ once c w
    turn_none =
        let e = ap (λ (a : Answer). a.consumed) says_none in
        (λ i. went (sym (idle_next c w g e) i) (sym e i)) ∙ once_goes c w goes

    run_none : done tt w ≡ run c w
    run_none = ⊎_elim (λ (h : 0 < w.state.end). run_still c w h w 0 turn_none refl) (λ (h : w.state.end ≤ 0). run_empty c w h) (order 0 w.state.end)

  -- turns that leave the same end leave the same bytes held
  same_held : (run c w).left.state.end ≡ w.state.end → held (run c w).left ≡ held w
  unfolding flat
  same_held e = go (run_ends c w g).turns (run_ends c w g).story
    where
      v : World
      v = (run c w).left

      v_long : length (held v) ≡ v.state.end
      v_long = omega (arith, held_long v, (run_ends c w g).good.inside)

      go : (l : List Stretch) → Story c w (map consumed l) v → held v ≡ held w
      go [] s = sym (ap held s)
      go (x ∷ l) s =
          let b = story_bytes c (map consumed (x ∷ l)) w v s in
          let n = length-append (held w) (flat came_by (map consumed (x ∷ l))) in
          let k = ap length b in
          let o = length-append (x.bytes ++ flat went_by (map consumed l)) (held v) in
          let p = length-append x.bytes (flat went_by (map consumed l)) in
          let f = s.first in
          let y = ap length f.front ∙ length-take-le x.answer.consumed (held w) (omega (arith, ap (λ (a : Answer). a.consumed) f.said, says_within c w)) in
          absurd (omega (arith, n, k, o, p, y, f.some, v_long, long, ap length (flat_turns came_by (λ t. refl) (x ∷ l))))

  settled_found : (m : List ℕ) → extended (findings_in m) (held w) ≡ findings_of (held w) → settled c q m w ≡ found (run c w)
  unfolding settled renewed
  settled_found m e = go (q (extended (findings_in m) (held w)) (held w)) refl
    where
      f : Findings
      f = extended (findings_in m) (held w)

      go : (b : Bool) → q f (held w) ≡ b → (if b then fed (done tt w) (numbers_of f) else turning f w (run c w)) ≡ found (run c w)
      go true h =
          ap (λ (y : Findings). fed (done tt w) (numbers_of y)) e
          ∙ ap found (run_none (right g.records g.ruled (held w) (omega (arith, long, g.inside, g.long)) (ap (λ (y : Findings). q y (held w)) (sym e) ∙ h)))
      go false h =
          ap (fed (run c w)) (ways (λ (y : Findings). numbers_of y ≡ numbers_of (findings_of (held (run c w).left))) (eqb (run c w).left.state.end w.state.end)
          (λ d. ap numbers_of (e ∙ ap findings_of (sym (same_held (eqb-true (run c w).left.state.end w.state.end d)))))
          (λ d. refl))

-- a piece that fits is written by one copy, and an empty one by none
module _ (c : Choice) (p : List ℕ) where
  write_done : (w : World) (n : ℕ) → length p ≤ n → wrote n w ≡ write_on c p n w
  unfolding then_write
  write_done w n h = ap (λ (x : Writing). then_write x n (write_on c p)) (copy_none c (drop n p) w (omega (arith, length-drop n p))) ∙ sym (write_step c p n w)

  pub write_none : (w : World) → length p ≡ 0 → wrote 0 w ≡ write_on c p 0 w
  write_none w e = write_done w 0 (omega arith)

  module _ (w : World) (h : length p ≤ length w.buf - w.state.end) (l : 1 ≤ length p) where
    one_copy : after_copy (run c (copied w p)) (length p) ≡ write_once c p w
    unfolding write_once
    one_copy =
        let e : min (length p) (length w.buf - w.state.end) ≡ length p = omega arith in
        rw e (rw (le-leb 1 (length p) l) (ap (λ (x : List ℕ). after_copy (run c (copied w x)) (length p)) (sym (take-length p))))

    pub write_whole : after_copy (run c (copied w p)) (length p) ≡ write_on c p 0 w
    unfolding then_write
    write_whole = go (is_refused (run c (copied w p)).said) refl ∙ ap (λ (x : Writing). then_write x 0 (write_on c p)) one_copy ∙ sym (write_step c p 0 w)
      where
        r : After (Unit {0})
        r = run c (copied w p)

        go : (b : Bool) → is_refused r.said ≡ b → (if b then stopped (length p) r.left else wrote (length p) r.left) ≡ then_write (if b then stopped (length p) r.left else wrote (length p) r.left) 0 (write_on c p)
        go true e = let i : length p ≡ 0 + length p = omega arith in ap (λ (n : ℕ). stopped n r.left) i
        go false e = let i : length p ≡ 0 + length p = omega arith in write_done r.left (length p) (omega arith) ∙ ap (λ (n : ℕ). write_on c p n r.left) i ∙ sym (rw (le-leb 1 (length p) l))

after_left : (r : After (Unit {0})) (n : ℕ) → (answering (after_copy r n)).left ≡ r.left
after_left r n = ways (λ (x : Writing). (answering x).left ≡ r.left) (is_refused r.said) (λ e. refl) (λ e. refl)

-- the calls
module _ (c : Choice) (q : Findings → List ℕ → Bool) (right : Right c q) (m : List ℕ) (w : World) (g : Genuine m w) where
  seen_is : (findings_in m).seen ≡ length (held w)
  seen_is = unfold findings_of in ap (λ (n : List ℕ). (findings_in n).seen) g

  -- genuine findings are refused by nothing else
  same_judged : judged_with c m w ≡ judged c w
  unfolding fitting
  same_judged = go (judged c w) refl
    where
      go : (o : Outcome (Unit {0})) → judged c w ≡ o → fitting o (eqb (findings_in m).seen w.state.end) ≡ o
      go (answered x) e = rw (eq-eqb (findings_in m).seen w.state.end (omega (arith, seen_is, held_long w, (passed c w (sym e)).inside)))
      go (refused k v) e = refl

  unless_found : {A : Type 0} (o : Outcome (Unit {0})) (r : Fed A) (x : After A) → (answered tt ≡ o → r ≡ found x) → unless o m w r ≡ found (unless_refused o w x)
  unfolding unless unless_refused
  unless_found (answered y) r x h = h refl
  unless_found (refused k v) r x h = ap (fed (refused_at k v w)) g

  module _ (d : Good c w) where
    room_found : (n : ℕ) (b : Bool) → ltb (length w.buf - w.state.end) n ≡ b → (if b then fed (refused_at 4 [] w) m else settled c q m (committed w n)) ≡ found (if b then refused_at 4 [] w else run c (committed w n))
    room_found n true h = ap (fed (refused_at 4 [] w)) g
    room_found n false h =
        settled_found c q right (committed w n) (commit_good c w d n (ltb-false (length w.buf - w.state.end) n h)) m
        (known_on m w (committed w n) (committed_bytes w n) g (commit_arrives c w d n))

    -- a piece that fits is one copy
    module _ (p : List ℕ) (h : length p ≤ length w.buf - w.state.end) where
      copy_found : settled c q m (copied w p) ≡ found (run c (copied w p))
      copy_found = settled_found c q right (copied w p) (copy_good c w d p h) m (known_on m w (copied w p) p g (copy_arrives c w d p h))

      piece_found : (b : Bool) → leb 1 (length p) ≡ b → (if b then took (length p) (settled c q m (copied w p)) else fed (done 0 w) m) ≡ found (answering (write_on c p 0 w))
      piece_found true e =
          let r = run c (copied w p) in
          let o = write_whole c p w h (leb-true 1 (length p) e) in
          ap (took (length p)) copy_found
          ∙ ap (λ (v : World). fed (answering (after_copy r (length p))) (numbers_of (findings_of (held v)))) (sym (after_left r (length p)))
          ∙ ap (λ (x : Writing). found (answering x)) o
      piece_found false e = ap (fed (done 0 w)) g ∙ ap (λ (x : Writing). found (answering x)) (write_none c p w (omega (arith, leb-false 1 (length p) e)))

    in_found : (p : List ℕ) (b : Bool) → ltb (length w.buf - w.state.end) (length p) ≡ b → (if b then afresh (written c p w) else if leb 1 (length p) then took (length p) (settled c q m (copied w p)) else fed (done 0 w) m) ≡ found (written c p w)
    unfolding afresh
    in_found p true h = refl
    in_found p false h = piece_found p (ltb-false (length w.buf - w.state.end) (length p) h) (leb 1 (length p)) refl ∙ ap found (unfold written unless_refused in rw (sym (passes c w d)))

  -- With genuine findings an advance is the ingress's, and leaves those of what it leaves,
  pub advanced_genuine : (n : ℕ) → advanced_with c q n m w ≡ found (advanced c n w)
  unfolding advanced_with advanced
  advanced_genuine n =
      ap (λ (o : Outcome (Unit {0})). unless o m w (if ltb (length w.buf - w.state.end) n then fed (refused_at 4 [] w) m else settled c q m (committed w n))) same_judged
      ∙ unless_found (judged c w) _ _ (λ e. room_found (passed c w e) n (ltb (length w.buf - w.state.end) n) refl)

  -- and so is a write.
  pub written_genuine : (p : List ℕ) → written_with c q p m w ≡ found (written c p w)
  unfolding written_with write_in
  written_genuine p =
      ap (λ (o : Outcome (Unit {0})). unless o m w (if ltb (length w.buf - w.state.end) (length p) then afresh (written c p w) else if leb 1 (length p) then took (length p) (settled c q m (copied w p)) else fed (done 0 w) m)) same_judged
      ∙ go (judged c w) refl
    where
      go : (o : Outcome (Unit {0})) → judged c w ≡ o → unless o m w (if ltb (length w.buf - w.state.end) (length p) then afresh (written c p w) else if leb 1 (length p) then took (length p) (settled c q m (copied w p)) else fed (done 0 w) m) ≡ found (written c p w)
      go (answered x) e = unfold unless in in_found (passed c w (sym e)) p (ltb (length w.buf - w.state.end) (length p)) refl
      go (refused k v) e = unfold unless in ap (fed (refused_at k v w)) g ∙ ap found (write_refused c p w k v (sym e))
