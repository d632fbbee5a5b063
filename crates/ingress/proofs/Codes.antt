-- In V0 (R-1) an advance that isn't refused leaves no code of all that was there, by the line starts of the whole: what each turn leaves begins at one of them.
use mathlib.Core.Path.{◌≡◌, refl, sym, ap, ◌∙◌}
use mathlib.Core.Bool.{Bool, true, false}
use mathlib.Core.List.{List, [], ◌∷◌, ◌++◌, append-nil, map}
use Prim.Native.Nat.{ℕ, ◌+◌, ◌-◌, ◌≤◌}
use native.Mathlib.Omega.{arith}
use lib.ListN.{length, drop, length-append}
use lib.Seq.{length-take-le, drop_at}
use lib.Dec.{ltb}
use borrow.Author.Tests.{ltb-false}
use Rattle.std.specs.Prelude.{if◌then◌else◌}
use Rattle.outcome.specs.Outcome.{Outcome, answered, refused}
use Rattle.outcome.specs.Laws.{ways}
use Rattle.text.specs.Logic.{false_true}
use Rattle.answers.specs.declared.Answer.{Answer}
use Rattle.answers.specs.Answer.{is_found}
use Rattle.numeric.specs.Numeric.{code_at}
use Rattle.numeric.specs.Heard.{NoCode, Heard}
use Rattle.numeric.specs.Calls.{unchecked_heard}
use Rattle.numeric.specs.Rest.{rest_codes}
use Rattle.selector.specs.Selector.{Choice, choice}
use Rattle.selector.specs.declared.Selector.TheVariants.{Numeric}
use Rattle.turn.specs.Turn.{is_refused, World, held, says}
use Rattle.turn.specs.Says.{says_answers, says_within}
use Rattle.turn.specs.Kept.{Good}
use Rattle.ingress.specs.Ingress.{After, refused_at, run, judged, unless_refused, committed, advanced}
use Rattle.ingress.specs.Laws.{passed}
use Rattle.ingress.specs.Story.{Stretch, consumed, came_by, went_by, flat, Consumes, Story}
use Rattle.ingress.specs.Kept.{turned_held, story_bytes, run_ends}
use Rattle.ingress.specs.Conserved.{flat_turns, commit_good}

module _ (t : List ℕ) where
  abbrev coded : Choice
  coded = choice Numeric t

  heard_codes : (w : World) → Heard (held w) (says coded w)
  heard_codes w = rw (says_answers coded w) (unchecked_heard (held w))

  -- a turn that consumes something found a code; what it leaves has the codes of the whole behind it
  module _ (w : World) (x : Stretch) (u : World) (s : Consumes coded w x u) where
    abbrev eaten : ℕ
    eaten = (says coded w).consumed

    found : is_found (says coded w) ≡ true
    found = go (is_found (says coded w)) refl
      where
        go : (b : Bool) → is_found (says coded w) ≡ b → b ≡ true
        go true e = refl
        go false e = absurd (omega (arith, ap (λ (a : Answer). a.consumed) ((heard_codes w).skip e), ap (λ (a : Answer). a.consumed) s.said, s.some))

    stretch_long : length x.bytes ≡ eaten
    stretch_long = ap length s.front ∙ length-take-le x.answer.consumed (held w) (omega (arith, ap (λ (a : Answer). a.consumed) s.said, says_within coded w)) ∙ ap (λ (a : Answer). a.consumed) s.said

    left_is : drop eaten (held w) ≡ held u
    left_is = ap (drop eaten) (turned_held coded w x u s) ∙ drop_at x.bytes (held u) eaten stretch_long

    turn_codes : (j : ℕ) → code_at (held u) j ≡ code_at (held w) (eaten + j)
    turn_codes j = ap (λ (l : List ℕ). code_at l j) (sym left_is) ∙ rest_codes (held w) eaten ((heard_codes w).code found).rest j

  -- turn by turn
  turns_codes : (l : List Stretch) (w v : World) → Story coded w (map consumed l) v → NoCode (held v) → (j : ℕ) → length (flat went_by (map consumed l)) ≤ j → code_at (held w) j ≡ false
  unfolding flat
  turns_codes [] w v s n j h = ap (λ (y : World). code_at (held y) j) s ∙ n j
  turns_codes (x ∷ l) w v s n j h =
      let u = s.at in
      let e = stretch_long w x u s.first in
      let k = length-append x.bytes (flat went_by (map consumed l)) in
      let i : (says coded w).consumed + (j - (says coded w).consumed) ≡ j = omega (arith, e, k, h) in
      ap (code_at (held w)) (sym i) ∙ sym (turn_codes w x u s.first (j - (says coded w).consumed))
      ∙ turns_codes l u v s.rest n (j - (says coded w).consumed) (omega (arith, e, k, h))

  -- Where it isn't refused, no line start of the bytes that were held in w holds a code at or behind the place where what is left begins.
  abbrev pub AllHeard : {A : Type 0} → World → After A → Type 0
  AllHeard w r = is_refused r.said ≡ false → (j : ℕ) → length (held w) - length (held r.left) ≤ j → code_at (held w) j ≡ false

  run_codes : (w : World) → Good coded w → AllHeard w (run coded w)
  run_codes w g r j h =
      let d = run_ends coded w g in
      let b = story_bytes coded (map consumed d.turns) w (run coded w).left d.story in
      let z = ap (λ (y : List ℕ). held w ++ y) (flat_turns came_by (λ x. refl) d.turns) ∙ append-nil (held w) in
      turns_codes d.turns w (run coded w).left d.story (d.quiet r) j
      (omega (arith, h, ap length (sym z ∙ b), length-append (flat went_by (map consumed d.turns)) (held (run coded w).left)))

  pub advance_codes : (n : ℕ) (w : World) → AllHeard (committed w n) (advanced coded n w)
  unfolding advanced unless_refused
  advance_codes n w = go (judged coded w) refl
    where
      go : (o : Outcome (Unit {0})) → o ≡ judged coded w → AllHeard (committed w n) (unless_refused o w (if ltb (length w.buf - w.state.end) n then refused_at 4 [] w else run coded (committed w n)))
      go (answered x) e =
          ways (AllHeard (committed w n)) (ltb (length w.buf - w.state.end) n) (λ q f. absurd (false_true refl f))
          (λ q. run_codes (committed w n) (commit_good coded w (passed coded w e) n (ltb-false (length w.buf - w.state.end) n q)))
      go (refused k v) e = λ f. absurd (false_true refl f)
