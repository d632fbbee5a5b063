-- A client's calls with findings, each starting from the state, memories and findings that the last one left: with genuine findings they are the ingress's calls.
-- So what is told of those, that no byte is lost and no notice delivered twice (`winter`) and what goes on after refusal 5 (`goes_on`), is told of these.
use Rattle.std.specs.Prelude.{◌≡◌, Bool, ℕ, ◌+◌}
use Rattle.std.proofs.Math.Path.{refl, ap}
use Rattle.std.proofs.Common.{sym, ◌∙◌, inl, arith}
use mathlib.Core.List.{List, [], ◌∷◌}
use Rattle.moves.specs.Laws.{put_elsewhere}
use Rattle.outcome.specs.Outcome.{Outcome, answered, refused}
use Rattle.slot.specs.Slot.{was_reset}
use Rattle.slot.specs.declared.Slot.{Slot}
use Rattle.queue.specs.Queue.{ours, taken, Got, got, empty}
use Rattle.findings.specs.declared.Findings.{Findings}
use Rattle.findings.specs.Findings.{numbers_of, findings_of}
use Rattle.selector.specs.Selector.{Choice, choice}
use Rattle.selector.specs.declared.Selector.{Selector}
use Rattle.quiet.specs.Quiet.{still}
use Rattle.quiet.specs.Genuine.{still_answers}
use Rattle.turn.specs.Turn.{World, held}
use Rattle.ingress.specs.Calls.{Call, write, fill, after_fill, advance, clear, take_one, reset, after_take, after_reset, left_by, left_after}
use Rattle.feed.specs.Feed.{Fed, advanced_with, written_with}
use Rattle.feed.specs.Genuine.{Right, advanced_genuine, written_genuine}

-- what a call leaves, and the findings beside it
pub record Kept : Type 0 where
  pub left : World
  pub numbers : List ℕ

abbrev keeping : {A : Type 0} → Fed A → Kept
keeping r = record { left = r.result.left; numbers = r.numbers }

abbrev pub genuine : World → Kept
genuine w = record { left = w; numbers = numbers_of (findings_of (held w)) }

-- A write and an advance use the findings, and a clear gives empty ones; the others change no byte that is held, and leave them.
abbrev pub fed_by : Choice → (Findings → List ℕ → Bool) → Call → Kept → Kept
fed_by c q (write p) k = keeping (written_with c q p k.numbers k.left)
fed_by c q (fill n p) k = record { left = left_by c (fill n p) k.left; numbers = k.numbers }
fed_by c q (advance n) k = keeping (advanced_with c q n k.numbers k.left)
fed_by c q clear k = record { left = left_by c clear k.left; numbers = numbers_of (findings_of []) }
fed_by c q take_one k = record { left = left_by c take_one k.left; numbers = k.numbers }
fed_by c q (reset n) k = record { left = left_by c (reset n) k.left; numbers = k.numbers }

unfoldable pub fed_after : Choice → (Findings → List ℕ → Bool) → List Call → Kept → Kept
fed_after c q [] k = k
fed_after c q (x ∷ l) k = fed_after c q l (fed_by c q x k)

-- what is still right
pub still_right : (x : Selector) (t : List ℕ) → Right (choice x t) (still x t)
still_right x t n e s h z = still_answers x t s n e h z

same_taken : (w : World) (o : Outcome Got) → held (after_take w o) ≡ held w
same_taken w (answered (got q n)) = refl
same_taken w (answered (empty q)) = refl
same_taken w (refused n v) = refl

same_reset : (w : World) (o : Outcome Slot) → held (after_reset w o) ≡ held w
same_reset w (answered s) = refl
same_reset w (refused n v) = refl

kept_with : (w v : World) → held v ≡ held w → ◌≡◌ {A = Kept} (record { left = v; numbers = numbers_of (findings_of (held w)) }) (genuine v)
kept_with w v e = ap (λ (s : List ℕ). record { left = v; numbers = numbers_of (findings_of s) }) (sym e)

module _ (c : Choice) (q : Findings → List ℕ → Bool) (right : Right c q) where
  fed_one : (x : Call) (w : World) → fed_by c q x (genuine w) ≡ genuine (left_by c x w)
  fed_one (write p) w = ap keeping (written_genuine c q right (numbers_of (findings_of (held w))) w refl p)
  fed_one (fill n p) w = kept_with w (after_fill w n p) (put_elsewhere w.buf (w.state.end + n) p 0 w.state.end (inl (omega arith)))
  fed_one (advance n) w = ap keeping (advanced_genuine c q right (numbers_of (findings_of (held w))) w refl n)
  fed_one clear w = refl
  fed_one take_one w = let o = taken ours w.state.queue w.queue_memory in kept_with w (after_take w o) (same_taken w o)
  fed_one (reset n) w = let o = was_reset w.state.slot n w.slot_memory in kept_with w (after_reset w o) (same_reset w o)

  -- Any calls: the state and every byte are those of the calls without findings, and the findings are those of what is held.
  pub fed_genuine : (l : List Call) (w : World) → fed_after c q l (genuine w) ≡ genuine (left_after c l w)
  unfolding fed_after left_after
  fed_genuine [] w = refl
  fed_genuine (x ∷ l) w = ap (fed_after c q l) (fed_one x w) ∙ fed_genuine l (left_by c x w)
