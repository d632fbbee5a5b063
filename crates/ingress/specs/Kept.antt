-- What a run keeps: it loses no byte and adds each notice once. From the laws of a turn.
use Rattle.std.specs.Prelude.{◌≡◌, refl, Bool, true, false, List, [], ◌∷◌, ◌++◌, map, ℕ, zero, suc, ◌≤◌, ◌<◌, take, leb, if◌then◌else◌}
use Rattle.std.proofs.Common.{sym, ap, ◌∙◌, append-nil, append_assoc, arith}
use borrow.Author.Tests.{leb-true, leb-false}
use Rattle.text.specs.Logic.{false_true}
use Rattle.text.specs.Laws.{part_take}
use Rattle.outcome.specs.Laws.{ways, same_way}
use Rattle.answers.specs.Answer.{is_notice}
use Rattle.answers.specs.declared.Answer.{Answer}
use Rattle.queue.specs.Queue.{ours, Arrival, adds}
use Rattle.queue.specs.Laws.{ours_sound}
use Rattle.queue.specs.Waiting.{take_waits}
use Rattle.selector.specs.Selector.{Choice}
use Rattle.turn.specs.Turn.{with_queue, is_refused, World, with_state, held, says, Quiet, payload_of, delivering, Step, went, stuck, once}
use Rattle.turn.specs.Says.{held_long, says_within, notice_found}
use Rattle.turn.specs.Laws.{once_went, once_stuck, once_end}
use Rattle.turn.specs.Kept.{Good, trusted, idle, idle_next, kept, next_good, next_held, waits_full, stays}
use Rattle.ingress.specs.Ingress.{After, done, refused_at, then_run, run_by, run}
use Rattle.ingress.specs.Laws.{passed, passes}
use Rattle.ingress.specs.Story.{Stretch, Event, arrived, consumed, dropped, handed, freed, notice_of, came_by, went_by, delivered_by, handed_by, flat, waiting_in, Passed, Consumes, Story, Waits, takes_bytes}

-- a turn of a story, from what `once` says
module _ (c : Choice) (w : World) where
  abbrev pub stretch_of : Stretch
  stretch_of = record { bytes = take (says c w).consumed (held w); answer = says c w }

  pub turns_on : Passed c w → (v : World) (n : ℕ) → went v n ≡ once c w → 1 ≤ n → Consumes c w stretch_of v
  turns_on p v n e h =
      let k = once_went c w v n e in
      record { passed = p; said = refl; front = refl; some = omega (arith, k.1.1); goes = ap (went v) (sym k.1.1) ∙ e }

-- and what it keeps
module _ (c : Choice) (w : World) (x : Stretch) (v : World) (u : Consumes c w x v) where
  pub turned_held : held w ≡ x.bytes ++ held v
  turned_held =
      let k = once_went c w v x.answer.consumed u.goes in
      let f : take (says c w).consumed (held w) ≡ x.bytes = ap (λ (n : ℕ). take n (held w)) (sym k.1.1) ∙ sym u.front in
      next_held c w (passed c w u.passed) k.0 ∙ (λ i. f i ++ held (sym k.1.0 i))

  -- the payload lies in the stretch
  pub turned_payload : is_notice x.answer.kind ≡ true → payload_of (held w) (says c w) ≡ payload_of x.bytes x.answer
  turned_payload e =
      let g = passed c w u.passed in
      let q = (trusted c w g).payload (notice_found (says c w) (ap (λ (a : Answer). is_notice a.kind) (sym u.said) ∙ e)) in
      let k = once_went c w v x.answer.consumed u.goes in
      let f : take (says c w).consumed (held w) ≡ x.bytes = ap (λ (n : ℕ). take n (held w)) (sym k.1.1) ∙ sym u.front in
      sym (part_take (held w) (says c w).consumed (says c w).payload.start (says c w).payload.len q (says_within c w))
      ∙ (λ i. payload_of (f i) (sym u.said i))

  turned_notices : waiting_in v ≡ waiting_in w ++ notice_of x
  turned_notices =
      let k = once_went c w v x.answer.consumed u.goes in
      let n = ap (λ (a : Answer). is_notice a.kind) u.said in
      ap waiting_in k.1.0 ∙ (kept c w (passed c w u.passed) k.0).notices
      ∙ ap (λ (l : List Arrival). waiting_in w ++ l) (ap (λ (b : Bool). if b then adds ours (says c w).number (payload_of (held w) (says c w)) else []) (sym n) ∙ same_way [] (is_notice x.answer.kind) (λ e. λ i. adds ours (sym u.said i).number (turned_payload e i)))

-- All that came and was held is what went and is held.
pub story_bytes : (c : Choice) (l : List Event) (w v : World) → Story c w l v → held w ++ flat came_by l ≡ flat went_by l ++ held v
unfolding flat
story_bytes c [] w v s = append-nil (held w) ∙ ap held s
story_bytes c (arrived b ∷ l) w v s =
    let u = s.at in
    sym (append_assoc (held w) b (flat came_by l)) ∙ ap (λ (y : List ℕ). y ++ flat came_by l) (sym s.first.behind) ∙ story_bytes c l u v s.rest
story_bytes c (consumed x ∷ l) w v s =
    let u = s.at in
    ap (λ (y : List ℕ). y ++ flat came_by l) (turned_held c w x u s.first)
    ∙ append_assoc x.bytes (held u) (flat came_by l)
    ∙ ap (λ (y : List ℕ). x.bytes ++ y) (story_bytes c l u v s.rest)
    ∙ sym (append_assoc x.bytes (flat went_by l) (held v))
story_bytes c (dropped b ∷ l) w v s =
    let u = s.at in
    ap (λ (y : List ℕ). y ++ flat came_by l) (sym s.first.0)
    ∙ ap (λ (y : List ℕ). b ++ y) (ap (λ (y : World). held y ++ flat came_by l) (sym s.first.1) ∙ story_bytes c l u v s.rest)
    ∙ sym (append_assoc b (flat went_by l) (held v))
story_bytes c (handed a ∷ l) w v s = ap (λ (y : World). held y ++ flat came_by l) (sym s.first.left) ∙ story_bytes c l s.at v s.rest
story_bytes c (freed n ∷ l) w v s = ap (λ (y : World). held y ++ flat came_by l) (sym s.first.left) ∙ story_bytes c l s.at v s.rest

-- All that was handed out and waits is what waited and was delivered.
pub story_notices : (c : Choice) (l : List Event) (w v : World) → Story c w l v → flat handed_by l ++ waiting_in v ≡ waiting_in w ++ flat delivered_by l
unfolding flat
story_notices c [] w v s = ap waiting_in (sym s) ∙ sym (append-nil (waiting_in w))
story_notices c (arrived b ∷ l) w v s =
    story_notices c l s.at v s.rest ∙ ap (λ (y : World). waiting_in y ++ flat delivered_by l) s.first.others
story_notices c (consumed x ∷ l) w v s =
    let u = s.at in
    story_notices c l u v s.rest ∙ ap (λ (y : List Arrival). y ++ flat delivered_by l) (turned_notices c w x u s.first) ∙ append_assoc (waiting_in w) (notice_of x) (flat delivered_by l)
story_notices c (dropped b ∷ l) w v s = story_notices c l s.at v s.rest ∙ ap (λ (y : World). waiting_in y ++ flat delivered_by l) s.first.1
story_notices c (handed a ∷ l) w v s =
    let h = s.first in
    let q = take_waits ours ours_sound w.state.queue h.queue h.notice w.queue_memory h.takes in
    ap (λ (y : List Arrival). a ∷ y) (story_notices c l s.at v s.rest ∙ ap (λ (y : World). waiting_in y ++ flat delivered_by l) h.left)
    ∙ ap (λ (y : Arrival). y ∷ (waiting_in (with_state w (with_queue w.state h.queue)) ++ flat delivered_by l)) h.is
    ∙ ap (λ (y : List Arrival). y ++ flat delivered_by l) (sym q)
story_notices c (freed n ∷ l) w v s = story_notices c l s.at v s.rest ∙ ap (λ (y : World). waiting_in y ++ flat delivered_by l) s.first.left

-- a run that ends with r: turns alone, to a good state, where nothing in the buffer is finished, or at a notice that waits
pub record Ends (c : Choice) (w : World) (r : After (Unit {0})) : Type 0 where
  pub turns : List Stretch
  pub story : Story c w (map consumed turns) r.left
  pub good : Good c r.left
  pub takes : takes_bytes r.said ≡ true
  pub quiet : is_refused r.said ≡ false → Quiet c r.left
  pub waits : is_refused r.said ≡ true → Waits c r.left

module _ (c : Choice) (w : World) (g : Good c w) where
  ends_more : (x : Stretch) (u : World) → Consumes c w x u → (r : After (Unit {0})) → Ends c u r → Ends c w r
  ends_more x u s r e = record { turns = x ∷ e.turns; story = record { at = u; first = s; rest = e.story }; good = e.good; takes = e.takes; quiet = e.quiet; waits = e.waits }

  -- nothing is consumed
  ends_quiet : (v : World) → v ≡ w → (says c w).consumed ≡ 0 → Ends c w (done tt v)
  ends_quiet v q z = record { turns = []; story = sym q; good = rw q g; takes = refl; quiet = λ e. rw q (idle c w g z); waits = λ e. absurd (false_true e refl) }

  ends_still : (v : World) (n : ℕ) → went v n ≡ once c w → n ≡ 0 → Ends c w (done tt v)
  ends_still v n e z =
      let k = once_went c w v n e in
      let y : (says c w).consumed ≡ 0 = sym k.1.1 ∙ z in
      ends_quiet v (k.1.0 ∙ idle_next c w g y) y

  waits_so : (delivering c w).waits ≡ true → Waits c w
  waits_so r =
      let k = waits_full c w g r in
      record { passed = passes c w g; notice = k.0; some = k.1.1.0; most = k.1.1.1; full = k.1.0 }

  ends_stuck : (v : World) → stuck v ≡ once c w → Ends c w (refused_at 5 [] v)
  ends_stuck v e =
      let k = once_stuck c w v e in
      let q : v ≡ w = k.1 ∙ stays c w g k.0 in
      record { turns = []; story = sym q; good = rw q g; takes = refl; quiet = λ f. absurd (false_true refl f); waits = λ f. rw q (waits_so k.0) }

  module _ (f : World → After (Unit {0})) (h : (u : World) (n : ℕ) → went u n ≡ once c w → 1 ≤ n → Ends c u (f u)) where
    ends_then : (s : Step) → s ≡ once c w → Ends c w (then_run s f)
    unfolding then_run
    ends_then (went v n) e =
        ways (Ends c w) (leb 1 n)
        (λ q. ends_more (stretch_of c w) v (turns_on c w (passes c w g) v n e (leb-true 1 n q)) (f v) (h v n e (leb-true 1 n q)))
        (λ q. ends_still v n e (omega (arith, leb-false 1 n q)))
    ends_then (stuck v) e = ends_stuck v e

    ends_run : Ends c w (if leb 1 w.state.end then then_run (once c w) f else done tt w)
    ends_run =
        ways (Ends c w) (leb 1 w.state.end) (λ q. ends_then (once c w) refl)
        (λ q. ends_quiet w refl (omega (arith, leb-false 1 w.state.end q, says_within c w, held_long w)))

run_by_ends : (n : ℕ) (c : Choice) (w : World) → Good c w → w.state.end < n → Ends c w (run_by n c w)
unfolding run_by
run_by_ends zero c w g h = absurd (omega arith)
run_by_ends (suc n) c w g h =
    ends_run c w g (run_by n c) (λ u m e l.
    let k = once_went c w u m e in
    run_by_ends n c u (rw k.1.0 (next_good c w g k.0)) (omega (arith, once_end c w u m e)))

pub run_ends : (c : Choice) (w : World) → Good c w → Ends c w (run c w)
unfolding run
run_ends c w g = run_by_ends (suc w.state.end) c w g (omega arith)
