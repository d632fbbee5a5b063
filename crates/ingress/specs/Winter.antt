-- The winter's fault is shut out: each call is a story, and so is a sequence of calls. From what advance and write keep.
use Rattle.std.specs.Prelude.{◌≡◌, refl, Bool, true, false, List, [], ◌∷◌, ◌++◌, ℕ, ◌+◌, ◌≤◌, length, get_or, take, eqb, if◌then◌else◌}
use Rattle.std.proofs.Common.{sym, ap, ◌∙◌, inl, append-nil, arith}
use Rattle.moves.specs.Laws.{put_elsewhere}
use Rattle.outcome.specs.Outcome.{Outcome, answered, refused}
use Rattle.outcome.specs.Laws.{ways}
use Rattle.answers.specs.Answer.{is_notice}
use Rattle.answers.specs.declared.Answer.{Answer}
use Rattle.slot.specs.Slot.{was_reset}
use Rattle.slot.specs.declared.Slot.{Slot}
use Rattle.queue.specs.Queue.{ours, taken, Got, got, empty, Arrival, adds}
use Rattle.queue.specs.Laws.{ours_sound}
use Rattle.queue.specs.Waiting.{put_room, take_kept, take_empty, adds_one}
use Rattle.queue.specs.declared.Queue.{Queue}
use Rattle.queue.specs.declared.Notice.{Notice}
use Rattle.selector.specs.Selector.{Choice}
use Rattle.turn.specs.Turn.{to_queue, with_end, with_slot, with_queue, Delivery, deliver, World, with_state, held, says, payload_of, delivering}
use Rattle.turn.specs.Says.{held_long, says_same, says_within, notice_found}
use Rattle.turn.specs.Laws.{to_queue_lem, next, once_goes}
use Rattle.turn.specs.Kept.{Good, trusted, next_good, notice_carries}
use Rattle.ingress.specs.Ingress.{After, run, advanced, written}
use Rattle.ingress.specs.Laws.{passed, passes, run_goes, at_run}
use Rattle.ingress.specs.Story.{Event, arrived, consumed, dropped, handed, freed, came_by, handed_by, flat, waiting_in, emptied, Consumes, Story, Fed, Over, Waits, takes_bytes, Keeps, committed_bytes, took_of}
use Rattle.ingress.specs.Kept.{stretch_of, turns_on, turned_payload, story_bytes, story_notices, run_ends}
use Rattle.ingress.specs.Conserved.{flat_append, story_append, advance_keeps, write_keeps}
use Rattle.ingress.specs.Calls.{Call, write, fill, after_fill, advance, clear, take_one, reset, after_take, after_reset, left_by, took_by, hands_out, hands_by, left_after, along, Told, GoesOn}

-- one call: its events, what came with them and what was handed out
record Did (c : Choice) (w : World) (b : List ℕ) (a : List Arrival) (v : World) : Type 0 where
  pub events : List Event
  pub story : Story c w events v
  pub came : flat came_by events ≡ b
  pub out : flat handed_by events ≡ a

did_nothing : (c : Choice) (w v : World) → v ≡ w → Did c w [] [] v
unfolding flat
did_nothing c w v e = record { events = []; story = sym e; came = refl; out = refl }

-- where nothing is handed out
fed_hands : (l : List Event) → Fed l → flat handed_by l ≡ []
unfolding flat
fed_hands [] f = refl
fed_hands (arrived b ∷ l) f = fed_hands l f
fed_hands (consumed x ∷ l) f = fed_hands l f
fed_hands (dropped b ∷ l) f = absurd f
fed_hands (handed a ∷ l) f = absurd f
fed_hands (freed n ∷ l) f = absurd f

did_over : (c : Choice) (w : World) (b : List ℕ) (v : World) → Over c w b v → Did c w b [] v
did_over c w b v o = record { events = o.events; story = o.story; came = o.came; out = fed_hands o.events o.fed }

-- an advance and a write
did_keeps : {A : Type 0} (c : Choice) (w : World) (b : List ℕ) (r : After A) → Keeps c w b r → Did c w (if takes_bytes r.said then b else []) [] r.left
did_keeps c w b r k = ways (λ x. Did c w x [] r.left) (takes_bytes r.said) (λ e. did_over c w b r.left (k.over e)) (λ e. did_nothing c w r.left (k.same e))

took_if : (o : Outcome ℕ) (p : List ℕ) → (if takes_bytes o then take (took_of o) p else []) ≡ take (took_of o) p
took_if (answered n) p = refl
took_if (refused k v) p = go (eqb k 5)
  where
    go : (b : Bool) → (if b then take (if b then get_or v 0 0 else 0) p else []) ≡ take (if b then get_or v 0 0 else 0) p
    go true = refl
    go false = refl

-- a fill: nothing arrives yet, and what is held stays
did_fill : (c : Choice) (w : World) (n : ℕ) (p : List ℕ) → Did c w [] [] (after_fill w n p)
unfolding flat
did_fill c w n p =
    let e = w.state.end in
    record {
      events = arrived [] ∷ [];
      story = record { at = after_fill w n p; first = record { behind = put_elsewhere w.buf (e + n) p 0 e (inl (omega arith)) ∙ sym (append-nil (held w)); others = refl }; rest = refl };
      came = refl;
      out = refl;
    }

-- a take and a reset
did_take : (c : Choice) (w : World) (o : Outcome Got) → o ≡ taken ours w.state.queue w.queue_memory → Did c w [] (hands_out w.queue_memory o) (after_take w o)
unfolding flat
did_take c w (answered (got q n)) e =
    record {
      events = handed (record { number = n.number; payload = _ }) ∷ [];
      story = record { at = with_state w (with_queue w.state q); first = record { queue = q; notice = n; takes = e; is = refl; left = refl }; rest = refl };
      came = refl;
      out = refl;
    }
did_take c w (answered (empty q)) e = did_nothing c w (with_state w (with_queue w.state q)) (ap (λ (x : Queue). with_state w (with_queue w.state x)) (take_empty ours ours_sound w.state.queue q w.queue_memory e))
did_take c w (refused n v) e = did_nothing c w w refl

did_reset : (c : Choice) (w : World) (n : ℕ) (o : Outcome Slot) → o ≡ was_reset w.state.slot n w.slot_memory → Did c w [] [] (after_reset w o)
unfolding flat
did_reset c w n (answered s) e =
    record { events = freed n ∷ []; story = record { at = with_state w (with_slot w.state s); first = record { slot = s; resets = e; left = refl }; rest = refl }; came = refl; out = refl }
did_reset c w n (refused k v) e = did_nothing c w w refl

did : (c : Choice) (x : Call) (w : World) → Did c w (took_by c x w) (hands_by c x w) (left_by c x w)
unfolding flat
did c (write p) w = let r = written c p w in rw (sym (took_if r.said p)) (did_keeps c w (take (took_of r.said) p) r (write_keeps c p w).0)
did c (fill n p) w = did_fill c w n p
did c (advance n) w = let r = advanced c n w in did_keeps c w (committed_bytes w n) r (advance_keeps c n w).0
did c clear w =
    record { events = dropped (held w) ∷ []; story = record { at = emptied w; first = (refl, refl); rest = refl }; came = refl; out = refl }
did c take_one w = did_take c w (taken ours w.state.queue w.queue_memory) refl
did c (reset n) w = did_reset c w n (was_reset w.state.slot n w.slot_memory) refl

-- the calls one after the other
did_all : (c : Choice) (l : List Call) (w : World) → Did c w (along c (took_by c) l w) (along c (hands_by c) l w) (left_after c l w)
unfolding left_after along
did_all c [] w = did_nothing c w w refl
did_all c (k ∷ l) w =
    let x = did c k w in
    let y = did_all c l (left_by c k w) in
    record {
      events = x.events ++ y.events;
      story = story_append c x.events y.events w (left_by c k w) (left_after c l (left_by c k w)) x.story y.story;
      came = flat_append came_by x.events y.events ∙ (λ i. x.came i ++ y.came i);
      out = flat_append handed_by x.events y.events ∙ (λ i. x.out i ++ y.out i);
    }

-- Every byte in one of three places, and no arrival delivered twice.
pub winter : (c : Choice) (l : List Call) (w : World) → Told c l w
winter c l w =
    let d = did_all c l w in
    record {
      events = d.events;
      story = d.story;
      came = d.came;
      out = d.out;
      bytes = ap (λ (y : List ℕ). held w ++ y) (sym d.came) ∙ story_bytes c d.events w (left_after c l w) d.story;
      notices = ap (λ (y : List Arrival). y ++ waiting_in (left_after c l w)) (sym d.out) ∙ story_notices c d.events w (left_after c l w) d.story;
    }

-- After refusal 5 and a take: the queue has room, so the turn that waited goes.
module _ (c : Choice) (w : World) (z : Waits c w) (q : Queue) (n : Notice) (e : answered (got q n) ≡ taken ours w.state.queue w.queue_memory) where
  abbrev with_room : World
  with_room = with_state w (with_queue w.state q)

  room_good : Good c with_room
  room_good =
      let g = passed c w z.passed in
      let k = take_kept ours ours_sound w.state.queue q n w.queue_memory e in
      record { long = g.long; records = g.records; ruled = g.ruled; inside = g.inside; slot_fits = g.slot_fits; queue_fits = k.0 }

  -- the queue doesn't matter to what is said
  room_says : says c with_room ≡ says c w
  room_says = says_same c with_room w refl

  room_waits : Waits c w → (is_notice (says c with_room).kind ≡ true) × ((1 ≤ length (payload_of (held w) (says c with_room))) × (length (payload_of (held w) (says c with_room)) ≤ ours.longest))
  room_waits y = rw room_says (y.notice, (y.some, y.most))

  room_goes : (delivering c with_room).waits ≡ false
  room_goes =
      let k = take_kept ours ours_sound w.state.queue q n w.queue_memory e in
      let a = says c with_room in
      let p = payload_of (held w) a in
      let y = room_waits z in
      sym
      (ap (λ (d : Delivery). d.waits)
      (ap (to_queue with_room.state w.slot_memory) (put_room ours ours_sound q a.number p w.queue_memory k.0 k.1 y.1.0 y.1.1)
      ∙ to_queue_lem with_room.state a p w.slot_memory w.queue_memory y.0
      ∙ ap (λ (x : List ℕ). deliver with_room.state a x w.slot_memory w.queue_memory) (sym (notice_carries (held w) a y.0))))

  room_found : 1 ≤ (says c with_room).consumed
  room_found = (trusted c with_room room_good).some (notice_found (says c with_room) (room_waits z).0)

  abbrev room_turn : Consumes c with_room (stretch_of c with_room) (next c with_room)
  room_turn = turns_on c with_room (passes c with_room room_good) (next c with_room) (says c with_room).consumed (once_goes c with_room room_goes) room_found

  after_turn : run c (next c with_room) ≡ advanced c 0 with_room
  after_turn =
      let i : w.state.end ≡ w.state.end + 0 = omega arith in
      run_goes c with_room (omega (arith, room_found, says_within c with_room, held_long with_room)) (next c with_room) (says c with_room).consumed (once_goes c with_room room_goes) (λ y. omega (arith, room_found))
      ∙ (λ j. run c (with_state w (with_end with_room.state (i j))))
      ∙ at_run c 0 with_room (passes c with_room room_good) (omega arith)

  pub goes_on : GoesOn c w q
  goes_on =
      let y = room_waits z in
      let d = run_ends c (next c with_room) (next_good c with_room room_good room_goes) in
      let p = turned_payload c with_room (stretch_of c with_room) (next c with_room) room_turn y.0 in
      let a = says c with_room in
      record {
        first = stretch_of c with_room;
        rest = d.turns;
        story = record { at = next c with_room; first = room_turn; rest = rw (sym (ap (λ (r : After (Unit {0})). r.left) after_turn)) d.story };
        notice =
            ap (λ (b : Bool). if b then adds ours a.number (payload_of (stretch_of c with_room).bytes a) else []) y.0
            ∙ ap (λ (x : List ℕ). adds ours a.number x) (sym p)
            ∙ adds_one ours a.number (payload_of (held w) a) y.1.0 y.1.1
            ∙ ap (λ (x : Answer). record { number = x.number; payload = payload_of (held w) x } ∷ []) room_says;
      }
