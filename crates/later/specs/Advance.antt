-- What a final answer means for an advance: had the later bytes come with the first ones, the first turn would have heard, delivered and consumed the same (`sooner`);
-- so for the answers that R-13 names (`advance_sooner`).
use Rattle.std.specs.Prelude.{◌≡◌, refl, Bool, true, false, List, ◌++◌, ℕ, ◌+◌, ◌-◌, ◌≤◌, length, take, drop, if◌then◌else◌}
use Rattle.std.proofs.Common.{sym, ap, ◌∙◌, arith, length-append, length-take-le, take-add}
use Rattle.std.proofs.lemmas.List.{take-append-le, drop-append-le}
use Rattle.std.proofs.Math.Seq.{drop-append_seam}
use Rattle.outcome.specs.Outcome.{answered}
use Rattle.text.specs.Text.{part_of}
use Rattle.text.specs.Laws.{part_is}
use Rattle.moves.specs.Laws.{part_first}
use Rattle.table.specs.Table.{tokens}
use Rattle.lines.specs.declared.Digester.{Digester}
use Rattle.answers.specs.Answer.{is_notice, carried, Within}
use Rattle.answers.specs.Laws.{carried_within}
use Rattle.answers.specs.declared.Answer.{Answer}
use Rattle.digest.specs.Calls.{digest_is, unchecked_is, unchecked_inside}
use Rattle.digest.specs.Digest.{digest_in}
use Rattle.selector.specs.Selector.{Choice, choice, digest}
use Rattle.selector.specs.declared.Selector.TheVariants.{Verbal}
use Rattle.slot.specs.Slot.{signalled}
use Rattle.queue.specs.Queue.{ours, put_into}
use Rattle.turn.specs.Turn.{with_end, Delivery, to_queue, to_slot, deliver, World, world, held, says, payload_of, carried_of, delivering, went}
use Rattle.turn.specs.Says.{held_long, says_answers, says_within}
use Rattle.turn.specs.Laws.{next, once_went, once_goes}
use Rattle.turn.specs.Kept.{Good, next_held}
use Rattle.turn.specs.declared.State.{State}
use Rattle.ingress.specs.Ingress.{committed}
use Rattle.ingress.specs.Laws.{passed, passes, at_run}
use Rattle.ingress.specs.Conserved.{commit_good}
use Rattle.ingress.specs.Story.{Stretch, Passed, Arrives, Consumes, Via, Waits, committed_bytes}
use Rattle.later.specs.Later.{Final, Settled, Sooner, AdvanceSooner}
use Rattle.later.specs.Stays.{settled_final}

-- a delivery doesn't look at the end
abbrev ended_at : Delivery → ℕ → Delivery
ended_at x e = record { waits = x.waits; state = with_end x.state e; slot_memory = x.slot_memory; queue_memory = x.queue_memory }

deliver_end : (s : State) (e : ℕ) (a : Answer) (p m n : List ℕ) → deliver (with_end s e) a p m n ≡ ended_at (deliver s a p m n) e
unfolding deliver
deliver_end s e a p m n = go (is_notice a.kind)
  where
    go : (b : Bool) → (if b then to_queue (with_end s e) m (put_into ours s.queue a.number p n) else to_slot (with_end s e) n (signalled s.slot a p m)) ≡ ended_at (if b then to_queue s m (put_into ours s.queue a.number p n) else to_slot s n (signalled s.slot a p m)) e
    go true = refl
    go false = refl

-- a part of s is one of s with bytes behind it
part_behind : (s b : List ℕ) (p n : ℕ) → p + n ≤ length s → part_of (s ++ b) p n ≡ part_of s p n
part_behind s b p n h = sym (part_is (s ++ b) p n (rw length-append (omega arith))) ∙ part_first s b p n h ∙ part_is s p n h

-- what the ingress hears is the digest's answer
answers_so : (d : Digester) (t : List ℕ) (w : World) → Good (choice (Verbal d) t) w → digest (Verbal d) t (held w) ≡ answered (says (choice (Verbal d) t) w)
answers_so d t w g =
    let s = held w in
    let l : length s ≤ 4096 = omega (arith, held_long w, g.inside, g.long) in
    sym (digest_is d t s l g.records (sym g.ruled) (says (choice (Verbal d) t) w) (says_answers (choice (Verbal d) t) w ∙ sym (unchecked_is d t s l (digest_in d (tokens t) s) refl)))

-- what a turn leaves of the bytes held
next_left : (c : Choice) (w : World) → Good c w → (delivering c w).waits ≡ false → held (next c w) ≡ drop (says c w).consumed (held w)
next_left c w g r =
    let k = (says c w).consumed in
    let l : length (take k (held w)) ≡ k = length-take-le k (held w) (says_within c w) in
    sym (drop-append_seam (take k (held w)) (held (next c w))) ∙ ap (λ (n : ℕ). drop n (take k (held w) ++ held (next c w))) l ∙ ap (drop k) (sym (next_held c w g r))

module _ (d : Digester) (t : List ℕ) (w v : World) (b : List ℕ) (g : Good (choice (Verbal d) t) w) (h : Passed (choice (Verbal d) t) v) (a : Arrives w b v) (z : Final (Verbal d) t (held w) (says (choice (Verbal d) t) w)) where
  same_says : says (choice (Verbal d) t) v ≡ says (choice (Verbal d) t) w
  same_says =
      let k = passed (choice (Verbal d) t) v h in
      let l : length (held w) + length b ≡ length (held v) = sym (length-append (held w) b) ∙ ap length (sym a.behind) in
      let q : answered (says (choice (Verbal d) t) v) ≡ answered (says (choice (Verbal d) t) w) = sym (answers_so d t v k) ∙ ap (digest (Verbal d) t) a.behind ∙ z b (omega (arith, held_long v, k.inside, k.long)) in
      cc

  inside : Within (length (held w)) (says (choice (Verbal d) t) w)
  inside = rw (says_answers (choice (Verbal d) t) w) (unchecked_inside d t (held w))

  part_same : (p n : ℕ) → p + n ≤ (says (choice (Verbal d) t) w).consumed → part_of (held v) p n ≡ part_of (held w) p n
  part_same p n l = ap (λ (s : List ℕ). part_of s p n) a.behind ∙ part_behind (held w) b p n (omega (arith, l, inside.all))

  carried_same : carried_of (held v) (says (choice (Verbal d) t) v) ≡ carried_of (held w) (says (choice (Verbal d) t) w)
  carried_same =
      let x = says (choice (Verbal d) t) w in
      ap (carried_of (held v)) same_says ∙ part_same (carried x).start (carried x).len (carried_within (length (held w)) x inside)

  delivers_same : delivering (choice (Verbal d) t) v ≡ ended_at (delivering (choice (Verbal d) t) w) v.state.end
  delivers_same =
      ap (λ (x : World). deliver x.state (says (choice (Verbal d) t) v) (carried_of (held v) (says (choice (Verbal d) t) v)) x.slot_memory x.queue_memory) a.others
      ∙ (λ i. deliver (with_end w.state v.state.end) (same_says i) (carried_same i) w.slot_memory w.queue_memory)
      ∙ deliver_end w.state v.state.end (says (choice (Verbal d) t) w) (carried_of (held w) (says (choice (Verbal d) t) w)) w.slot_memory w.queue_memory

  turn_same : (x : Stretch) (u : World) → Consumes (choice (Verbal d) t) w x u → Via (Consumes (choice (Verbal d) t) v x) (Arrives u b)
  turn_same x u y =
      let c = choice (Verbal d) t in
      let k = once_went c w u x.answer.consumed y.goes in
      let r : (delivering c v).waits ≡ false = ap (λ (z : Delivery). z.waits) delivers_same ∙ k.0 in
      let m : x.answer ≡ says c v = y.said ∙ sym same_says in
      let n = (says c w).consumed in
      let l : n ≤ length (held w) = says_within c w in
      record {
        at = next c v;
        first = record {
          passed = h;
          said = m;
          front = y.front ∙ sym (ap (take x.answer.consumed) a.behind ∙ take-append-le x.answer.consumed (held w) b (omega (arith, k.1.1)));
          some = y.some;
          goes = ap (λ (z : Answer). went (next c v) z.consumed) m ∙ once_goes c v r;
        };
        rest = record {
          behind =
              next_left c v (passed c v h) r ∙ (λ i. drop (same_says i).consumed (a.behind i)) ∙ drop-append-le n (held w) b l
              ∙ ap (λ (z : List ℕ). z ++ b) (sym (ap held k.1.0 ∙ next_left c w g k.0));
          others =
              (λ i. world (with_end (delivers_same i).state (next c v).state.end) (next c v).buf (delivers_same i).slot_memory (delivers_same i).queue_memory)
              ∙ ap (λ (z : World). world (with_end z.state (next c v).state.end) (next c v).buf z.slot_memory z.queue_memory) (sym k.1.0);
        };
      }

  waits_same : Waits (choice (Verbal d) t) w → Waits (choice (Verbal d) t) v
  waits_same y =
      let x = says (choice (Verbal d) t) w in
      let p : payload_of (held v) (says (choice (Verbal d) t) v) ≡ payload_of (held w) x = ap (payload_of (held v)) same_says ∙ part_same x.payload.start x.payload.len inside.payload in
      record {
        passed = h;
        notice = ap (λ (z : Answer). is_notice z.kind) same_says ∙ y.notice;
        some = rw p y.some;
        most = rw p y.most;
        full = rw a.others y.full;
      }

  pub sooner : Sooner (choice (Verbal d) t) w b v
  sooner = record { came = a; same = same_says; goes = turn_same; waits = waits_same }

-- an advance by n hears the same first as one by n and the m bytes behind them
pub advance_sooner : (d : Digester) (t : List ℕ) (w : World) (n m : ℕ) → Passed (choice (Verbal d) t) w → n + m ≤ length w.buf - w.state.end → Settled t (held (committed w n)) (says (choice (Verbal d) t) (committed w n)) → AdvanceSooner (choice (Verbal d) t) w n m
advance_sooner d t w n m h l z =
    let c = choice (Verbal d) t in
    let g = passed c w h in
    let e : w.state.end + (n + m) ≡ w.state.end + n + m = omega arith in
    let f = commit_good c w g n (omega arith) in
    record {
      first = at_run c n w h (omega arith);
      both = at_run c (n + m) w h l;
      sooner =
          sooner d t (committed w n) (committed w (n + m)) (committed_bytes (committed w n) m) f (passes c (committed w (n + m)) (commit_good c w g (n + m) l))
          (record { behind = ap (λ (k : ℕ). take k w.buf) e ∙ take-add (w.state.end + n) m w.buf; others = refl })
          (settled_final d t (held (committed w n)) (says c (committed w n)) (answers_so d t (committed w n) f) z);
    }
