-- An advance and a write keep what they promise: no byte is lost, and nothing finished is left. From the laws of a run.
use Rattle.std.specs.Prelude.{◌≡◌, Bool, true, false, not, drop, leb, ltb, if◌then◌else◌}
use Rattle.std.proofs.Math.Path.{refl}
use Rattle.std.proofs.Common.{sym, ap, ◌∙◌, ⊎_elim, eq-or-lt_of_le, length-drop, take-add, drop-drop, eqb-true, leb-true, leb-false, ltb-false}
use mathlib.Core.List.{List, [], ◌∷◌, ◌++◌, append-nil, append_assoc, map}
use Prim.Native.Nat.{ℕ, zero, suc, ◌+◌, ◌-◌, ◌≤◌, ◌<◌, min}
use native.Mathlib.Omega.{arith}
use Rattle.std.proofs.Math.ListN.{length, take}
use Rattle.std.proofs.Math.Seq.{length-take-le}
use Rattle.text.specs.Logic.{false_true}
use Rattle.moves.specs.Moves.{put}
use Rattle.moves.specs.Laws.{put_length, put_held}
use Rattle.outcome.specs.Outcome.{Outcome, answered, refused}
use Rattle.outcome.specs.Laws.{ways}
use Rattle.selector.specs.Selector.{Choice}
use Rattle.turn.specs.Turn.{with_end, is_refused, World, world, held, Quiet}
use Rattle.turn.specs.Kept.{Good}
use Rattle.ingress.specs.Ingress.{After, refused_at, run, is_sound, under_table, checks, judged, unless_refused, committed, advanced, Writing, wrote, stopped, copied, after_copy, write_once, then_write, write_by, write_on, answering, written}
use Rattle.ingress.specs.Laws.{passed, bytes_of, once_taken}
use Rattle.ingress.specs.Story.{Stretch, Event, arrived, consumed, dropped, handed, freed, came_by, flat, Arrives, Story, Fed, Over, Waits, Keeps, committed_bytes, NothingLeft, took_of, NothingAfter}
use Rattle.ingress.specs.Kept.{story_bytes, Ends, run_ends}

-- stories one after the other
pub flat_append : {A : Type 0} (f : Event → List A) (l k : List Event) → flat f (l ++ k) ≡ flat f l ++ flat f k
unfolding flat
flat_append f [] k = refl
flat_append f (e ∷ l) k = ap (λ (y : List _). f e ++ y) (flat_append f l k) ∙ sym (append_assoc (f e) (flat f l) (flat f k))

pub story_append : (c : Choice) (l k : List Event) (w u v : World) → Story c w l u → Story c u k v → Story c w (l ++ k) v
story_append c [] k w u v a b = rw a b
story_append c (e ∷ l) k w u v a b = record { at = a.at; first = a.first; rest = story_append c l k a.at u v a.rest b }

fed_append : (l k : List Event) → Fed l → Fed k → Fed (l ++ k)
fed_append [] k a b = b
fed_append (arrived x ∷ l) k a b = fed_append l k a b
fed_append (consumed x ∷ l) k a b = fed_append l k a b
fed_append (dropped x ∷ l) k a b = absurd a
fed_append (handed x ∷ l) k a b = absurd a
fed_append (freed n ∷ l) k a b = absurd a

fed_turns : (l : List Stretch) → Fed (map consumed l)
fed_turns [] = tt
fed_turns (x ∷ l) = fed_turns l

-- turns add nothing to what only other events add to
pub flat_turns : {A : Type 0} (f : Event → List A) → ((x : Stretch) → f (consumed x) ≡ []) → (l : List Stretch) → flat f (map consumed l) ≡ []
unfolding flat
flat_turns f h [] = refl
flat_turns f h (x ∷ l) = ap (λ (y : List _). y ++ flat f (map consumed l)) (h x) ∙ flat_turns f h l

-- what is conserved
module _ (c : Choice) (w v : World) where
  over_by : (b : List ℕ) (l : List Event) → Story c w l v → Fed l → flat came_by l ≡ b → Over c w b v
  over_by b l s f e = record { events = l; story = s; fed = f; came = e; bytes = ap (λ (y : List ℕ). held w ++ y) (sym e) ∙ story_bytes c l w v s }

  over_run : (b : List ℕ) (u : World) → Arrives w b u → (l : List Stretch) → Story c u (map consumed l) v → Over c w b v
  unfolding flat
  over_run b u a l e =
      over_by b (arrived b ∷ map consumed l) (record { at = u; first = a; rest = e }) (fed_turns l)
      (ap (λ (y : List ℕ). b ++ y) (flat_turns came_by (λ x. refl) l) ∙ append-nil b)

  over_more : (b d : List ℕ) (u : World) → Over c w b u → Over c u d v → Over c w (b ++ d) v
  over_more b d u x y =
      over_by (b ++ d) (x.events ++ y.events) (story_append c x.events y.events w u v x.story y.story) (fed_append x.events y.events x.fed y.fed)
      (flat_append came_by x.events y.events ∙ (λ i. x.came i ++ y.came i))

over_none : (c : Choice) (w : World) → Over c w [] w
unfolding flat
over_none c w = over_by c w w [] [] refl tt refl

-- bytes arrive by a commit, and by a copy
module _ (c : Choice) (w : World) (g : Good c w) where
  good_at_lem : (b : List ℕ) (e : ℕ) → length b ≡ length w.buf → e ≤ length w.buf → Good c (world (with_end w.state e) b w.slot_memory w.queue_memory)
  good_at_lem b e l h =
      record { long = omega (arith, g.long); records = g.records; ruled = g.ruled; inside = omega arith; slot_fits = g.slot_fits; queue_fits = g.queue_fits }

  pub commit_good : (n : ℕ) → n ≤ length w.buf - w.state.end → Good c (committed w n)
  commit_good n h = good_at_lem w.buf (w.state.end + n) refl (omega (arith, g.inside))

  pub commit_arrives : (n : ℕ) → Arrives w (committed_bytes w n) (committed w n)
  commit_arrives n = record { behind = take-add w.state.end n w.buf; others = refl }

  module _ (p : List ℕ) (h : length p ≤ length w.buf - w.state.end) where
    pub copy_good : Good c (copied w p)
    copy_good = good_at_lem (put w.buf w.state.end p) (w.state.end + length p) (put_length w.buf w.state.end p) (omega (arith, g.inside))

    pub copy_arrives : Arrives w p (copied w p)
    copy_arrives = record { behind = put_held w.buf w.state.end p (omega (arith, g.inside)); others = refl }

-- refusals 1 to 3 have these numbers
abbrev number_of : {A : Type 0} → Outcome A → ℕ
number_of (answered x) = 0
number_of (refused n v) = n

low_by : (c : Choice) (a x : Bool) (r : Outcome ℕ) → c.rules ≡ r → (n : ℕ) (v : List ℕ) → ◌≡◌ {A = Outcome (Unit {0})} (refused n v) (if a then refused 1 [] else under_table r (if not x then refused 3 [] else answered tt)) → n < 5
unfolding under_table
low_by c false true (answered k) q n v e = let z : ◌≡◌ {A = ℕ} 0 1 = cc in absurd (omega arith)
low_by c false false (answered k) q n v e = omega (arith, ap number_of e)
low_by c false x (refused k u) q n v e = omega (arith, ap number_of e, c.two k u q)
low_by c true x r q n v e = omega (arith, ap number_of e)

-- a call that is refused 1 to 4 keeps everything
module _ {A : Type 0} (c : Choice) (w : World) (b : List ℕ) (n : ℕ) (v : List ℕ) where
  low_keeps : n < 5 → Keeps {A = A} c w b (refused_at n v w)
  low_keeps h =
      record { same = λ q. refl; over = λ q. absurd (omega (arith, eqb-true n 5 q)); waits = λ q x. absurd (omega (arith, eqb-true n 5 q)) }

  refused_keeps : refused n v ≡ judged c w → Keeps {A = A} c w b (refused_at n v w)
  unfolding checks
  refused_keeps e = low_keeps (low_by c (ltb 4096 (length w.buf)) (is_sound w.state (length w.buf) (length w.slot_memory) (length w.queue_memory)) c.rules refl n v e)

-- What an advance promises.
abbrev pub AdvanceKeeps : Choice → ℕ → World → After (Unit {0}) → Type 0
AdvanceKeeps c n w r = Keeps c w (committed_bytes w n) r × NothingLeft c r

module _ (c : Choice) (n : ℕ) (w : World) where
  run_keeps : (b : List ℕ) (u : World) → Arrives w b u → (r : After (Unit {0})) → Ends c u r → Keeps c w b r × NothingLeft c r
  run_keeps b u a r e =
      (record { same = λ q. absurd (false_true e.takes q); over = λ q. over_run c w r.left b u a e.turns e.story; waits = λ q. e.waits }, e.quiet)

  room_keeps : Good c w → AdvanceKeeps c n w (if ltb (length w.buf - w.state.end) n then refused_at 4 [] w else run c (committed w n))
  room_keeps g =
      ways (AdvanceKeeps c n w) (ltb (length w.buf - w.state.end) n)
      (λ q. (low_keeps c w (committed_bytes w n) 4 [] (omega arith), λ x. absurd (false_true refl x)))
      (λ q.
      let h = ltb-false (length w.buf - w.state.end) n q in
      run_keeps (committed_bytes w n) (committed w n) (commit_arrives c w g n) (run c (committed w n)) (run_ends c (committed w n) (commit_good c w g n h)))

  unless_refused_lem : (o : Outcome (Unit {0})) → o ≡ judged c w → AdvanceKeeps c n w (unless_refused o w (if ltb (length w.buf - w.state.end) n then refused_at 4 [] w else run c (committed w n)))
  unfolding unless_refused
  unless_refused_lem (answered x) q = room_keeps (passed c w q)
  unless_refused_lem (refused k v) q = (refused_keeps c w (committed_bytes w n) k v q, λ x. absurd (false_true refl x))

  pub advance_keeps : AdvanceKeeps c n w (advanced c n w)
  unfolding advanced
  advance_keeps = unless_refused_lem (judged c w) refl

  -- whatever equals the definition has all of the promise
  pub advance_whole : (r : After (Unit {0})) → r ≡ advanced c n w → (r ≡ advanced c n w) × AdvanceKeeps c n w r
  advance_whole r e = (e, rw e advance_keeps)

-- What a write tells, f k being its bytes where k are taken, of which j were taken before: they are conserved; where none more is taken nothing changes, else nothing finished is left.
pub record Took (c : Choice) (w : World) (b : List ℕ) (v : World) : Type 0 where
  pub over : Over c w b v
  pub good : Good c v

abbrev Tells : Choice → (ℕ → List ℕ) → ℕ → World → Writing → Type 0
Tells c f j w (wrote k v) = (j ≤ k) × Took c w (f k) v × (k ≡ j → v ≡ w) × (j < k → Quiet c v)
Tells c f j w (stopped k v) = (j ≤ k) × Took c w (f k) v × Waits c v

-- one copy
module _ (c : Choice) (p : List ℕ) (w : World) (g : Good c w) where
  copy_tells : (n : ℕ) → 1 ≤ n → (u : World) → Arrives w (take n p) u → (r : After (Unit {0})) → Ends c u r → Tells c (λ k. take k p) 0 w (after_copy r n)
  copy_tells n h u a r e =
      let o : Took c w (take n p) r.left = record { over = over_run c w r.left (take n p) u a e.turns e.story; good = e.good } in
      ways (Tells c (λ k. take k p) 0 w) (is_refused r.said)
      (λ q. (omega arith, o, e.waits q))
      (λ q. (omega arith, o, λ z. absurd (omega arith), λ z. e.quiet q))

  once_tells : Tells c (λ k. take k p) 0 w (write_once c p w)
  unfolding write_once
  once_tells =
      let n = min (length p) (length w.buf - w.state.end) in
      let l : length (take n p) ≡ n = length-take-le n p (omega arith) in
      ways (Tells c (λ k. take k p) 0 w) (leb 1 n)
      (λ q. copy_tells n (leb-true 1 n q) (copied w (take n p)) (copy_arrives c w g (take n p) (omega arith)) (run c (copied w (take n p))) (run_ends c (copied w (take n p)) (copy_good c w g (take n p) (omega arith))))
      (λ q. (omega arith, record { over = over_none c w; good = g }, λ z. refl, λ z. absurd (omega arith)))

-- the piece from j on
abbrev from : List ℕ → ℕ → ℕ → List ℕ
from p j k = take (k - j) (drop j p)

from_some : (p : List ℕ) (j n : ℕ) → take n (drop j p) ≡ from p j (j + n)
from_some p j n = let e : n ≡ j + n - j = omega arith in ap (λ (k : ℕ). take k (drop j p)) e

from_more : (p : List ℕ) (j n k : ℕ) → j + n ≤ k → take n (drop j p) ++ from p (j + n) k ≡ from p j k
from_more p j n k h =
    let e : n + (k - (j + n)) ≡ k - j = omega arith in
    ap (λ (y : List ℕ). take n (drop j p) ++ take (k - (j + n)) y) (sym (drop-drop n j p)) ∙ sym (take-add n (k - (j + n)) (drop j p)) ∙ ap (λ (y : ℕ). take y (drop j p)) e

-- after a copy of n bytes, the rest
module _ (c : Choice) (p : List ℕ) (j n : ℕ) (w u : World) (a : Took c w (take n (drop j p)) u) where
  took_more : (k : ℕ) (v : World) → j + n ≤ k → Took c u (from p (j + n) k) v → Took c w (from p j k) v
  took_more k v h b = record { over = rw (sym (from_more p j n k h)) (over_more c w v (take n (drop j p)) (from p (j + n) k) u a.over b.over); good = b.good }

  tells_more : 1 ≤ n → Quiet c u → (r : Writing) → Tells c (from p (j + n)) (j + n) u r → Tells c (from p j) j w r
  tells_more h z (wrote k v) (y, b, i, f) = (
    omega arith,
    took_more k v y b,
    λ q. absurd (omega arith),
    λ q. ⊎_elim (λ e. rw (i (sym e)) z) f (eq-or-lt_of_le y),
  )
  tells_more h z (stopped k v) (y, b, f) = (omega arith, took_more k v y b, f)

module _ (c : Choice) (p : List ℕ) (j : ℕ) (w : World) (f : ℕ → World → Writing) (h : (u : World) (n : ℕ) → Good c u → 1 ≤ n → n ≤ length p - j → Tells c (from p (j + n)) (j + n) u (f (j + n) u)) where
  on_tells : (n : ℕ) (u : World) → n ≤ length p - j → Tells c (λ k. take k (drop j p)) 0 w (wrote n u) → Tells c (from p j) j w (if leb 1 n then f (j + n) u else wrote j u)
  on_tells n u l (x, b, i, z) =
      ways (Tells c (from p j) j w) (leb 1 n)
      (λ q. let o = leb-true 1 n q in tells_more c p j n w u b o (z o) (f (j + n) u) (h u n b.good o l))
      (λ q.
      let y : n ≡ 0 = omega (arith, leb-false 1 n q) in
      let e : take n (drop j p) ≡ from p j j = let d : n ≡ j - j = omega arith in ap (λ (k : ℕ). take k (drop j p)) d in
      (omega arith, rw (sym e) b, λ x. i y, λ x. absurd (omega arith)))

  then_tells : (s : Writing) → bytes_of s ≤ length p - j → Tells c (λ k. take k (drop j p)) 0 w s → Tells c (from p j) j w (then_write s j f)
  unfolding then_write
  then_tells (wrote n u) l e = on_tells n u l e
  then_tells (stopped n u) l (x, b, i) = (omega arith, rw (sym (from_some p j n)) b, i)

write_by_tells : (m : ℕ) (c : Choice) (p : List ℕ) (j : ℕ) (w : World) → Good c w → length p - j < m → Tells c (from p j) j w (write_by m c p j w)
unfolding write_by
write_by_tells zero c p j w g h = absurd (omega arith)
write_by_tells (suc m) c p j w g h =
    then_tells c p j w (write_by m c p) (λ u n k o l. write_by_tells m c p (j + n) u k (omega arith))
    (write_once c (drop j p) w) (omega (arith, once_taken c (drop j p) w, length-drop j p)) (once_tells c (drop j p) w g)

-- What a write promises.
abbrev pub WriteKeeps : Choice → List ℕ → World → After ℕ → Type 0
WriteKeeps c p w r = Keeps c w (take (took_of r.said) p) r × NothingAfter c r

module _ (c : Choice) (p : List ℕ) (w : World) where
  whole_piece : (n : ℕ) → from p 0 n ≡ take n p
  whole_piece n = let e : n - 0 ≡ n = omega arith in ap (λ (k : ℕ). take k p) e

  answer_keeps : (r : Writing) → Tells c (from p 0) 0 w r → WriteKeeps c p w (answering r)
  answer_keeps (wrote n v) (x, b, i, z) = (
    record { same = λ q. absurd (false_true refl q); over = λ q. rw (sym (whole_piece n)) b.over; waits = λ q y. absurd (false_true y refl) },
    λ o q. z o,
  )
  answer_keeps (stopped n v) (x, b, z) = (
    record { same = λ q. absurd (false_true refl q); over = λ q. rw (sym (whole_piece n)) b.over; waits = λ q y. z },
    λ o q. absurd (false_true refl q),
  )

  write_unless : (o : Outcome (Unit {0})) → o ≡ judged c w → WriteKeeps c p w (unless_refused o w (answering (write_on c p 0 w)))
  unfolding unless_refused write_on
  write_unless (answered x) q =
      answer_keeps (write_by (suc (length p - 0)) c p 0 w) (write_by_tells (suc (length p - 0)) c p 0 w (passed c w q) (omega arith))
  write_unless (refused n v) q = (refused_keeps c w (take (took_of (refused n v)) p) n v q, λ o x. absurd (false_true refl x))

  pub write_keeps : WriteKeeps c p w (written c p w)
  unfolding written
  write_keeps = write_unless (judged c w) refl

  -- whatever equals the definition has all of the promise
  pub write_whole : (r : After ℕ) → r ≡ written c p w → (r ≡ written c p w) × WriteKeeps c p w r
  write_whole r e = (e, rw e write_keeps)
