-- The answers that are final: an Ok by an OK line with no `CS` record, and a notice at the first line start (`settled_final`); with no `CS` record and room for an OK line
-- there are no others (`final_settled`). By the input alone: with no `CS` record, where an OK line stands, the answer is one of the two (`line_settled`); where an ended
-- notice stands at the first line start, it is that (`first_notice`).
use Rattle.std.proofs.Math.Path.{◌≡◌, refl, ap}
use Rattle.std.proofs.Common.{Option, Some, None, sym, ◌∙◌, ⊎_elim, arith, length-append}
use Rattle.std.proofs.Math.Bool.{true, false}
use Rattle.std.specs.Prelude.{Bool, ℕ, ◌+◌, ◌-◌, ◌≤◌, length, drop, ltb, if◌then◌else◌}
use mathlib.Core.List.{List, [], ◌++◌, append-nil}
use Rattle.std.proofs.Math.Seq.{drop-append_seam}
use Rattle.outcome.specs.Outcome.{Outcome, answered, refused}
use Rattle.text.specs.Bytes.{bytes}
use Rattle.text.specs.Logic.{false_true}
use Rattle.text.specs.Text.{begins, stands}
use Rattle.text.specs.Laws.{found_at, stands_behind, stands_fits, stands_front}
use Rattle.table.specs.Table.{of_mark, tokens, ruling}
use Rattle.table.specs.Laws.{Texts, mark_texts, good_tokens}
use Rattle.table.specs.declared.Mark.TheVariants as mark
use Rattle.lines.specs.Lines.{crlf, fixed_text}
use Rattle.lines.specs.declared.Digester.{Digester}
use Rattle.lines.specs.declared.Fixed.TheVariants as fixed
use Rattle.answers.specs.Answer.{is_notice, Within}
use Rattle.answers.specs.declared.Kind.TheVariants as kind
use Rattle.answers.specs.declared.Answer.{Answer}
use Rattle.items.specs.Rules.{skipped, notices}
use Rattle.digest.specs.Items.{some_map, some_any, some_texts}
use Rattle.digest.specs.Digest.{digest_in, under_table}
use Rattle.digest.specs.Digest as verbose
use Rattle.digest.specs.Calls.{digest_is}
use Rattle.digest.specs.Finished.{AnyOf, LineStart, at_crlf, only_one, NoticeEnded}
use Rattle.digest.specs.Sound.{EndedBy, BrokenBy, notices_told}
use Rattle.digest.specs.Step.{digest_within, done_is}
use Rattle.digest.specs.Starts.{start_is}
use Rattle.selector.specs.Selector.{digest}
use Rattle.selector.specs.declared.Selector.{Selector}
use Rattle.selector.specs.declared.Selector.TheVariants.{Verbal}
use Rattle.later.specs.Behind.{FirstOk, first_ok, noticed, ok_done, notice_stays, line_stays}
use Rattle.later.specs.Begun.{NoticeLine, line_of, IfNotice, notices_begun, first_told, notices_notice, ended_heard}
use Rattle.later.specs.Later.{Final, NoSuccess, FirstStart, NoticeFirst, Settled, by_ok, by_notice}

-- the first line start is where buf begins
start_skip : (s : List ℕ) (p : ℕ) → FirstStart s p → p ≡ skipped s
start_skip s p w =
    ⊎_elim
    (λ (h : p ≡ skipped s). h)
    (λ (h : (skipped s + 2 ≤ p) × ((stands crlf s p ≡ true) × (stands crlf s (skipped s) ≡ true))). absurd (omega (arith, h.0, w.first (skipped s) (at_crlf h.1.1))))
    (start_is s p w.start)

skip_first : (s : List ℕ) → stands crlf s (skipped s) ≡ true → FirstStart s (skipped s)
skip_first s h = record { start = at_crlf h; first = λ q w. ⊎_elim (λ (e : q ≡ skipped s). omega arith) (λ (e : (skipped s + 2 ≤ q) × ((stands crlf s q ≡ true) × (stands crlf s (skipped s) ≡ true))). omega (arith, e.0)) (start_is s q w) }

-- with the refusals: an answered digest has a good table and at most 4,096 bytes
record Ruled (d : Digester) (t s : List ℕ) (a : Answer) : Type 0 where
  records : ℕ
  ruled : ruling t ≡ answered records
  is : digest_in d (tokens t) s ≡ a

module _ (d : Digester) (t s : List ℕ) (a : Answer) (h : digest (Verbal d) t s ≡ answered a) where
  told : Ruled d t s a
  unfolding verbose.digest under_table
  told = go (ltb 4096 (length s)) (ruling t) refl h
    where
      go : (b : Bool) (r : Outcome ℕ) → ruling t ≡ r → (if b then refused 1 [] else under_table r d t s) ≡ answered a → Ruled d t s a
      go true r p g = let z : ◌≡◌ {A = ℕ} 0 1 = cc in absurd (omega arith)
      go false (answered n) p g = record { records = n; ruled = p; is = let z : digest_in d (tokens t) s ≡ a = cc in z }
      go false (refused n v) p g = let z : ◌≡◌ {A = ℕ} 0 1 = cc in absurd (omega arith)

  good : Texts (tokens t)
  good = (good_tokens t told.records told.ruled).texts

  final : ((v : List ℕ) → digest_in d (tokens t) (s ++ v) ≡ digest_in d (tokens t) s) → Final (Verbal d) t s a
  final f v l = sym (digest_is d t (s ++ v) (rw length-append l) told.records (sym told.ruled) a (sym (f v ∙ told.is)))

  begun : notices (of_mark mark.Notice 0 (tokens t)) s (skipped s) ≡ Some a → IfNotice s a
  begun q = rw q at (notices_begun s (of_mark mark.Notice 0 (tokens t)) (mark_texts mark.Notice 0 (tokens t) good))

  module _ (w : NoticeFirst s a) where
    rule_two : notices (of_mark mark.Notice 0 (tokens t)) s (skipped s) ≡ Some a
    rule_two = first_told d (tokens t) good s a told.is (ap is_notice w.notice) (w.begins ∙ ap (λ (k : ℕ). k + 2) (start_skip s w.p w.start))

    notice_final : Final (Verbal d) t s a
    notice_final =
        let b = (begun rule_two (ap is_notice w.notice)).line in
        final (λ v. notice_stays d (tokens t) good s v b.here b.q (omega (arith, b.far)) b.there a rule_two)

    -- A notice of demand 3 stands there, and ends at the consumed count.
    pub notice_held : AnyOf (λ x. NoticeEnded x.text (drop w.p s) (a.consumed - w.p)) (of_mark mark.Notice 0 (tokens t))
    notice_held =
        let l = of_mark mark.Notice 0 (tokens t) in
        ⊎_elim
        (λ (h : AnyOf (EndedBy d (tokens t) good s (skipped s) a) l).
        some_map (EndedBy d (tokens t) good s (skipped s) a) (λ x. NoticeEnded x.text (drop w.p s) (a.consumed - w.p)) (λ x v. rw (start_skip s w.p w.start) v.0) l h)
        (λ (h : AnyOf (BrokenBy d (tokens t) good s (skipped s) a) l).
        absurd (some_any (BrokenBy d (tokens t) good s (skipped s) a) ⊥ (λ x v. false_true (ap is_notice w.notice) (ap (λ (y : Answer). is_notice y.kind) v.1)) l h))
        (notices_told d (tokens t) good s (skipped s) l a rule_two)

  -- R-13: an Ok by an OK line with no `CS` record, and a notice at the first line start.
  pub settled_final : Settled t s a → Final (Verbal d) t s a
  settled_final (by_ok none w) = final (λ v. line_stays d (tokens t) good s v none (a.consumed - 6) w.line)
  settled_final (by_notice w) = notice_final w

  -- what rule 2 answers, with CRLF where buf begins and again behind it
  noticed_first : (q : ℕ) → stands crlf s (skipped s) ≡ true → skipped s + 2 ≤ q → stands crlf s q ≡ true → (b : Answer) → notices (of_mark mark.Notice 0 (tokens t)) s (skipped s) ≡ Some b → NoticeFirst s a
  noticed_first q here far there b h =
      let z : b ≡ a = sym (done_is d (tokens t) s b (noticed d (tokens t) s (skipped s) b h)) ∙ told.is in
      let k : b.kind ≡ kind.Notice = rw h at (notices_notice s here q far there (of_mark mark.Notice 0 (tokens t)) (mark_texts mark.Notice 0 (tokens t) good)) in
      let v : a.kind ≡ kind.Notice = ap (λ (x : Answer). x.kind) (sym z) ∙ k in
      record { p = skipped s; notice = v; start = skip_first s here; begins = (begun (h ∙ ap Some z) (ap is_notice v)).place }

  -- An ended notice of demand 3 at the first line start is answered as one, whatever else the input holds.
  pub first_notice : (p n : ℕ) → FirstStart s p → AnyOf (λ x. NoticeEnded x.text (drop p s) n) (of_mark mark.Notice 0 (tokens t)) → NoticeFirst s a
  first_notice p n w h = go (notices (of_mark mark.Notice 0 (tokens t)) s (skipped s)) refl
    where
      go : (r : Option Answer) → notices (of_mark mark.Notice 0 (tokens t)) s (skipped s) ≡ r → NoticeFirst s a
      go (Some b) q =
          let i : AnyOf (λ x. NoticeEnded x.text (drop (skipped s) s) n) (of_mark mark.Notice 0 (tokens t)) = rw (start_skip s p w) at h in
          let m = some_texts (λ x. NoticeEnded x.text (drop (skipped s) s) n) (NoticeLine s (skipped s + n)) (λ x y v. line_of s x.text y n v) (of_mark mark.Notice 0 (tokens t)) (mark_texts mark.Notice 0 (tokens t) good) i in
          noticed_first m.q m.here (omega (arith, m.far)) m.there b q
      go None q = absurd (ended_heard d (tokens t) good s (skipped s) n (of_mark mark.Notice 0 (tokens t)) (rw (start_skip s p w) at h) q)

  -- With no `CS` record, what is answered where an OK line stands anywhere in the input is one of the two.
  pub line_settled : NoSuccess t → (j : ℕ) → stands (fixed_text fixed.Ok) s j ≡ true → Settled t s a
  line_settled none j g = go (first_ok s j g) (notices (of_mark mark.Notice 0 (tokens t)) s (skipped s)) refl
    where
      go : FirstOk s → (r : Option Answer) → notices (of_mark mark.Notice 0 (tokens t)) s (skipped s) ≡ r → Settled t s a
      go w (Some b) q = by_notice (noticed_first (w.k + 4) w.here (omega (arith, w.after)) w.there b q)
      go w None q =
          let z = done_is d (tokens t) s _ (ok_done d (tokens t) none s (skipped s) w.k w.found q) in
          let i : w.k + 6 - 6 ≡ w.k = omega arith in
          by_ok none (rw (sym told.is ∙ z) (record { ok = refl; room = omega arith; line = ap (stands (fixed_text fixed.Ok) s) i ∙ (found_at (fixed_text fixed.Ok) s (skipped s) w.k w.found).here }))

-- a final answer is the digest's now
pub final_now : (x : Selector) (t s : List ℕ) (a : Answer) → Final x t s a → length s ≤ 4096 → digest x t s ≡ answered a
final_now x t s a f l = ap (digest x t) (sym (append-nil s)) ∙ f [] (omega arith)

-- The other way: with an OK line behind it an answer that isn't one of the two is another.
module _ (s : List ℕ) where
  ok_behind : stands (fixed_text fixed.Ok) (s ++ fixed_text fixed.Ok) (length s) ≡ true
  unfolding stands begins
  ok_behind = ap (begins (fixed_text fixed.Ok)) (drop-append_seam s (fixed_text fixed.Ok))

  front_start : (p : ℕ) → p + 2 ≤ length s → FirstStart (s ++ fixed_text fixed.Ok) p → FirstStart s p
  front_start p l w =
      let c = sym (stands_behind crlf s (fixed_text fixed.Ok) p l) ∙ at w.start in
      record { start = at_crlf c; first = λ q v. go c q v }
    where
      at : LineStart (s ++ fixed_text fixed.Ok) p → stands crlf (s ++ fixed_text fixed.Ok) p ≡ true
      at (at_crlf c) = c
      at (only_one h b m n) = absurd (false_true (stands_front crlf (bytes "OK\r\n") (s ++ fixed_text fixed.Ok) (length s) ok_behind) (h (length s)))

      go : stands crlf s p ≡ true → (q : ℕ) → LineStart s q → p ≤ q
      go c q (at_crlf h) = w.first q (at_crlf (stands_behind crlf s (fixed_text fixed.Ok) q (stands_fits crlf s q (omega arith) h) ∙ h))
      go c q (only_one h b m n) = absurd (false_true c (h p))

  front_settled : (t : List ℕ) (a : Answer) → a.payload.start + a.payload.len ≤ a.consumed → a.consumed ≤ length s → Settled t (s ++ fixed_text fixed.Ok) a → Settled t s a
  front_settled t a p l (by_ok none w) = by_ok none (record { ok = w.ok; room = w.room; line = sym (stands_behind (fixed_text fixed.Ok) s (fixed_text fixed.Ok) (a.consumed - 6) (omega (arith, w.room))) ∙ w.line })
  front_settled t a p l (by_notice w) = by_notice (record { p = w.p; notice = w.notice; start = front_start w.p (omega (arith, w.begins)) w.start; begins = w.begins })

-- With no `CS` record and room for an OK line, an answer that is final is one of the two.
pub final_settled : (d : Digester) (t s : List ℕ) (a : Answer) → NoSuccess t → length s ≤ 4090 → Final (Verbal d) t s a → Settled t s a
final_settled d t s a none l f =
    let h = final_now (Verbal d) t s a f (omega arith) in
    let w : Within (length s) a = rw (told d t s a h).is at (digest_within d (tokens t) s) in
    front_settled s t a w.payload w.all (line_settled d t (s ++ fixed_text fixed.Ok) a (f (fixed_text fixed.Ok) (omega arith)) none (length s) (ok_behind s))
