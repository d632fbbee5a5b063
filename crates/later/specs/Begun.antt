-- Where a notice begins: one that is heard where buf begins has its payload two bytes behind that, and no other notice has (`first_told`); an ended one there is heard
-- (`ended_heard`), and as a notice (`notices_notice`).
use Rattle.std.proofs.Math.Path.{◌≡◌, refl, ap}
use Rattle.std.proofs.Common.{Option, Some, None, sym, ◌∙◌, inl, inr, arith, get_or-take, get_or-drop, ne_eqb}
use Rattle.std.proofs.Math.Bool.{true, false}
use Rattle.std.specs.Prelude.{Bool, get_or, drop, if◌then◌else◌}
use mathlib.Core.List.{List, [], ◌∷◌}
use Prim.Native.Nat.{ℕ, ◌+◌, ◌-◌, ◌≤◌, ◌<◌, zero, suc}
use Rattle.std.proofs.Math.Nat.{add-zero}
use Rattle.std.proofs.Math.ListN.{length, take, length-drop}
use Rattle.outcome.specs.Laws.{ways}
use Rattle.text.specs.Logic.{false_true}
use Rattle.text.specs.Text.{is_blank, past, trimmed_part, stands, among, blanks, keep}
use Rattle.text.specs.Laws.{stands_fits, stands_byte, stands_get_d, past_is, stands_drop, keep_passes, trim_is, rest, length_part}
use Rattle.text.specs.declared.Blanks.TheVariants as sets
use Rattle.table.specs.Table.{is_text, Entry, Token, of_mark}
use Rattle.table.specs.Laws.{EntryTexts, text_byte, Texts, mark_texts, text_some, text_says}
use Rattle.table.specs.declared.Mark.TheVariants as mark
use Rattle.lines.specs.Lines.{crlf}
use Rattle.lines.specs.declared.Digester.{Digester}
use Rattle.parser.specs.Parser.{line_ending, notice_at}
use Rattle.parser.specs.Moved.{shift_notice, notice_moved}
use Rattle.parser.specs.declared.Notice.{Notice}
use Rattle.parser.specs.declared.Notice.TheVariants as notice
use Rattle.answers.specs.Answer.{is_found, is_notice, nothing, placed, shift}
use Rattle.answers.specs.Laws.{placed_some}
use Rattle.answers.specs.declared.Kind.TheVariants as kind
use Rattle.answers.specs.declared.Answer.{Answer}
use Rattle.items.specs.Laws.{next_both, done_next}
use Rattle.items.specs.Rules.{or_else, skipped, heard, notices, successes, prompts, errors, tried}
use Rattle.digest.specs.Items.{crlf_lf, stands_here}
use Rattle.digest.specs.Digest.{retries, again, after, digest_in}
use Rattle.digest.specs.Finished.{AnyOf, NoticeEnd, crlf_end, colon, NoticeEnded}
use Rattle.digest.specs.Numbered.{Below, others_below}
use Rattle.digest.specs.Position.{ended_told}
use Rattle.digest.specs.Step.{TriedHas, either_has, digest_step, done_is}
use Rattle.digest.specs.Sound.{notice_front}
use Rattle.digest.specs.Starts.{first_crlf}
use Rattle.later.specs.Behind.{ending_two, finished, noticed}

-- An ended notice where buf begins: CRLF stands there and where the line ends, and the text right behind the first.
pub record NoticeLine (s : List ℕ) (end : ℕ) : Type 0 where
  pub here : stands crlf s (skipped s) ≡ true
  pub q : ℕ
  pub far : skipped s + 2 < q
  pub there : stands crlf s q ≡ true
  pub ends : end ≡ q + 2
  pub text : is_blank sets.Trim (get_or s (skipped s + 2) 0) ≡ false

text_front : (x : List ℕ) → is_text x ≡ true → is_blank sets.Trim (get_or x 0 0) ≡ false
unfolding is_blank among blanks
text_front x t =
    let w = text_says x t in
    let b = text_byte x t 0 w.0.0 in
    rw (ne_eqb (get_or x 0 0) 32 w.1.0.0, ne_eqb (get_or x 0 0) 9 (λ q. omega (arith, b.0)), ne_eqb (get_or x 0 0) 10 (λ q. omega (arith, b.0)), ne_eqb (get_or x 0 0) 12 (λ q. omega (arith, b.0)), ne_eqb (get_or x 0 0) 13 (λ q. omega (arith, b.0)))

module _ (s x : List ℕ) (t : is_text x ≡ true) where
  line_at : (n j : ℕ) → NoticeEnded x (drop (skipped s) s) n → stands crlf (drop (skipped s) s) j ≡ true → line_ending (drop (skipped s) s) 0 + length x ≤ j → n ≡ j + 2 → NoticeLine s (skipped s + n)
  line_at n j w c l z =
      let e = skipped s in
      let u = drop e s in
      let k : stands crlf s (e + j) ≡ true = sym (stands_drop crlf s e j) ∙ c in
      let h = (first_crlf s (e + j) k).1 in
      let m : 2 ≡ line_ending u 0 = ending_two u 0 (sym (stands_here crlf s e) ∙ h) in
      let y : stands x u 2 ≡ true = ap (stands x u) m ∙ w.text in
      let f : get_or s (e + 2) 0 ≡ get_or x 0 0 = sym (get_or-drop e s 2 0) ∙ stands_get_d x u 2 0 y (text_some x t) in
      record { here = h; q = e + j; far = omega (arith, text_some x t); there = k; ends = omega arith; text = ap (is_blank sets.Trim) f ∙ text_front x t }

  pub line_of : (n : ℕ) → NoticeEnded x (drop (skipped s) s) n → NoticeLine s (skipped s + n)
  line_of n w = go w.ended
    where
      go : NoticeEnd (drop (skipped s) s) (line_ending (drop (skipped s) s) 0 + length x) n → NoticeLine s (skipped s + n)
      go (crlf_end c z) = line_at n (line_ending (drop (skipped s) s) 0 + length x) w c (omega arith) z
      go (colon b q l c f z) = line_at n q w c (omega arith) z

  ended_line : (end : ℕ) → notice_at x s (skipped s) ≡ notice.Ended end → NoticeLine s end
  unfolding shift_notice
  ended_line end h = go (notice_at x (drop (skipped s) s) 0) refl (sym (notice_moved x s (skipped s)) ∙ h)
    where
      go : (r : Notice) → notice_at x (drop (skipped s) s) 0 ≡ r → shift_notice (skipped s) r ≡ notice.Ended end → NoticeLine s end
      go (notice.Ended n) p g = let z : skipped s + n ≡ end = cc in rw (sym z) (line_of n (ended_told x (drop (skipped s) s) n p))
      go notice.Unfinished p g = let z : ◌≡◌ {A = ℕ} 0 1 = cc in absurd (omega arith)
      go notice.Nothing p g = let z : ◌≡◌ {A = ℕ} 0 1 = cc in absurd (omega arith)

-- A part that begins with CRLF and no blank behind it is trimmed to what stands there.
module _ (s : List ℕ) (i k : ℕ) (h : stands crlf s i ≡ true) (f : is_blank sets.Trim (get_or s (i + 2) 0) ≡ false) (l : i + 2 < k) (g : k ≤ length s) where
  part_byte : (j : ℕ) → j < k - i → get_or (take (k - i) (drop i s)) j 0 ≡ get_or s (i + j) 0
  part_byte j m = get_or-take (k - i) (drop i s) j 0 m ∙ get_or-drop i s j 0

  front_blank : (j : ℕ) → j < 2 → is_blank sets.Trim (get_or (take (k - i) (drop i s)) j 0) ≡ true
  unfolding is_blank among blanks
  front_blank zero m = rw (part_byte 0 (omega arith), add-zero, (stands_byte 13 (10 ∷ []) s i h).1.0)
  front_blank (suc zero) m = rw (part_byte 1 (omega arith), crlf_lf s i h)
  front_blank (suc (suc j)) m = absurd (omega arith)

  trimmed_front : ((trimmed_part s i k).start ≡ i + 2) × ((trimmed_part s i k).len ≡ 0 → ⊥)
  unfolding trimmed_part
  trimmed_front =
      let u = take (k - i) (drop i s) in
      let n = length_part s i k (omega arith) g in
      let b = ap (is_blank sets.Trim) (part_byte 2 (omega arith)) ∙ f in
      let p : past (is_blank sets.Trim) u 0 ≡ 2 = past_is (is_blank sets.Trim) u 0 2 (omega arith) (omega (arith, n)) (λ j x y. front_blank j y) (λ y. b) in
      let t = trim_is (is_blank sets.Trim) u 2 (keep (is_blank sets.Trim) (take (length u - 2) (drop 2 u))) (sym p) refl in
      let z : length (drop 2 u) ≡ length u - 2 = length-drop 2 u in
      rw (sym t, rest u 2)
      (refl, λ y. false_true (ap (is_blank sets.Trim) (sym (get_or-drop 2 u 0 0)) ∙ keep_passes (is_blank sets.Trim) (drop 2 u) 0 (omega arith) (omega (arith, n))) b)

-- So a notice that is heard where buf begins has its payload two bytes behind that.
pub record Begun (s : List ℕ) (a : Answer) : Type 0 where
  pub line : NoticeLine s a.consumed
  pub place : a.payload.start ≡ skipped s + 2

abbrev pub IfNotice : List ℕ → Answer → Type 0
IfNotice s a = is_notice a.kind ≡ true → Begun s a

heard_begun : (s : List ℕ) (x : Entry) → is_text x.text ≡ true → (r : Notice) → notice_at x.text s (skipped s) ≡ r → TriedHas (IfNotice s) (heard r x.number s (skipped s))
unfolding heard
heard_begun s x t (notice.Ended end) p =
    let w = ended_line s x.text t end p in
    let f = stands_fits crlf s w.q (omega arith) w.there in
    let b = trimmed_front s (skipped s) end w.here w.text (omega (arith, w.far, w.ends)) (omega (arith, w.ends)) in
    λ z. record { line = w; place = sym (placed_some (trimmed_part s (skipped s) end).len (trimmed_part s (skipped s) end).start b.1) ∙ b.0 }
heard_begun s x t notice.Unfinished p = λ z. absurd (false_true z refl)
heard_begun s x t notice.Nothing p = tt

pub notices_begun : (s : List ℕ) (l : List Entry) → EntryTexts l → TriedHas (IfNotice s) (notices l s (skipped s))
unfolding notices
notices_begun s [] w = tt
notices_begun s (x ∷ l) w =
    either_has (IfNotice s) (heard (notice_at x.text s (skipped s)) x.number s (skipped s)) (notices l s (skipped s)) (heard_begun s x w.0 (notice_at x.text s (skipped s)) refl) (notices_begun s l w.1)

has_map : (P Q : Answer → Type 0) → ((a : Answer) → P a → Q a) → (t : Option Answer) → TriedHas P t → TriedHas Q t
has_map P Q f (Some a) h = f a h
has_map P Q f None h = tt

module _ (d : Digester) (ts : List Token) (good : Texts ts) where
  -- Rules 3 to 5 give no notice, and the retry none whose payload stands so far in front.
  abbrev others : List ℕ → ℕ → Option Answer
  others s e = or_else (successes d (of_mark mark.Success 0 ts) s e) (or_else (prompts (of_mark mark.Prompt 0 ts) s e) (errors (of_mark mark.Error 0 ts) s e))

  tried_begun : (s : List ℕ) → TriedHas (IfNotice s) (tried d ts s (skipped s))
  unfolding tried
  tried_begun s =
      either_has (IfNotice s) (notices (of_mark mark.Notice 0 ts) s (skipped s)) _ (notices_begun s (of_mark mark.Notice 0 ts) (mark_texts mark.Notice 0 ts good))
      (has_map (Below 0) (IfNotice s) (λ a h z. absurd (omega (arith, h z))) (others s (skipped s)) (others_below 0 s (skipped s) d ts))

  abbrev Further : Answer → Type 0
  Further a = is_notice a.kind ≡ true → (a.payload.len ≡ 0 → ⊥) → 1 ≤ a.payload.start

  again_further : (e : ℕ) (r : Answer) → Further (again e r)
  unfolding again shift
  again_further e r = ways Further (is_found r) (λ q z y. omega (arith, placed_some r.payload.len (r.payload.start + (e + 2)) y)) (λ q z. absurd (false_true z refl))

  further : (s : List ℕ) → Further (digest_in d ts s)
  unfolding after
  further s = rw (digest_step d ts s) (go (tried d ts s (skipped s)) (tried_begun s))
    where
      go : (r : Option Answer) → TriedHas (IfNotice s) r → Further (after s (digest_in d ts) (skipped s) r)
      go (Some a) w = λ z y. omega (arith, (w z).place)
      go None w = ways Further (retries s (skipped s)) (λ q. again_further (skipped s) (digest_in d ts (drop (skipped s + 2) s))) (λ q z. absurd (false_true z refl))

  -- where rule 2 doesn't answer
  module _ (s : List ℕ) (h : notices (of_mark mark.Notice 0 ts) s (skipped s) ≡ None) where
    no_notice : TriedHas (Below 0) (tried d ts s (skipped s))
    unfolding tried or_else
    no_notice = rw h (others_below 0 s (skipped s) d ts)

    shift_elsewhere : (r : Answer) → Further r → is_notice r.kind ≡ true → (n : ℕ) → r.payload.len ≡ n → placed n (r.payload.start + (skipped s + 2)) ≡ skipped s + 2 → ⊥
    shift_elsewhere r f z zero l p = omega arith
    shift_elsewhere r f z (suc n) l p = omega (arith, f z (λ y. omega arith))

    again_elsewhere : (r : Answer) → Further r → is_notice (again (skipped s) r).kind ≡ true → (again (skipped s) r).payload.start ≡ skipped s + 2 → ⊥
    unfolding again shift
    again_elsewhere r f = go (is_found r)
      where
        go : (b : Bool) → is_notice (if b then shift (skipped s + 2) r else nothing (skipped s)).kind ≡ true → (if b then shift (skipped s + 2) r else nothing (skipped s)).payload.start ≡ skipped s + 2 → ⊥
        go true z p = shift_elsewhere r f z r.payload.len refl p
        go false z p = false_true z refl

    elsewhere : is_notice (digest_in d ts s).kind ≡ true → (digest_in d ts s).payload.start ≡ skipped s + 2 → ⊥
    unfolding after
    elsewhere = rw (digest_step d ts s) (go (tried d ts s (skipped s)) no_notice)
      where
        go : (r : Option Answer) → TriedHas (Below 0) r → is_notice (after s (digest_in d ts) (skipped s) r).kind ≡ true → (after s (digest_in d ts) (skipped s) r).payload.start ≡ skipped s + 2 → ⊥
        go (Some a) w = λ z p. omega (arith, w z)
        go None w =
            ways (λ (a : Answer). is_notice a.kind ≡ true → a.payload.start ≡ skipped s + 2 → ⊥) (retries s (skipped s))
            (λ q. again_elsewhere (digest_in d ts (drop (skipped s + 2) s)) (further (drop (skipped s + 2) s))) (λ q z p. false_true z refl)

  pub first_told : (s : List ℕ) (a : Answer) → digest_in d ts s ≡ a → is_notice a.kind ≡ true → a.payload.start ≡ skipped s + 2 → notices (of_mark mark.Notice 0 ts) s (skipped s) ≡ Some a
  first_told s a p z l = go (notices (of_mark mark.Notice 0 ts) s (skipped s)) refl
    where
      go : (r : Option Answer) → notices (of_mark mark.Notice 0 ts) s (skipped s) ≡ r → r ≡ Some a
      go (Some b) q = ap Some (sym (done_is d ts s b (noticed d ts s (skipped s) b q)) ∙ p)
      go None q = absurd (elsewhere s q (rw p z) (rw p l))

-- Where CRLF stands where buf begins and again behind it, what rule 2 answers is a notice.
module _ (s : List ℕ) (here : stands crlf s (skipped s) ≡ true) (q : ℕ) (far : skipped s + 2 ≤ q) (there : stands crlf s q ≡ true) where
  pub notices_notice : (l : List Entry) → EntryTexts l → TriedHas (λ a. a.kind ≡ kind.Notice) (notices l s (skipped s))
  unfolding notices heard
  notices_notice [] g = tt
  notices_notice (x ∷ l) g =
      either_has (λ a. a.kind ≡ kind.Notice) (heard (notice_at x.text s (skipped s)) x.number s (skipped s)) (notices l s (skipped s)) (go (notice_at x.text s (skipped s)) refl) (notices_notice l g.1)
    where
      go : (r : Notice) → notice_at x.text s (skipped s) ≡ r → TriedHas (λ a. a.kind ≡ kind.Notice) (heard r x.number s (skipped s))
      go (notice.Ended end) p = refl
      go notice.Unfinished p = absurd (finished s (skipped s) q here far there x.text g.0 p)
      go notice.Nothing p = tt

-- and an ended one is answered
pub ended_heard : (d : Digester) (ts : List Token) (good : Texts ts) (s : List ℕ) (e n : ℕ) (l : List Entry) → AnyOf (λ x. NoticeEnded x.text (drop e s) n) l → notices l s e ≡ None → ⊥
unfolding notices heard
ended_heard d ts good s e n [] h g = h
ended_heard d ts good s e n (x ∷ l) (inl h) g = done_next _ (ap (λ (r : Notice). heard r x.number s e) (notice_front d ts good s e x.text n h)) (next_both (heard (notice_at x.text s e) x.number s e) (notices l s e) g).0
ended_heard d ts good s e n (x ∷ l) (inr h) g = ended_heard d ts good s e n l h (next_both (heard (notice_at x.text s e) x.number s e) (notices l s e) g).1
