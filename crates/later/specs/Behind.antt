-- Bytes added behind, where CRLF stands where buf begins and again behind it: rules 1 and 2 give the same, and so does the digest where rule 2 answers (`notice_stays`),
-- or where an OK line stands and no `CS` text is looked for (`line_stays`).
use Rattle.std.proofs.Math.Path.{◌≡◌, refl, sym, ap}
use Rattle.std.proofs.Common.{Option, Some, None, ◌∙◌, ⊎_elim, length-append}
use Rattle.std.specs.Prelude.{Bool, ℕ, ◌+◌, ◌-◌, ◌≤◌, ◌<◌, get_or, if◌then◌else◌}
use Rattle.std.proofs.Math.Bool.{true, false}
use mathlib.Core.List.{List, [], ◌∷◌, ◌++◌}
use native.Mathlib.Omega.{arith}
use Rattle.std.proofs.Math.ListN.{length, get_or-append}
use Rattle.outcome.specs.Laws.{same_way}
use Rattle.text.specs.Bytes.{bytes}
use Rattle.text.specs.Logic.{false_true, not_true_false, and_both, order}
use Rattle.text.specs.Text.{is_blank, past, trimmed_part, stands, find_in}
use Rattle.text.specs.Laws.{found_at, found_none, stands_fits, stands_byte, stands_get_d, stands_front, stands_append, stands_behind, find_behind, past_passes, past_stops, past_is}
use Rattle.text.specs.declared.Blanks.TheVariants as sets
use Rattle.moves.specs.Laws.{part_first}
use Rattle.table.specs.Table.{is_text, Entry, Token, of_mark}
use Rattle.table.specs.Laws.{EntryTexts, text_byte, Texts, mark_texts}
use Rattle.table.specs.declared.Mark.TheVariants as mark
use Rattle.lines.specs.Lines.{crlf, fixed_text}
use Rattle.lines.specs.declared.Digester.{Digester}
use Rattle.lines.specs.declared.Fixed.TheVariants as fixed
use Rattle.parser.specs.Parser.{line_ending, breaks_off, through, notice_text, notice_at}
use Rattle.parser.specs.Laws.{ending_crlf, notice_is, notice_bounds}
use Rattle.parser.specs.declared.Notice.{Notice}
use Rattle.parser.specs.declared.Notice.TheVariants as notice
use Rattle.answers.specs.Answer.{with_payload}
use Rattle.answers.specs.declared.Kind.TheVariants as kind
use Rattle.answers.specs.declared.Answer.{Answer}
use Rattle.items.specs.Rules.{or_else, found_or, skipped, heard, notices, first_custom, custom_success, line_success, success, successes, tried}
use Rattle.items.specs.Laws.{hit}
use Rattle.digest.specs.Items.{lf_not_broken, crlf_lf}
use Rattle.digest.specs.Digest.{digest_in}
use Rattle.digest.specs.Step.{done_is}
use Rattle.digest.specs.Starts.{first_crlf}

-- what lies in s is trimmed to the same
trimmed_behind : (s v : List ℕ) (i k : ℕ) → i ≤ k → k ≤ length s → trimmed_part (s ++ v) i k ≡ trimmed_part s i k
unfolding trimmed_part
trimmed_behind s v i k h g = rw (part_first s v i (k - i) (omega arith))

-- rule 1
module _ (s v : List ℕ) where
  spaces_behind : past (is_blank sets.Space) s 0 < length s → past (is_blank sets.Space) (s ++ v) 0 ≡ past (is_blank sets.Space) s 0
  spaces_behind h =
      let a = past (is_blank sets.Space) s 0 in
      past_is (is_blank sets.Space) (s ++ v) 0 a (omega arith) (omega (arith, length-append s v))
      (λ j k l. ap (is_blank sets.Space) (get_or-append s v 0 j (omega arith)) ∙ past_passes (is_blank sets.Space) s 0 j k l)
      (λ l. ap (is_blank sets.Space) (get_or-append s v 0 a h) ∙ past_stops (is_blank sets.Space) s 0 h)

  skip_behind : stands crlf s (skipped s) ≡ true → skipped (s ++ v) ≡ skipped s
  unfolding skipped found_or
  skip_behind = go (find_in crlf s (past (is_blank sets.Space) s 0)) refl
    where
      go : (r : Option ℕ) → find_in crlf s (past (is_blank sets.Space) s 0) ≡ r → stands crlf s (found_or r (past (is_blank sets.Space) s 0)) ≡ true → skipped (s ++ v) ≡ found_or r (past (is_blank sets.Space) s 0)
      go (Some k) q h =
          let a = past (is_blank sets.Space) s 0 in
          let f = stands_fits crlf s k (omega arith) h in
          rw (spaces_behind (omega (arith, (found_at crlf s a k q).after)), find_behind crlf s v a k f q)
      go None q h = let a = past (is_blank sets.Space) s 0 in absurd (false_true h (found_none crlf s a q a (omega arith)))

pub ending_two : (u : List ℕ) (e : ℕ) → stands crlf u e ≡ true → 2 ≡ line_ending u e
ending_two u e h = ending_crlf u e (not_true_false (stands (bytes "\n") u e) (λ g. omega (arith, (stands_byte 10 [] u e g).1.0, (stands_byte 13 (10 ∷ []) u e h).1.0))) h

-- rule 2 at e for one record of a good table, with CRLF at e and at q: its text holds neither CR nor LF, so it ends before q, and the notice is not unfinished
module _ (u : List ℕ) (e q : ℕ) (opened : stands crlf u e ≡ true) (far : e + 2 ≤ q) (closed : stands crlf u q ≡ true) (x : List ℕ) (t : is_text x ≡ true) where
  at_text : notice_text x u (e + 2) ≡ notice_at x u e
  at_text = notice_is x u e 2 (ending_two u e opened) (λ z. omega arith)

  unbroken : breaks_off x u (e + 2) ≡ false
  unbroken = not_true_false (breaks_off x u (e + 2)) (lf_not_broken u x t (e + 2) (q + 1) (omega arith) (omega (arith, stands_fits crlf u q (omega arith) closed)) (crlf_lf u q closed))

  pub finished : notice_at x u e ≡ notice.Unfinished → ⊥
  unfolding notice_text through
  finished h = go (stands (x ++ crlf) u (e + 2)) (stands (x ++ bytes ":") u (e + 2)) (find_in crlf u (e + 2 + length x + 1)) (rw unbroken at (at_text ∙ h))
    where
      go : (b c : Bool) (r : Option ℕ) → (if b then notice.Ended (e + 2 + length x + 2) else if c then through r else notice.Nothing) ≡ notice.Unfinished → ⊥
      go true c r g = let z : ◌≡◌ {A = ℕ} 0 1 = cc in omega arith
      go false true (Some k) g = let z : ◌≡◌ {A = ℕ} 0 1 = cc in omega arith
      go false true None g = let z : ◌≡◌ {A = ℕ} 0 1 = cc in omega arith
      go false false r g = let z : ◌≡◌ {A = ℕ} 0 1 = cc in omega arith

  text_before : stands x u (e + 2) ≡ true → e + 2 + length x ≤ q
  text_before h =
      ⊎_elim
      (λ (l : q < e + 2 + length x).
      let i : e + 2 + (q - (e + 2)) ≡ q = omega arith in
      let b = text_byte x t (q - (e + 2)) (omega arith) in
      absurd (omega (arith, b.0, stands_get_d x u (e + 2) (q - (e + 2)) h (omega arith), ap (λ (n : ℕ). get_or u n 0) i, (stands_byte 13 (10 ∷ []) u q closed).1.0)))
      (λ (l : e + 2 + length x ≤ q). l)
      (order q (e + 2 + length x))

-- so with bytes behind it is the same
module _ (s v : List ℕ) (e q : ℕ) (here : stands crlf s e ≡ true) (far : e + 2 ≤ q) (there : stands crlf s q ≡ true) where
  long : q + 2 ≤ length s
  long = stands_fits crlf s q (omega arith) there

  still_here : stands crlf (s ++ v) e ≡ true
  still_here = stands_behind crlf s v e (omega (arith, long)) ∙ here

  still_there : stands crlf (s ++ v) q ≡ true
  still_there = stands_behind crlf s v q long ∙ there

  module _ (x : List ℕ) (t : is_text x ≡ true) where
    -- what ends the text stands in s, or nowhere
    ended_same : (y : List ℕ) → length y ≤ 2 → stands (x ++ y) (s ++ v) (e + 2) ≡ stands (x ++ y) s (e + 2)
    ended_same y h =
        ⊎_elim
        (λ (l : length s < e + 2 + length (x ++ y)). none (s ++ v) (text_before (s ++ v) e q still_here far still_there x t) l ∙ sym (none s (text_before s e q here far there x t) l))
        (λ (l : e + 2 + length (x ++ y) ≤ length s). stands_behind (x ++ y) s v (e + 2) l)
        (order (length s) (e + 2 + length (x ++ y)))
      where
        none : (u : List ℕ) → (stands x u (e + 2) ≡ true → e + 2 + length x ≤ q) → length s < e + 2 + length (x ++ y) → stands (x ++ y) u (e + 2) ≡ false
        none u w l = not_true_false (stands (x ++ y) u (e + 2)) (λ g. omega (arith, w (stands_front x y u (e + 2) g), long, length-append x y))

    through_same : stands (x ++ bytes ":") s (e + 2) ≡ true → find_in crlf (s ++ v) (e + 2 + length x + 1) ≡ find_in crlf s (e + 2 + length x + 1)
    through_same h = go (find_in crlf s (e + 2 + length x + 1)) refl
      where
        go : (r : Option ℕ) → find_in crlf s (e + 2 + length x + 1) ≡ r → find_in crlf (s ++ v) (e + 2 + length x + 1) ≡ r
        go (Some k) f = find_behind crlf s v (e + 2 + length x + 1) k (stands_fits crlf s k (omega arith) (found_at crlf s (e + 2 + length x + 1) k f).here) f
        go None f =
            let w = and_both (stands x s (e + 2)) (stands (bytes ":") s (e + 2 + length x)) (sym (stands_append x (bytes ":") s (e + 2)) ∙ h) in
            let l = text_before s e q here far there x t w.0 in
            ⊎_elim
            (λ (g : e + 2 + length x < q). absurd (false_true there (found_none crlf s (e + 2 + length x + 1) f q (omega arith))))
            (λ (g : q ≤ e + 2 + length x).
            let i : q ≡ e + 2 + length x = omega arith in
            absurd (omega (arith, (stands_byte 58 [] s (e + 2 + length x) w.1).1.0, ap (λ (n : ℕ). get_or s n 0) i, (stands_byte 13 (10 ∷ []) s q there).1.0)))
            (order (e + 2 + length x) q)

    text_same : notice_text x (s ++ v) (e + 2) ≡ notice_text x s (e + 2)
    unfolding notice_text
    text_same =
        rw (unbroken (s ++ v) e q still_here far still_there x t, unbroken s e q here far there x t, ended_same crlf (omega arith), ended_same (bytes ":") (omega arith))
        (ap (λ (r : Notice). if stands (x ++ crlf) s (e + 2) then notice.Ended (e + 2 + length x + 2) else r)
        (same_way notice.Nothing (stands (x ++ bytes ":") s (e + 2)) (λ g. ap through (through_same g))))

    notice_same : notice_at x (s ++ v) e ≡ notice_at x s e
    notice_same = sym (at_text (s ++ v) e q still_here far still_there x t) ∙ text_same ∙ at_text s e q here far there x t

  heard_same : (x : List ℕ) (n : ℕ) (r : Notice) → notice_at x s e ≡ r → heard r n (s ++ v) e ≡ heard r n s e
  unfolding heard
  heard_same x n (notice.Ended end) p =
      let b = notice_bounds x s e end p in
      rw (trimmed_behind s v e end b.0 b.1)
  heard_same x n notice.Unfinished p = refl
  heard_same x n notice.Nothing p = refl

  notices_behind : (l : List Entry) → EntryTexts l → notices l (s ++ v) e ≡ notices l s e
  unfolding notices
  notices_behind [] w = refl
  notices_behind (x ∷ l) w =
      ap (λ (r : Notice). or_else (heard r x.number (s ++ v) e) (notices l (s ++ v) e)) (notice_same x.text w.0)
      ∙ (λ i. or_else (heard_same x.text x.number (notice_at x.text s e) refl i) (notices_behind l w.1 i))

-- an OK line in the input: the first from where buf begins, with CRLF at both ends of it
pub record FirstOk (s : List ℕ) : Type 0 where
  pub k : ℕ
  pub found : find_in (fixed_text fixed.Ok) s (skipped s) ≡ Some k
  pub after : skipped s ≤ k
  pub here : stands crlf s (skipped s) ≡ true
  pub there : stands crlf s (k + 4) ≡ true

pub first_ok : (s : List ℕ) (j : ℕ) → stands (fixed_text fixed.Ok) s j ≡ true → FirstOk s
first_ok s j h = go (find_in (fixed_text fixed.Ok) s (skipped s)) refl (first_crlf s j (stands_front crlf (bytes "OK\r\n") s j h))
  where
    go : (r : Option ℕ) → find_in (fixed_text fixed.Ok) s (skipped s) ≡ r → (skipped s ≤ j) × (stands crlf s (skipped s) ≡ true) → FirstOk s
    go (Some k) f c =
        let w = found_at (fixed_text fixed.Ok) s (skipped s) k f in
        let b = and_both (stands (bytes "\r\nOK") s k) (stands crlf s (k + 4)) (sym (stands_append (bytes "\r\nOK") crlf s k) ∙ w.here) in
        record { k = k; found = f; after = w.after; here = c.1; there = b.1 }
    go None f c = absurd (false_true h (found_none (fixed_text fixed.Ok) s (skipped s) f j c.0))

module _ (d : Digester) (ts : List Token) where
  pub noticed : (s : List ℕ) (e : ℕ) (a : Answer) → notices (of_mark mark.Notice 0 ts) s e ≡ Some a → tried d ts s e ≡ Some a
  unfolding tried
  noticed s e a h = sym (hit (notices (of_mark mark.Notice 0 ts) s e) _ _ a refl h)

  -- the first OK line at k, before which no `CS` text is looked for
  pub ok_done : of_mark mark.Success 0 ts ≡ [] → (s : List ℕ) (e k : ℕ) → find_in (fixed_text fixed.Ok) s e ≡ Some k → notices (of_mark mark.Notice 0 ts) s e ≡ None → tried d ts s e ≡ Some (with_payload kind.Ok 0 (trimmed_part s e k) (k + 6))
  unfolding tried successes first_custom custom_success line_success success or_else
  ok_done none s e k f g = rw (g, none, f)

module _ (d : Digester) (ts : List Token) (good : Texts ts) (s v : List ℕ) where
  -- with CRLF where buf begins and again behind it
  module _ (here : stands crlf s (skipped s) ≡ true) (q : ℕ) (far : skipped s + 2 ≤ q) (there : stands crlf s q ≡ true) where
    same_notices : notices (of_mark mark.Notice 0 ts) (s ++ v) (skipped s) ≡ notices (of_mark mark.Notice 0 ts) s (skipped s)
    same_notices = notices_behind s v (skipped s) q here far there (of_mark mark.Notice 0 ts) (mark_texts mark.Notice 0 ts good)

    stays : (a : Answer) → tried d ts s (skipped s) ≡ Some a → tried d ts (s ++ v) (skipped s) ≡ Some a → digest_in d ts (s ++ v) ≡ digest_in d ts s
    stays a h g = done_is d ts (s ++ v) a (ap (tried d ts (s ++ v)) (skip_behind s v here) ∙ g) ∙ sym (done_is d ts s a h)

    pub notice_stays : (a : Answer) → notices (of_mark mark.Notice 0 ts) s (skipped s) ≡ Some a → digest_in d ts (s ++ v) ≡ digest_in d ts s
    notice_stays a h = stays a (noticed d ts s (skipped s) a h) (noticed d ts (s ++ v) (skipped s) a (same_notices ∙ h))

  pub line_stays : of_mark mark.Success 0 ts ≡ [] → (j : ℕ) → stands (fixed_text fixed.Ok) s j ≡ true → digest_in d ts (s ++ v) ≡ digest_in d ts s
  line_stays none j h = go (first_ok s j h) (notices (of_mark mark.Notice 0 ts) s (skipped s)) refl
    where
      go : FirstOk s → (r : Option Answer) → notices (of_mark mark.Notice 0 ts) s (skipped s) ≡ r → digest_in d ts (s ++ v) ≡ digest_in d ts s
      go w (Some a) p = notice_stays w.here (w.k + 4) (omega (arith, w.after)) w.there a p
      go w None p =
          let e = skipped s in
          let far : e + 2 ≤ w.k + 4 = omega (arith, w.after) in
          let f = stands_fits crlf s (w.k + 4) (omega arith) w.there in
          stays w.here (w.k + 4) far w.there (with_payload kind.Ok 0 (trimmed_part s e w.k) (w.k + 6)) (ok_done d ts none s e w.k w.found p)
          (rw (trimmed_behind s v e w.k w.after (omega arith))
          at (ok_done d ts none (s ++ v) e w.k (find_behind (fixed_text fixed.Ok) s v e w.k (omega arith) w.found) (same_notices w.here (w.k + 4) far w.there ∙ p)))
