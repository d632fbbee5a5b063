-- The ways out of the level's functions, over plain lists.
use Rattle.std.specs.Prelude.{Option, Some, None, ◌≡◌, refl, Bool, true, false, ◌||◌, ℕ, ◌+◌, ◌-◌, ◌≤◌, ltb}
use Rattle.std.proofs.Math.Path.{sym, ap}
use Rattle.std.proofs.Common.{◌∙◌, ltb-false}
use mathlib.Core.List.{List, []}
use native.Mathlib.Omega.{arith}
use Rattle.std.proofs.Math.ListN.{length}
use Rattle.text.specs.Text.{is_blank, past, trimmed_part, stands, find_in}
use Rattle.text.specs.Laws.{found_at, past_bounds, stands_fits}
use Rattle.text.specs.declared.Blanks.TheVariants as blanks
use Rattle.table.specs.Table.{Entry, same_mark, token_of, entry_of, entries}
use Rattle.table.specs.Laws.{NextIs, text_part, entries_past}
use Rattle.table.specs.declared.Mark.{Mark}
use Rattle.table.specs.declared.Mark.TheVariants as mark
use Rattle.table.specs.declared.Record.{Record}
use Rattle.lines.specs.Lines.{crlf, fixed_text, connect_place}
use Rattle.lines.specs.Laws.{fixed_some}
use Rattle.lines.specs.declared.Digester.{Digester}
use Rattle.lines.specs.declared.Fixed.{Fixed}
use Rattle.lines.specs.declared.Fixed.TheVariants as fixed
use Rattle.parser.specs.Parser.{notice_at}
use Rattle.places.specs.Places.{line_in, FirstLines}
use Rattle.places.specs.Laws.{connect_first}
use Rattle.pass.specs.Pass.{passed}
use Rattle.pass.specs.Laws.{passed_ok, Passing, passed_others}
use Rattle.places.specs.declared.Lines.{Lines}
use Rattle.places.specs.declared.Places.{Places}
use Rattle.pass.specs.declared.Passed.TheVariants as pass
use Rattle.answers.specs.declared.Answer.{Answer}
use Rattle.answers.specs.Laws.{text_empty}
use Rattle.items.specs.Rules.{or_else, found_or, skipped, heard, notices, success, line_success, through_crlf, connect_at, first_connect, connected, connect_success, line_tried}
use Rattle.items.specs.Laws.{part_in}
use Rattle.items.specs.Connect.{Least, least_connect, connect_bare, begun_fits, connect_begun}
use Rattle.level.specs.Level.{Unless, SameCustoms}

-- rule 1 stays within s
found_or_le : (s : List ℕ) (a : ℕ) (r : Option ℕ) → find_in crlf s a ≡ r → a ≤ length s → found_or r a ≤ length s
unfolding found_or
found_or_le s a (Some k) e h = omega (arith, stands_fits crlf s k (omega arith) (found_at crlf s a k e).here)
found_or_le s a None e h = h

pub skipped_le : (s : List ℕ) → skipped s ≤ length s
unfolding skipped
skipped_le s =
    let a = past (is_blank blanks.Space) s 0 in
    found_or_le s a (find_in crlf s a) refl ((past_bounds (is_blank blanks.Space) s 0).1 (omega arith))

-- rule 2: the rule on all the records is the rule on those from `at` on
module _ (t s : List ℕ) (e at n : ℕ) (w : notices (entries mark.Notice t 0 0) s e ≡ notices (entries mark.Notice t at n) s e) where
  pub notices_end : entries mark.Notice t at n ≡ [] → None ≡ notices (entries mark.Notice t 0 0) s e
  unfolding notices
  notices_end z = sym (w ∙ ap (λ (l : List Entry). notices l s e) z)

  module _ (r : Record) (k : ℕ) (z : NextIs mark.Notice t at n r k) (u : Option Answer) (y : u ≡ heard (notice_at (part_in t r) s e) k s e) where
    notices_one : notices (entries mark.Notice t 0 0) s e ≡ or_else u (notices (entries mark.Notice t (r.place + r.len) (k + 1)) s e)
    unfolding notices entry_of token_of
    notices_one =
        w ∙ ap (λ (l : List Entry). notices l s e) z.is
        ∙ ap (λ (b : Option Answer). or_else b (notices (entries mark.Notice t (r.place + r.len) (k + 1)) s e)) (sym (y ∙ ap (λ (b : List ℕ). heard (notice_at b s e) k s e) (text_part t r z.inside)))

    pub notices_hit : (a : Answer) → u ≡ Some a → Some a ≡ notices (entries mark.Notice t 0 0) s e
    unfolding or_else
    notices_hit a h = sym (rw h at notices_one)

    pub notices_more : u ≡ None → notices (entries mark.Notice t 0 0) s e ≡ notices (entries mark.Notice t (r.place + r.len) (k + 1)) s e
    unfolding or_else
    notices_more h = rw h at notices_one

-- rule 3
module _ (s : List ℕ) (e : ℕ) where
  pub line_success_none : (l : Fixed) (r : Option ℕ) → r ≡ None → line_success s e l r ≡ None
  unfolding line_success
  line_success_none l r q = ap (line_success s e l) q

  pub line_room : (l : Fixed) (r : Option ℕ) → r ≡ find_in (fixed_text l) s e → (k : ℕ) → r ≡ Some k → (e ≤ k) × (k + length (fixed_text l) ≤ length s)
  line_room l r p k q =
      let w = found_at (fixed_text l) s e k (sym p ∙ q) in
      (w.after, stands_fits (fixed_text l) s k (fixed_some l) w.here)

  -- OK at its first place, by what the pass gave
  module _ (k : ℕ) (p : pass.Ok k ≡ passed s e) where
    ok_at : find_in (fixed_text fixed.Ok) s e ≡ Some k
    ok_at = passed_ok s e k (sym p)

    pub ok_room : k + length (fixed_text fixed.Ok) ≤ length s
    ok_room = (line_room fixed.Ok (find_in (fixed_text fixed.Ok) s e) refl k ok_at).1

    pub ok_is : line_success s e fixed.Ok (find_in (fixed_text fixed.Ok) s e) ≡ success s e k (k + length (fixed_text fixed.Ok))
    unfolding line_success
    ok_is = ap (line_success s e fixed.Ok) ok_at

  module _ (x : Lines) (y : Places) (p : pass.Others x y ≡ passed s e) where
    pub others_passed : Passing s e x y
    others_passed = passed_others s e x y (sym p)

    pub ok_none : line_success s e fixed.Ok (find_in (fixed_text fixed.Ok) s e) ≡ None
    ok_none = line_success_none fixed.Ok (find_in (fixed_text fixed.Ok) s e) others_passed.none

  -- CONNECT with text: the first CRLF from `start` on
  pub text_room : (start end : ℕ) → Some end ≡ find_in crlf s start → (start ≤ end) × (end + 2 ≤ length s)
  text_room start end p =
      let w = found_at crlf s start end (sym p) in
      (w.after, stands_fits crlf s end (omega arith) w.here)

  -- CONNECT at its first place
  module _ (d : Digester) (x : Lines) (w : FirstLines s e x) where
    first_is : connect_place d (line_in s e x) ≡ first_connect d s e
    unfolding first_connect
    first_is = connect_first d s e x w

    pub connect_nowhere : None ≡ connect_place d (line_in s e x) → None ≡ connect_success d s e (first_connect d s e)
    unfolding connect_success
    connect_nowhere z = ap (connect_success d s e) (z ∙ first_is)

    module _ (k : ℕ) (z : Some k ≡ connect_place d (line_in s e x)) where
      least : Least d s e k
      least = rw (sym (z ∙ first_is)) at (least_connect d s e)

      pub connect_inside : k + 10 ≤ length s
      connect_inside = begun_fits d s k least.here

      at_place : connected s e k (connect_at d s k) ≡ connect_success d s e (first_connect d s e)
      unfolding connect_success
      at_place = ap (connect_success d s e) (z ∙ first_is)

      pub bare_is : stands (fixed_text fixed.Connect) s k ≡ true → success s e k (k + 11) ≡ connect_success d s e (first_connect d s e)
      unfolding success connected
      bare_is h =
          ap Some (text_empty (trimmed_part s e k) (record { start = k + 10; len = k + 11 - (k + 12) }) (k + 11) (omega arith))
          ∙ ap (connected s e k) (sym (connect_bare d s k h)) ∙ at_place

      pub texted_is : stands (fixed_text fixed.Connect) s k ≡ false → connected s e k (through_crlf (find_in crlf s (k + 10))) ≡ connect_success d s e (first_connect d s e)
      texted_is h = ap (connected s e k) (sym (connect_begun d s k least.here h)) ∙ at_place

-- rule 5: a fixed line that stands nowhere
pub line_none : (l : Fixed) (f : Option ℕ) → f ≡ None → line_tried l f ≡ None
unfolding line_tried
line_none l f q = ap (line_tried l) q

-- NA at the head
pub na_room : (s : List ℕ) (e : ℕ) → stands (fixed_text fixed.Na) s e ≡ true → e + 6 ≤ length s
na_room s e q = stands_fits (fixed_text fixed.Na) s e (omega arith) q

-- The walk of the notices: all records before number n, which begins at `at`, are notices.
abbrev pub OnlyNotices : List ℕ → ℕ → ℕ → Type 0
OnlyNotices t at n = (m : Mark) → same_mark mark.Notice m ≡ false → entries m t 0 0 ≡ entries m t at n

module _ (t : List ℕ) (at n : ℕ) (b : Bool) (w : Unless b (OnlyNotices t at n)) where
  pub only_more : (r : Record) (k : ℕ) → NextIs mark.Notice t at n r k → Unless (b || ltb n k) (OnlyNotices t (r.place + r.len) (k + 1))
  only_more r k x = go b w (ltb n k) refl
    where
      go : (c : Bool) → Unless c (OnlyNotices t at n) → (d : Bool) → ltb n k ≡ d → Unless (c || d) (OnlyNotices t (r.place + r.len) (k + 1))
      go true v d z = tt
      go false v true z = tt
      go false v false z = λ m h. v m h ∙ x.others (omega (arith, x.from, ltb-false n k z)) m h

  pub only_end : Unless (b || ltb at (length t)) (SameCustoms [] t)
  only_end = go b w (ltb at (length t)) refl
    where
      go : (c : Bool) → Unless c (OnlyNotices t at n) → (d : Bool) → ltb at (length t) ≡ d → Unless (c || d) (SameCustoms [] t)
      go true v d z = tt
      go false v true z = tt
      go false v false z = λ m h. entries_past m [] 0 0 (omega arith) ∙ sym (v m h ∙ entries_past m t at n (ltb-false at (length t) z))

-- an empty table has no notice, and no other record
module _ (t : List ℕ) (z : length t ≡ 0) where
  pub none_noticed : (s : List ℕ) (e : ℕ) → None ≡ notices (entries mark.Notice t 0 0) s e
  unfolding notices
  none_noticed s e = sym (ap (λ (l : List Entry). notices l s e) (entries_past mark.Notice t 0 0 (omega arith)))

  pub none_other : SameCustoms [] t
  none_other m h = entries_past m [] 0 0 (omega arith) ∙ sym (entries_past m t 0 0 (omega arith))
