-- Where no rule answers, no item stands where buf begins (`nothing_here`).
use Rattle.std.specs.Prelude.{Option, Some, None, ◌≡◌, refl, Bool, true, ℕ, ◌+◌, ◌-◌, ◌≤◌, length, drop}
use Rattle.std.proofs.Common.{sym, ◌∙◌, inl, inr, ⊎_elim, arith}
use Rattle.std.proofs.Math.Path.{ap}
use mathlib.Core.List.{List, [], ◌∷◌}
use Rattle.text.specs.Logic.{false_true}
use Rattle.text.specs.Text.{stands, find_in}
use Rattle.text.specs.Steps.{find_here}
use Rattle.text.specs.Laws.{found_none}
use Rattle.table.specs.Table.{Token, Entry, of_mark}
use Rattle.table.specs.Laws.{Texts, EntryTexts, mark_texts}
use Rattle.table.specs.declared.Mark.TheVariants as mark
use Rattle.lines.specs.Lines.{hears_text, fixed_text}
use Rattle.parser.specs.Parser.{value, at_found, numeric_at, numeric_error, prompt_from, custom_prompt, wrapped, notice_at}
use Rattle.lines.specs.declared.Digester.{Digester}
use Rattle.lines.specs.declared.Fixed.{Fixed}
use Rattle.lines.specs.declared.Fixed.TheVariants as fixed
use Rattle.parser.specs.declared.Digits.{Digits}
use Rattle.parser.specs.declared.Notice.{Notice}
use Rattle.answers.specs.declared.Kind.TheVariants as kind
use Rattle.answers.specs.declared.Answer.{Answer}
use Rattle.answers.specs.Answer.{bare, with_digits}
use Rattle.items.specs.Rules.{first_of, heard, notices, first_custom, kind_of, custom_success, line_success, through_crlf, connect_at, first_connect, connect_success, successes, prompt_tried, custom_prompts, prompts, custom_error, heads, numeric_tried, numeric_errors, error_lines, line_tried, line_errors, not_allowed, errors, tried}
use Rattle.items.specs.Connect.{connect_bare, connect_text, connect_none}
use Rattle.items.specs.Laws.{next_both, done_next}
use Rattle.level.specs.Levels.{occurs_none, success_nowhere, error_nowhere, line_success_nowhere, line_nowhere, prompt_nowhere}
use Rattle.parser.specs.Moved.{prompt_moved, custom_moved, shift_numeric, numeric_moved}
use Rattle.digest.specs.Finished.{AnyOf, NoticeEnded, NumericEnded, FirstAlone, EndsIn, nine, Line, TextLine, Item}
use Rattle.digest.specs.Finished as items
use Rattle.digest.specs.Position.{alone_is, ends_is, numeric_is}
use Rattle.digest.specs.Items.{some_map, some_any, some_split, stands_here, texted_is}
use Rattle.digest.specs.Sound.{notice_front}

found_nothing : {k : ℕ} → Some k ≡ None → ⊥
found_nothing h = cc

module _ (d : Digester) (ts : List Token) (good : Texts ts) (s : List ℕ) (e : ℕ) where
  -- where no rule answers, no item stands where buf begins
  no_notice : (n : ℕ) (l : List Entry) → notices l s e ≡ None → AnyOf (λ x. NoticeEnded x.text (drop e s) n) l → ⊥
  unfolding notices
  no_notice n [] h g = g
  no_notice n (x ∷ l) h (inl w) =
      let b = (next_both (heard (notice_at x.text s e) x.number s e) (notices l s e) h).0 in
      done_next _ (ap (λ (r : Notice). heard r x.number s e) (notice_front d ts good s e x.text n w) ∙ (unfold heard in refl)) b
  no_notice n (x ∷ l) h (inr w) = no_notice n l (next_both (heard (notice_at x.text s e) x.number s e) (notices l s e) h).1 w

  no_text_lem : (t : List ℕ) → find_in t s e ≡ None → stands t (drop e s) 0 ≡ true → ⊥
  no_text_lem t h g = false_true (stands_here t s e ∙ g) (found_none t s e h e (omega arith))

  -- where no text of a list answered, nothing holds of any that would have made it answer
  none_of : (f : Fixed → Option Answer) (P : Fixed → Type 0) → ((l : Fixed) → f l ≡ None → P l → ⊥) → (ls : List Fixed) → first_of f ls ≡ None → AnyOf P ls → ⊥
  unfolding first_of
  none_of f P w [] h g = g
  none_of f P w (l ∷ ls) h (inl g) = w l (next_both (f l) (first_of f ls) h).0 g
  none_of f P w (l ∷ ls) h (inr g) = none_of f P w ls (next_both (f l) (first_of f ls) h).1 g

  no_head : not_allowed s e ≡ None → stands (fixed_text fixed.Na) (drop e s) 0 ≡ true → ⊥
  unfolding not_allowed
  no_head h g = done_next (bare kind.NotAllowed (e + 6)) (rw (stands_here (fixed_text fixed.Na) s e ∙ g)) h

  no_custom_lem : (l : List Entry) → first_custom l s e ≡ None → AnyOf (λ x. stands (wrapped x.text) (drop e s) 0 ≡ true) l → ⊥
  unfolding first_custom
  no_custom_lem [] h g = g
  no_custom_lem (x ∷ l) h (inl w) = no_text_lem (wrapped x.text) (occurs_none (find_in (wrapped x.text) s e) x (first_custom l s e) h).0 w
  no_custom_lem (x ∷ l) h (inr w) = no_custom_lem l (occurs_none (find_in (wrapped x.text) s e) x (first_custom l s e) h).1 w

  no_numeric : (n : ℕ) (h : Fixed) → numeric_tried h (numeric_error (fixed_text h) s e) ≡ None → NumericEnded (fixed_text h) (drop e s) n → ⊥
  unfolding numeric_error
  no_numeric n h g w =
      let q : find_in (fixed_text h) s e ≡ Some e = find_here (fixed_text h) s e (stands_here (fixed_text h) s e ∙ w.head) in
      let ds : Digits = record { code = value 0 (drop w.a (drop e s)); start = e + w.a; stop = e + w.b; end = e + n } in
      let r : numeric_at (fixed_text h) s e ≡ Some ds = numeric_moved (fixed_text h) s e ∙ ap (shift_numeric e) (numeric_is (fixed_text h) (drop e s) n w) ∙ (unfold shift_numeric in refl) in
      let a : Answer = with_digits (kind_of h) ds.code (record { start = ds.start; len = ds.stop - ds.start }) ds.end in
      let i : numeric_tried h (at_found (fixed_text h) s (find_in (fixed_text h) s e)) ≡ Some a = ap (λ (f : Option ℕ). numeric_tried h (at_found (fixed_text h) s f)) q ∙ (unfold at_found in ap (numeric_tried h) r) ∙ (unfold numeric_tried in refl) in
      done_next a i g

  no_prompt : (b : Bool) (c : ℕ) → prompt_tried b c s ≡ None → b ≡ true → ⊥
  no_prompt b c h g = false_true g (prompt_nowhere b c s h)

  pub no_customs : (l : List Entry) → EntryTexts l → custom_prompts l s e ≡ None → AnyOf (λ x. EndsIn x.text (drop e s)) l → ⊥
  unfolding custom_prompts
  no_customs [] w h g = g
  no_customs (x ∷ l) w h (inl v) =
      let b = next_both (prompt_tried (custom_prompt x.text s e) x.prompt s) (custom_prompts l s e) h in
      no_prompt (custom_prompt x.text s e) x.prompt b.0 (custom_moved x.text s e ∙ ends_is x.text (drop e s) w.0 v)
  no_customs (x ∷ l) w h (inr v) = no_customs l w.1 (next_both (prompt_tried (custom_prompt x.text s e) x.prompt s) (custom_prompts l s e) h).1 v

  -- each rule that didn't answer, from the chain that didn't
  pub record Silent : Type 0 where
    pub heard_none : notices (of_mark mark.Notice 0 ts) s e ≡ None
    pub custom_ok : first_custom (of_mark mark.Success 0 ts) s e ≡ None
    pub success : line_success s e fixed.Ok (find_in (fixed_text fixed.Ok) s e) ≡ None
    pub connect : connect_success d s e (first_connect d s e) ≡ None
    pub customs : custom_prompts (of_mark mark.Prompt 0 ts) s e ≡ None
    pub greater : prompt_tried (prompt_from 62 s e) 62 s ≡ None
    pub at_sign : prompt_tried (prompt_from 64 s e) 64 s ≡ None
    pub custom_bad : first_custom (of_mark mark.Error 0 ts) s e ≡ None
    pub number : first_of (λ h. numeric_tried h (numeric_error (fixed_text h) s e)) heads ≡ None
    pub error : first_of (λ l. line_tried l (find_in (fixed_text l) s e)) error_lines ≡ None
    pub na : not_allowed s e ≡ None

  pub silent : tried d ts s e ≡ None → Silent
  unfolding tried successes prompts errors numeric_errors line_errors
  silent h =
      let a = next_both (notices (of_mark mark.Notice 0 ts) s e) _ h in
      let b = next_both (successes d (of_mark mark.Success 0 ts) s e) _ a.1 in
      let c = next_both (prompts (of_mark mark.Prompt 0 ts) s e) (errors (of_mark mark.Error 0 ts) s e) b.1 in
      let o = next_both (custom_success (first_custom (of_mark mark.Success 0 ts) s e) s e) _ b.0 in
      let f = next_both (line_success s e fixed.Ok (find_in (fixed_text fixed.Ok) s e)) _ o.1 in
      let g = next_both (custom_prompts (of_mark mark.Prompt 0 ts) s e) _ c.0 in
      let i = next_both (prompt_tried (prompt_from 62 s e) 62 s) _ g.1 in
      let j = next_both (custom_error (first_custom (of_mark mark.Error 0 ts) s e)) _ c.1 in
      let k = next_both (numeric_errors s e) _ j.1 in
      let n = next_both (line_errors s e) _ k.1 in
      record {
        heard_none = a.0;
        custom_ok = success_nowhere s e (first_custom (of_mark mark.Success 0 ts) s e) o.0;
        success = f.0;
        connect = f.1;
        customs = g.0;
        greater = i.0;
        at_sign = i.1;
        custom_bad = error_nowhere (first_custom (of_mark mark.Error 0 ts) s e) j.0;
        number = k.0;
        error = n.0;
        na = n.1;
      }

  module _ (w : Silent) (inside : e ≤ length s) where
    -- no CONNECT line stands there, neither the bare one nor one with text
    no_connect : connect_at d s e ≡ None
    no_connect = connect_none d s e w.connect e (omega arith)

    no_bare : stands (fixed_text fixed.Connect) (drop e s) 0 ≡ true → ⊥
    no_bare h = found_nothing (sym (connect_bare d s e (stands_here (fixed_text fixed.Connect) s e ∙ h)) ∙ no_connect)

    no_texted : (n : ℕ) → hears_text d ≡ true → TextLine (drop e s) n → ⊥
    unfolding through_crlf
    no_texted n h v =
        let c : connect_at d s e ≡ Some (e + v.q + 2) = connect_text d s e h (stands_here (fixed_text fixed.ConnectText) s e ∙ v.head) ∙ ap through_crlf (texted_is s e n v) in
        found_nothing (sym c ∙ no_connect)

    no_fixed_lem : (n : ℕ) → AnyOf (λ l. Line (fixed_text l) (drop e s) n) nine → ⊥
    no_fixed_lem n (inl h) = no_text_lem (fixed_text fixed.Ok) (line_success_nowhere s e fixed.Ok (find_in (fixed_text fixed.Ok) s e) w.success) h.0
    no_fixed_lem n (inr (inl h)) = no_bare h.0
    no_fixed_lem n (inr (inr h)) =
        let P : Fixed → Type 0 = λ l. Line (fixed_text l) (drop e s) n in
        ⊎_elim
        (λ (r : AnyOf P error_lines). none_of _ P (λ l y v. no_text_lem (fixed_text l) (line_nowhere l (find_in (fixed_text l) s e) y) v.0) error_lines w.error r)
        (λ (r : AnyOf P (fixed.Na ∷ [])). some_any (λ l. Line (fixed_text fixed.Na) (drop e s) n) ⊥ (λ l v. no_head w.na v.0) (fixed.Na ∷ []) r)
        (some_split P error_lines (fixed.Na ∷ []) h)

    pub no_alone : (c : ℕ) → prompt_tried (prompt_from c s e) c s ≡ None → FirstAlone c (drop e s) → ⊥
    no_alone c h v = no_prompt (prompt_from c s e) c h (prompt_moved c s e inside ∙ alone_is c (drop e s) v)

    pub nothing_here : (n : ℕ) → Item d ts (drop e s) n → ⊥
    nothing_here n (items.notice h) = no_notice n (of_mark mark.Notice 0 ts) w.heard_none h
    nothing_here n (items.line h) = no_fixed_lem n h
    nothing_here n (items.text z h) = no_texted n z h
    nothing_here n (items.custom_success h) = no_custom_lem (of_mark mark.Success 0 ts) w.custom_ok (some_map (λ x. Line (wrapped x.text) (drop e s) n) (λ x. stands (wrapped x.text) (drop e s) 0 ≡ true) (λ x v. v.0) (of_mark mark.Success 0 ts) h)
    nothing_here n (items.custom_error h) = no_custom_lem (of_mark mark.Error 0 ts) w.custom_bad (some_map (λ x. Line (wrapped x.text) (drop e s) n) (λ x. stands (wrapped x.text) (drop e s) 0 ≡ true) (λ x v. v.0) (of_mark mark.Error 0 ts) h)
    nothing_here n (items.numeric h) = none_of _ (λ x. NumericEnded (fixed_text x) (drop e s) n) (no_numeric n) heads w.number h
    nothing_here n (items.prompt (inl h) g) = no_alone 62 w.greater h
    nothing_here n (items.prompt (inr h) g) = no_alone 64 w.at_sign h
    nothing_here n (items.custom_prompt h g) = no_customs (of_mark mark.Prompt 0 ts) (mark_texts mark.Prompt 0 ts good) w.customs h
