-- Where no place of the input holds a CONNECT line with text, every digester answers as document 01's does (`same_without`), refusals included (`digest_without`):
-- so equality with the Rust, which is that digester's, holds for such inputs, and is claimed for no others (R-3).
use mathlib.Core.Path.{◌≡◌, refl, sym, ap, ◌∙◌}
use mathlib.Core.Bool.{Bool, true, false}
use mathlib.Core.List.{List, []}
use Prim.Native.Nat.{ℕ, ◌+◌, ◌-◌}
use lib.ListN.{length, drop}
use lib.Seq.{drop-drop}
use lib.Dec.{leb, ltb}
use borrow.Author.Tests.{leb-false}
use Rattle.std.specs.Prelude.{Option, Some, None, if◌then◌else◌}
use Rattle.outcome.specs.Outcome.{Outcome, answered, refused}
use Rattle.text.specs.Bytes.{bytes}
use Rattle.text.specs.Logic.{false_true}
use Rattle.text.specs.Text.{find_in}
use Rattle.text.specs.Laws.{found_at, found_none, stands_front}
use Rattle.table.specs.Table.{Token, Entry, of_mark, tokens, ruling}
use Rattle.table.specs.declared.Mark.TheVariants as mark
use Rattle.lines.specs.Lines.{crlf, fixed_text, earlier, connect_place}
use Rattle.lines.specs.declared.Digester.{Digester}
use Rattle.lines.specs.declared.Digester.TheVariants as digester
use Rattle.lines.specs.declared.Fixed.TheVariants as fixed
use Rattle.items.specs.Rules.{or_else, skipped, notices, first_custom, custom_success, line_success, through_crlf, first_connect, connected, connect_success, successes, prompts, errors, tried}
use Rattle.items.specs.Connect.{connect_bare, connect_text, behind_head}
use Rattle.answers.specs.declared.Answer.{Answer}
use Rattle.digest.specs.Digest.{after, digest_in, under_table, digest}
use Rattle.digest.specs.Finished.{TextLine}
use Rattle.digest.specs.Items.{texted_told}
use Rattle.digest.specs.Step.{by_length, after_same, rest_shorter, digest_step}

-- no place of s holds a CONNECT line with text
abbrev pub NoText : List ℕ → Type 0
NoText s = (k n : ℕ) → TextLine (drop k s) n → ⊥

module _ (s : List ℕ) (none : NoText s) (e : ℕ) where
  -- a head has no CRLF behind it
  unended : (k : ℕ) → find_in (fixed_text fixed.ConnectText) s e ≡ Some k → find_in crlf s (k + 10) ≡ None
  unended k p = go (find_in crlf s (k + 10)) refl
    where
      go : (r : Option ℕ) → find_in crlf s (k + 10) ≡ r → r ≡ None
      go (Some q) h = absurd (none k (q + 2 - k) (texted_told s k (found_at (fixed_text fixed.ConnectText) s e k p).here q h))
      go None h = refl

  -- the bare line is the same to both
  bare_same : (j : ℕ) → find_in (fixed_text fixed.Connect) s e ≡ Some j → connect_success digester.Connect s e (Some j) ≡ connect_success digester.Verbose s e (Some j)
  unfolding connect_success
  bare_same j p =
      let h = (found_at (fixed_text fixed.Connect) s e j p).here in
      ap (connected s e j) (connect_bare digester.Connect s j h ∙ sym (connect_bare digester.Verbose s j h))

  alone_same : (k : ℕ) → find_in (fixed_text fixed.ConnectText) s e ≡ Some k → connect_success digester.Connect s e (Some k) ≡ None
  unfolding connect_success through_crlf connected
  alone_same k p =
      let w = found_at (fixed_text fixed.ConnectText) s e k p in
      ap (connected s e k) (connect_text digester.Connect s k refl w.here ∙ ap through_crlf (unended k p))

  earlier_same : (j k : ℕ) → find_in (fixed_text fixed.Connect) s e ≡ Some j → find_in (fixed_text fixed.ConnectText) s e ≡ Some k → (b : Bool) → leb j k ≡ b → connect_success digester.Connect s e (if b then Some j else Some k) ≡ connect_success digester.Verbose s e (Some j)
  earlier_same j k p q true l = bare_same j p
  earlier_same j k p q false l =
      let v = found_at (fixed_text fixed.Connect) s e j p in
      let w = found_at (fixed_text fixed.ConnectText) s e k q in
      let c = stands_front crlf (bytes "CONNECT\r\n") s j v.here in
      absurd (false_true c (found_none crlf s (k + 10) (unended k q) j (behind_head digester.Connect s k j w.here (leb-false j k l) c)))

  connect_same : connect_success digester.Connect s e (first_connect digester.Connect s e) ≡ connect_success digester.Verbose s e (first_connect digester.Verbose s e)
  unfolding first_connect connect_place earlier
  connect_same = go (find_in (fixed_text fixed.Connect) s e) refl (find_in (fixed_text fixed.ConnectText) s e) refl
    where
      go : (x : Option ℕ) → find_in (fixed_text fixed.Connect) s e ≡ x → (y : Option ℕ) → find_in (fixed_text fixed.ConnectText) s e ≡ y → connect_success digester.Connect s e (earlier x y) ≡ connect_success digester.Verbose s e x
      go (Some j) p (Some k) q = earlier_same j k p q (leb j k) refl
      go (Some j) p None q = bare_same j p
      go None p (Some k) q = alone_same k q ∙ (unfold connect_success in refl)
      go None p None q = unfold connect_success in refl

  successes_same : (d : Digester) (l : List Entry) → successes d l s e ≡ successes digester.Verbose l s e
  unfolding successes
  successes_same digester.Verbose l = refl
  successes_same digester.Connect l = ap (λ (t : Option Answer). or_else (custom_success (first_custom l s e) s e) (or_else (line_success s e fixed.Ok (find_in (fixed_text fixed.Ok) s e)) t)) connect_same

  tried_same : (d : Digester) (ts : List Token) → tried d ts s e ≡ tried digester.Verbose ts s e
  unfolding tried
  tried_same d ts =
      ap (λ (t : Option Answer). or_else (notices (of_mark mark.Notice 0 ts) s e) (or_else t (or_else (prompts (of_mark mark.Prompt 0 ts) s e) (errors (of_mark mark.Error 0 ts) s e)))) (successes_same d (of_mark mark.Success 0 ts))

-- what has no longer line has none in its suffixes
suffix_without : (s : List ℕ) (m : ℕ) → NoText s → NoText (drop m s)
suffix_without s m h k n w = h (m + k) n (rw (drop-drop k m s) at w)

pub same_without : (d : Digester) (ts : List Token) (s : List ℕ) → NoText s → digest_in d ts s ≡ digest_in digester.Verbose ts s
same_without d ts =
    by_length (λ s. NoText s → digest_in d ts s ≡ digest_in digester.Verbose ts s)
    (λ s ih h.
    let e = skipped s in
    digest_step d ts s ∙ ap (after s (digest_in d ts) e) (tried_same s h e d ts)
    ∙ after_same s (digest_in d ts) (digest_in digester.Verbose ts) e (tried digester.Verbose ts s e) (λ q. ih (drop (e + 2) s) (rest_shorter s e q) (suffix_without s (e + 2) h))
    ∙ sym (digest_step digester.Verbose ts s))

under_without : (x : Outcome ℕ) (d : Digester) (t s : List ℕ) → NoText s → under_table x d t s ≡ under_table x digester.Verbose t s
unfolding under_table
under_without (answered n) d t s h = ap answered (same_without d (tokens t) s h)
under_without (refused n v) d t s h = refl

pub digest_without : (d : Digester) (t s : List ℕ) → NoText s → digest d t s ≡ digest digester.Verbose t s
unfolding digest
digest_without d t s h = ap (λ (o : Outcome Answer). if ltb 4096 (length s) then refused 1 [] else o) (under_without (ruling t) d t s h)
