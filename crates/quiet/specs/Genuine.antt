-- Where the findings are genuine, those of s, and s is still by them, a digest of s finds nothing and consumes nothing.
-- Rests on `nothing_unchecked`, and on scan's theorem: each end that a pass tells is that of the text's first occurrence.
use Rattle.std.specs.Prelude.{Option, Some, None, is_some, ◌≡◌, refl, ◌⊎◌, Bool, false, ◌&&◌, ◌||◌, ℕ, ◌+◌, ◌≤◌, ◌<◌, eqb}
use Rattle.std.proofs.Common.{sym, ◌∙◌, arith}
use Rattle.std.proofs.Math.Path.{ap}
use Rattle.std.proofs.Math.Logic.{inl, inr, ⊎_elim}
use Rattle.std.proofs.Math.Bool.{true, not}
use mathlib.Core.List.{List, [], ◌∷◌, foldl}
use Rattle.std.proofs.Math.ListN.{length, get_or}
use Rattle.std.proofs.Math.Dec.{leb}
use borrow.Author.Tests.{leb-true, eqb-true, not-true}
use Rattle.outcome.specs.Outcome.{answered}
use Rattle.text.specs.Bytes.{bytes}
use Rattle.text.specs.Logic.{false_true, and_both}
use Rattle.text.specs.Text.{find_in}
use Rattle.text.specs.Laws.{found_none}
use Rattle.table.specs.Table.{record_at, then_tokens, tokens_by, tokens, entries, ruling}
use Rattle.table.specs.declared.Mark.TheVariants as mark
use Rattle.lines.specs.Lines.{hears_text, fixed_text}
use Rattle.lines.specs.declared.Digester.{Digester}
use Rattle.lines.specs.declared.Fixed.{Fixed}
use Rattle.lines.specs.declared.Fixed.TheVariants as fixed
use Rattle.scan.specs.Words.{texts, text_of}
use Rattle.scan.specs.Scan.{end_of}
use Rattle.scan.proofs.Theorem.{first_end, scanned_firsts}
use Rattle.findings.specs.Findings.{findings_of}
use Rattle.answers.specs.Answer.{nothing}
use Rattle.items.specs.Rules.{skipped, custom_prompts, heads}
use Rattle.digest.specs.Digest.{digest_unchecked}
use Rattle.digest.specs.Finished.{nine}
use Rattle.selector.specs.Selector.{choice}
use Rattle.selector.specs.declared.Selector.{Selector}
use Rattle.selector.specs.declared.Selector.TheVariants.{Verbal, Numeric}
use Rattle.quiet.specs.Quiet.{counts, Absent, told_end, no_fixed, unended, no_number, no_text, no_line, no_custom, no_byte, still}
use Rattle.quiet.specs.Laws.{found_counts, counts_absent}
use Rattle.quiet.specs.Nothing.{Each, Unended, NoLine, Quiet, nothing_unchecked}

or_either : (a b : Bool) → a || b ≡ true → (a ≡ true) ⊎ (b ≡ true)
or_either true b e = inl refl
or_either false b e = inr e

-- where each of the list passes p, what P and that come to holds of each
every_so : {A : Type 0} (p : A → Bool) (P Q : A → Type 0) → ((x : A) → P x → p x ≡ true → Q x) → (l : List A) (b : Bool) → foldl (λ (c : Bool) x. c && p x) b l ≡ true → Each P l → (b ≡ true) × Each Q l
every_so p P Q f [] b e v = (e, tt)
every_so p P Q f (x ∷ l) b e v =
    let w = every_so p P Q f l (b && p x) e v.1 in
    let c = and_both b (p x) w.0 in
    (c.0, (f x v.0 c.1, w.1))

none_is : {A : Type 0} (r : Option A) → not (is_some r) ≡ true → r ≡ None
none_is (Some k) e = absurd (false_true e refl)
none_is None e = refl

-- a table of no bytes has no record
no_tokens : (t : List ℕ) → length t ≡ 0 → tokens t ≡ []
unfolding tokens tokens_by then_tokens record_at
no_tokens t e = rw e

module _ (s : List ℕ) where
  -- the end that is told is that of the first occurrence
  abbrev Told : Fixed → Type 0
  Told l = told_end (findings_of s) l ≡ end_of (fixed_text l) (find_in (fixed_text l) s 0)

  end_told : (k : ℕ) → k < 11 → get_or (findings_of s).ends k 0 ≡ end_of (text_of k) (find_in (text_of k) s 0)
  unfolding findings_of
  end_told k h = ap (λ (l : List ℕ). get_or l k 0) (scanned_firsts 0 s) ∙ first_end 0 s k h

  nine_told : Each Told nine
  unfolding texts findings_of
  nine_told = (end_told 0 (omega arith), (end_told 1 (omega arith), (end_told 2 (omega arith), (end_told 3 (omega arith), (end_told 4 (omega arith), (end_told 5 (omega arith), (end_told 6 (omega arith), (end_told 7 (omega arith), (refl, tt)))))))))

  heads_told : Each Told heads
  unfolding texts
  heads_told = (end_told 8 (omega arith), (end_told 9 (omega arith), (end_told 10 (omega arith), tt)))

  line_absent : (l : Fixed) → Told l → not (counts (fixed_text l) s (told_end (findings_of s) l)) ≡ true → Absent (fixed_text l) s
  line_absent l e h = counts_absent (fixed_text l) s (ap (counts (fixed_text l) s) (sym e) ∙ not-true _ h)

  head_unended : (h : Fixed) → Told h → unended (fixed_text h) s (findings_of s).lf (told_end (findings_of s) h) ≡ true → Unended (fixed_text h) s
  unfolding unended end_of findings_of
  head_unended h e w k q =
      let m : told_end (findings_of s) h ≡ k + length (fixed_text h) = e ∙ ap (end_of (fixed_text h)) q in
      ⊎_elim
      (λ (g : leb (findings_of s).lf (told_end (findings_of s) h) ≡ true). omega (arith, m, leb-true (findings_of s).lf (told_end (findings_of s) h) g))
      (λ (g : not (counts (fixed_text h) s (told_end (findings_of s) h)) ≡ true). absurd (false_true (found_counts (fixed_text h) s k q) (ap (counts (fixed_text h) s) (sym m) ∙ not-true _ g)))
      (or_either (leb (findings_of s).lf (told_end (findings_of s) h)) (not (counts (fixed_text h) s (told_end (findings_of s) h))) w)

  text_absent : (d : Digester) → no_text d s ≡ true → hears_text d ≡ true → Absent (fixed_text fixed.ConnectText) s
  unfolding no_text
  text_absent d e h j = found_none (fixed_text fixed.ConnectText) s 0 (none_is (find_in (fixed_text fixed.ConnectText) s 0) (rw h at e)) j (omega arith)

module _ (d : Digester) (t s : List ℕ) (e : still (Verbal d) t (findings_of s) s ≡ true) where
  parts : (no_line d t (findings_of s) s ≡ true) × ((no_byte s (findings_of s).last ≡ true) × ((no_custom t s ≡ true) × (skipped s ≡ 0)))
  unfolding still
  parts =
      let a = and_both (no_line d t (findings_of s) s) _ e in
      let b = and_both (no_byte s (findings_of s).last) _ a.1 in
      let c = and_both (no_custom t s) (eqb (skipped s) 0) b.1 in
      (a.0, (b.0, (c.0, eqb-true (skipped s) 0 c.1)))

  no_line_lem : eqb (length t) 0 && (no_fixed (findings_of s) s && no_number (findings_of s) s && no_text d s) ≡ true → NoLine d (tokens t) s
  unfolding no_fixed no_number
  no_line_lem h =
      let a = and_both (eqb (length t) 0) _ h in
      let b = and_both (no_fixed (findings_of s) s && no_number (findings_of s) s) (no_text d s) a.1 in
      let c = and_both (no_fixed (findings_of s) s) (no_number (findings_of s) s) b.0 in
      record {
        table = no_tokens t (eqb-true (length t) 0 a.0);
        lines = (every_so (λ l. not (counts (fixed_text l) s (told_end (findings_of s) l))) (Told s) (λ l. Absent (fixed_text l) s) (line_absent s) nine true c.0 (nine_told s)).1;
        numbers = (every_so (λ h. unended (fixed_text h) s (findings_of s).lf (told_end (findings_of s) h)) (Told s) (λ h. Unended (fixed_text h) s) (head_unended s) heads true c.1 (heads_told s)).1;
        text = text_absent s d b.1;
      }

  quiet : Quiet d (tokens t) s
  unfolding no_line no_byte no_custom findings_of entries tokens
  quiet =
      let b = and_both (not (counts (bytes ">") s (findings_of s).last)) (not (counts (bytes "@") s (findings_of s).last)) parts.1.0 in
      record {
        greater = not-true _ b.0;
        at_sign = not-true _ b.1;
        customs = none_is (custom_prompts (entries mark.Prompt t 0 0) s 0) parts.1.1.0;
        lines = ⊎_elim (λ (g : leb (findings_of s).lf 3 ≡ true). inl (omega (arith, leb-true (findings_of s).lf 3 g))) (λ g. inr (no_line_lem g)) (or_either (leb (findings_of s).lf 3) _ parts.0);
      }

-- THE THEOREM: what is still isn't worth a digest, under a good table
pub still_right : (d : Digester) (t s : List ℕ) (n : ℕ) → ruling t ≡ answered n → length s ≤ 4096 → still (Verbal d) t (findings_of s) s ≡ true → digest_unchecked d t s ≡ nothing 0
still_right d t s n g l e = nothing_unchecked d t s n g l (quiet d t s e) ∙ ap nothing (parts d t s e).1.1.1

-- and under any selector
pub still_answers : (x : Selector) (t s : List ℕ) (n : ℕ) → (choice x t).rules ≡ answered n → length s ≤ 4096 → still x t (findings_of s) s ≡ true → (choice x t).answers s ≡ nothing 0
unfolding still
still_answers (Verbal d) t s n g l e = still_right d t s n g l e
still_answers Numeric t s n g l e = absurd (false_true e refl)
