-- Laws of the writer: the texts one behind the other in memory of 4,112 bytes, what the tests on the answer decide, and the ways out of `say`.
use Rattle.std.specs.Prelude.{IsErrAnd, Option, Some, None, Result, Ok, Err, ◌≡◌, refl, Bool, true, false, ◌&&◌, ℕ, ◌+◌, ◌≤◌, ◌<◌, length, eqb, leb, ltb}
use Rattle.std.proofs.Common.{sym, ◌∙◌, arith, length-take, length-drop}
use Rattle.std.proofs.Math.Path.{ap}
use mathlib.Core.List.{List, [], ◌∷◌, ◌++◌}
use Rattle.std.proofs.Math.ListN.{take, length-append}
use borrow.Author.Tests.{eqb-true}
use Rattle.outcome.specs.Outcome.{Outcome, answered, refused}
use Rattle.outcome.specs.Laws.{ways}
use Rattle.text.specs.Bytes.{bytes}
use Rattle.text.specs.Logic.{not_true_false, and_both}
use Rattle.text.specs.Text.{part_of}
use Rattle.table.specs.Table.{ruling}
use Rattle.table.specs.Table as tables
use Rattle.table.specs.declared.TableError.{TableError}
use Rattle.table.specs.declared.TableError.TheVariants as faulty
use Rattle.lines.specs.Lines.{crlf, fixed_text}
use Rattle.lines.specs.declared.Digester.TheVariants.{Verbose}
use Rattle.lines.specs.declared.Fixed.TheVariants as fixed
use Rattle.moves.specs.Moves.{put}
use Rattle.moves.specs.Laws.{put_there}
use Rattle.ink.specs.Ink.{Ink, inked, ink, decimal}
use Rattle.ink.specs.Laws.{ink_is, ink_none, then_ink, decimal_length}
use Rattle.answers.specs.Answer.{kind_number, has_number, is_found}
use Rattle.answers.specs.declared.Kind.{Kind}
use Rattle.answers.specs.declared.Kind.TheVariants as kind
use Rattle.answers.specs.declared.Answer.{Answer}
use Rattle.answers.specs.declared.DigestError.{DigestError}
use Rattle.answers.specs.declared.DigestError.TheVariants as digests
use Rattle.answers.specs.Answer as answers
use Rattle.digest.specs.Digest.{digest}
use Rattle.digest.specs.Calls.{digest_long}
use Rattle.writer.specs.declared.SayError.{SayError}
use Rattle.writer.specs.declared.SayError.TheVariants as says
use Rattle.writer.specs.Writer.{line, ok_with, coded, prompted, written, gives, same, heard_as, heard_in, reads_back, Saying, outcome, saying, laid_out, table_error, say_under, say}

-- texts, one behind the other
module _ (o : List ℕ) (n : ℕ) where
  pub line_put : (p : List ℕ) → n + (4 + length p) ≤ length o → (o₁ : List ℕ) (n₁ : ℕ) → inked o₁ n₁ ≡ ink o n crlf → (o₂ : List ℕ) (n₂ : ℕ) → inked o₂ n₂ ≡ ink o₁ n₁ p → (r : Ink) → r ≡ ink o₂ n₂ crlf → r ≡ ink o n (line p)
  unfolding line
  line_put p h o₁ n₁ e₁ o₂ n₂ e₂ r e₃ =
      then_ink o n (crlf ++ p) crlf o₂ n₂ r (then_ink o n crlf p o₁ n₁ (inked o₂ n₂) e₁ e₂ (omega arith)) e₃ (omega (arith, length-append crlf p))

  pub coded_put : n + 36 ≤ length o → (h : List ℕ) → length h ≡ 13 → (m : ℕ) (o₁ : List ℕ) (n₁ : ℕ) → inked o₁ n₁ ≡ ink o n h → (o₂ : List ℕ) (n₂ : ℕ) → inked o₂ n₂ ≡ ink o₁ n₁ (bytes " ") → (o₃ : List ℕ) (n₃ : ℕ) → inked o₃ n₃ ≡ ink o₂ n₂ (decimal m) → (r : Ink) → r ≡ ink o₃ n₃ crlf → (g : Option ℕ) → g ≡ Some m → r ≡ ink o n (coded h g)
  unfolding coded
  coded_put l h k m o₁ n₁ e₁ o₂ n₂ e₂ o₃ n₃ e₃ r e₄ g q =
      let d = decimal_length m in
      let a = length-append h (bytes " ") in
      let b = length-append (h ++ bytes " ") (decimal m) in
      then_ink o n (h ++ bytes " " ++ decimal m) crlf o₃ n₃ r
      (then_ink o n (h ++ bytes " ") (decimal m) o₂ n₂ (inked o₃ n₃) (then_ink o n h (bytes " ") o₁ n₁ (inked o₂ n₂) e₁ e₂ (omega arith)) e₃ (omega arith))
      e₄
      (omega arith)
      ∙ ap (λ (x : Option ℕ). ink o n (coded h x)) (sym q)

  pub ok_put : (p : List ℕ) → n + (10 + length p) ≤ length o → (length p ≡ 0 → ⊥) → (o₁ : List ℕ) (n₁ : ℕ) → inked o₁ n₁ ≡ ink o n (line p) → (r : Ink) → r ≡ ink o₁ n₁ (fixed_text fixed.Ok) → r ≡ ink o n (ok_with p)
  unfolding line ok_with
  ok_put [] h z o₁ n₁ e₁ r e₂ = absurd (z refl)
  ok_put (x ∷ p) h z o₁ n₁ e₁ r e₂ =
      then_ink o n (line (x ∷ p)) (fixed_text fixed.Ok) o₁ n₁ r e₁ e₂ (omega (arith, length-append (crlf ++ (x ∷ p)) crlf, length-append crlf (x ∷ p)))

  -- what isn't written leaves the memory as it was
  pub none_put : (p : List ℕ) → [] ≡ p → inked o n ≡ ink o n p
  none_put p e = ink_none o n ∙ ap (ink o n) e

pub ok_alone : (p : List ℕ) → length p ≡ 0 → fixed_text fixed.Ok ≡ ok_with p
unfolding ok_with
ok_alone [] z = refl
ok_alone (x ∷ p) z = absurd (omega arith)

-- what the digest answered
module _ (k : Kind) (g : Option ℕ) (p b : List ℕ) (x : Outcome Answer) where
  pub heard_answered : (a : Answer) → answered a ≡ x → (r : Bool) → r ≡ heard_as k g p b a → r ≡ heard_in k g p b x
  unfolding heard_in
  heard_answered a e r q = q ∙ ap (heard_in k g p b) e

  pub heard_refused : (m : ℕ) (v : List ℕ) → refused m v ≡ x → false ≡ heard_in k g p b x
  unfolding heard_in
  heard_refused m v e = ap (heard_in k g p b) e

  pub heard_failed : (e : DigestError) → answers.outcome (Err e) ≡ x → false ≡ heard_in k g p b x
  heard_failed digests.TooLong q = heard_refused 1 [] q
  heard_failed (digests.BadTable n) q = heard_refused 2 (n ∷ []) q

-- A payload over 4,096 bytes isn't read back: what is digested has at most so many.
part_short : (s : List ℕ) (i n : ℕ) → length (part_of s i n) ≤ length s
unfolding part_of
part_short s i n = ways (λ (x : List ℕ). length x ≤ length s) (leb (i + n) (length s)) (λ q. rw (length-take, length-drop) (omega arith)) (λ q. omega arith)

module _ (k : Kind) (g : Option ℕ) (p b : List ℕ) (a : Answer) (h : heard_as k g p b a ≡ true) where
  -- what a caller may know of an answer that is read back
  pub read_found : is_found a ≡ true
  unfolding heard_as
  read_found = (and_both (is_found a) _ h).0

  rest : eqb (kind_number a.kind) (kind_number k) && (gives g a && (same p (part_of b a.payload.start a.payload.len) && eqb a.consumed (length b))) ≡ true
  unfolding heard_as
  rest = (and_both (is_found a) _ h).1

  pub read_kind : kind_number a.kind ≡ kind_number k
  read_kind = eqb-true (kind_number a.kind) (kind_number k) (and_both (eqb (kind_number a.kind) (kind_number k)) _ rest).0

  pub read_number : gives g a ≡ true
  read_number = (and_both (gives g a) _ (and_both (eqb (kind_number a.kind) (kind_number k)) _ rest).1).0

  ends : same p (part_of b a.payload.start a.payload.len) && eqb a.consumed (length b) ≡ true
  ends = (and_both (gives g a) _ (and_both (eqb (kind_number a.kind) (kind_number k)) _ rest).1).1

  pub read_same : same p (part_of b a.payload.start a.payload.len) ≡ true
  read_same = (and_both (same p (part_of b a.payload.start a.payload.len)) _ ends).0

  read_long : length p ≡ length (part_of b a.payload.start a.payload.len)
  unfolding same
  read_long = eqb-true (length p) (length (part_of b a.payload.start a.payload.len)) (and_both (eqb (length p) (length (part_of b a.payload.start a.payload.len))) _ read_same).0

  pub read_whole : a.consumed ≡ length b
  read_whole = eqb-true a.consumed (length b) (and_both (same p (part_of b a.payload.start a.payload.len)) _ ends).1

heard_long : (t : List ℕ) (k : Kind) (g : Option ℕ) (p b : List ℕ) → 4096 < length p → (x : Outcome Answer) → x ≡ digest Verbose t b → heard_in k g p b x ≡ false
unfolding heard_in
heard_long t k g p b h (refused m v) e = refl
heard_long t k g p b h (answered a) e =
    not_true_false (heard_as k g p b a) (λ q.
    let s : length (part_of b a.payload.start a.payload.len) ≤ length b = part_short b a.payload.start a.payload.len in
    let n = read_long k g p b a q in
    let f = digest_long Verbose t b (omega arith) in
    let z : ◌≡◌ {A = ℕ} 0 1 = cc in
    omega arith)

-- the ways out of `say`
module _ (t : List ℕ) (k : Kind) (g : Option ℕ) (p o : List ℕ) where
  pub say_bad : (e : TableError) → tables.outcome (Err e) ≡ ruling t → (r : Result ℕ SayError) → IsErrAnd r (λ f. f ≡ table_error e) → saying r o ≡ say t k g p o
  unfolding say say_under
  say_bad e q (Ok n) f = absurd f
  say_bad (faulty.Faulty n) q (Err x) f = rw f (ap (λ (y : Outcome ℕ). say_under y t k g p o) q)

  module _ (m : ℕ) (e : answered m ≡ ruling t) where
    under : laid_out (reads_back t k g p) (written k g p) o ≡ say t k g p o
    unfolding say say_under
    under = ap (λ (x : Outcome ℕ). say_under x t k g p o) e

    pub say_long : 4096 < length p → saying (Err says.Unread) o ≡ say t k g p o
    unfolding reads_back laid_out
    say_long h = ap (λ (b : Bool). laid_out b (written k g p) o) (sym (heard_long t k g p (written k g p) h (digest Verbose t (written k g p)) refl)) ∙ under

    pub say_laid : (b : List ℕ) → b ≡ written k g p → (c : Bool) → c ≡ heard_in k g p b (digest Verbose t b) → (r : Saying) → r ≡ laid_out c b o → r ≡ say t k g p o
    unfolding reads_back
    say_laid b w c h r q = q ∙ (λ i. laid_out (h i) b o) ∙ ap (λ (x : List ℕ). laid_out (heard_in k g p x (digest Verbose t x)) x o) w ∙ under

-- The bytes fit, and what stands at the front of the memory is they.
line_length : (p : List ℕ) → length (line p) ≡ 4 + length p
unfolding line
line_length p = rw (length-append, length-append) (omega arith)

given_length : (h : List ℕ) (g : Option ℕ) → length (coded h g) ≤ 23 + length h
unfolding coded
given_length h None = omega arith
given_length h (Some n) = let d = decimal_length n in rw (length-append, length-append, length-append) (omega arith)

prompt_length : (g : Option ℕ) → length (prompted g) ≤ 4
unfolding prompted
prompt_length None = omega arith
prompt_length (Some b) = ways (λ (x : List ℕ). length x ≤ 4) (ltb 255 b) (λ q. omega arith) (λ q. omega arith)

ok_length : (p : List ℕ) → length (ok_with p) ≤ 10 + length p
unfolding ok_with
ok_length [] = omega arith
ok_length (x ∷ p) = let n = line_length (x ∷ p) in rw length-append (omega arith)

written_length : (k : Kind) (g : Option ℕ) (p : List ℕ) → length p ≤ 4096 → length (written k g p) ≤ 4112
unfolding written
written_length kind.None g p h = omega arith
written_length kind.Ok g p h = omega (arith, ok_length p)
written_length kind.Prompt g p h = omega (arith, prompt_length g)
written_length kind.Cme g p h = omega (arith, given_length (fixed_text fixed.Cme) g)
written_length kind.Cms g p h = omega (arith, given_length (fixed_text fixed.Cms) g)
written_length kind.Unknown g p h = omega arith
written_length kind.NotAllowed g p h = omega arith
written_length kind.Error g p h = omega arith
written_length kind.NoCarrier g p h = omega arith
written_length kind.Busy g p h = omega arith
written_length kind.NoAnswer g p h = omega arith
written_length kind.NoDialtone g p h = omega arith
written_length kind.Custom g p h = omega arith
written_length kind.Notice g p h = omega (arith, line_length p)

pub written_part : (k : Kind) (g : Option ℕ) (p : List ℕ) → length p ≤ 4096 → (o o' : List ℕ) (n : ℕ) → length o ≡ 4112 → inked o' n ≡ ink o 0 (written k g p) → take n o' ≡ written k g p
written_part k g p h o o' n l e =
    let b = written k g p in
    let f : 0 + length b ≤ length o = omega (arith, written_length k g p h) in
    let w : inked o' n ≡ inked (put o 0 b) (0 + length b) = e ∙ sym (ink_is o 0 b f) in
    let m : n ≡ length b = omega (arith, ap (λ (x : Ink). x.at) w) in
    let q : o' ≡ put o 0 b = ap (λ (x : Ink). x.out) w in
    (λ i. take (m i) (q i)) ∙ put_there o 0 b f

-- what a call says and leaves is one thing
pub outcome_one : (r q : Result ℕ SayError) → outcome r ≡ outcome q → r ≡ q
outcome_one (Ok n) (Ok m) e = cc
outcome_one (Ok n) (Err (says.BadTable m)) e = let z : ◌≡◌ {A = ℕ} 0 1 = cc in absurd (omega arith)
outcome_one (Ok n) (Err says.Unread) e = let z : ◌≡◌ {A = ℕ} 0 1 = cc in absurd (omega arith)
outcome_one (Ok n) (Err says.Short) e = let z : ◌≡◌ {A = ℕ} 0 1 = cc in absurd (omega arith)
outcome_one (Err (says.BadTable n)) (Ok m) e = let z : ◌≡◌ {A = ℕ} 0 1 = cc in absurd (omega arith)
outcome_one (Err (says.BadTable n)) (Err (says.BadTable m)) e = cc
outcome_one (Err (says.BadTable n)) (Err says.Unread) e = let z : ◌≡◌ {A = ℕ} 2 16 = cc in absurd (omega arith)
outcome_one (Err (says.BadTable n)) (Err says.Short) e = let z : ◌≡◌ {A = ℕ} 2 17 = cc in absurd (omega arith)
outcome_one (Err says.Unread) (Ok m) e = let z : ◌≡◌ {A = ℕ} 0 1 = cc in absurd (omega arith)
outcome_one (Err says.Unread) (Err (says.BadTable m)) e = let z : ◌≡◌ {A = ℕ} 16 2 = cc in absurd (omega arith)
outcome_one (Err says.Unread) (Err says.Unread) e = refl
outcome_one (Err says.Unread) (Err says.Short) e = let z : ◌≡◌ {A = ℕ} 16 17 = cc in absurd (omega arith)
outcome_one (Err says.Short) (Ok m) e = let z : ◌≡◌ {A = ℕ} 0 1 = cc in absurd (omega arith)
outcome_one (Err says.Short) (Err (says.BadTable m)) e = let z : ◌≡◌ {A = ℕ} 17 2 = cc in absurd (omega arith)
outcome_one (Err says.Short) (Err says.Unread) e = let z : ◌≡◌ {A = ℕ} 17 16 = cc in absurd (omega arith)
outcome_one (Err says.Short) (Err says.Short) e = refl

pub saying_one : (w : Saying) (r q : Result ℕ SayError) (m n : List ℕ) → saying r m ≡ w → saying q n ≡ w → (r ≡ q) × (m ≡ n)
saying_one w r q m n e f =
    let g : saying r m ≡ saying q n = e ∙ sym f in
    (outcome_one r q (ap (λ (x : Saying). x.said) g), ap (λ (x : Saying). x.output) g)
