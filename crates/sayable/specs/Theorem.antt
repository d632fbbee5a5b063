-- R-12 in closed form: under the empty table an answer is read back exactly when it is `Sayable` (`sayable`, `writes`).
-- The fixed lines and prompts are written by computation; Oks and codes by their own files; that nothing else is heard, by what the digester can say at all.
use Rattle.std.specs.Prelude.{Option, Some, None, ◌≡◌, true, false, List, [], ◌∷◌, ℕ, ◌+◌, length, eqb, leb}
use Rattle.std.proofs.Math.Path.{refl}
use Rattle.std.proofs.Common.{sym, ap, subst, ◌∙◌, arith, eqb-true}
use Rattle.std.proofs.lemmas.Bool.{not-true}
use Rattle.outcome.specs.Laws.{ways}
use Rattle.text.specs.Logic.{false_true, and_both}
use Rattle.text.specs.Text.{is_blank, past, trimmed, trimmed_part, stands, find_in, part_of}
use Rattle.table.specs.Table.{ruling, tokens, of_mark}
use Rattle.lines.specs.declared.Digester.TheVariants.{Verbose}
use Rattle.parser.specs.Parser.{numeric_error, prompt_from}
use Rattle.answers.specs.Answer.{has_number, is_found}
use Rattle.answers.specs.declared.Kind.{Kind}
use Rattle.answers.specs.declared.Kind.TheVariants as kind
use Rattle.answers.specs.declared.Answer.{Answer}
use Rattle.digest.specs.Digest.{digest_in, digest}
use Rattle.writer.specs.Writer.{written, gives, reads_back}
use Rattle.sayable.specs.Sayable.{Payload, Sayable, ok, cme, cms, error, no_carrier, busy, no_answer, no_dialtone, greater, sign}
use Rattle.sayable.specs.Empty.{heard_of, HeardBack, heard_back, back_heard}
use Rattle.sayable.specs.Told.{is_other, given_of, digest_told}
use Rattle.sayable.specs.Oks.{ok_back, payload_back}
use Rattle.sayable.specs.Codes.{cme_back, cms_back}

-- where nothing is written, nothing is heard
unwritten : is_found (digest_in Verbose [] []) ≡ false
unfolding digest_in of_mark past stands find_in numeric_error prompt_from
unwritten = refl

-- the number that was given is the answer's
given_back : (g : Option ℕ) (a : Answer) → gives g a ≡ true → given_of a.kind a.number ≡ g
unfolding gives
given_back None a h = rw (not-true (has_number a.kind) h)
given_back (Some n) a h = let w = and_both (has_number a.kind) (eqb a.number n) h in rw (w.0, eqb-true a.number n w.1)

part_empty : (s : List ℕ) (p : ℕ) → part_of s p 0 ≡ []
unfolding part_of
part_empty s p = ways (λ (l : List ℕ). l ≡ []) (leb (p + 0) (length s)) (λ q. refl) (λ q. refl)

-- of these kinds what is heard can be said
others : (k : Kind) (g : Option ℕ) (p : List ℕ) → is_other k ≡ true → HeardBack k g p → Sayable k g p
others k g p o w =
    let a = heard_of k g p in
    let t = digest_told Verbose (written k g p) (ap is_other w.kind ∙ o) in
    let e : [] ≡ p = sym (w.payload ∙ ap (part_of (written k g p) a.payload.start) t.0 ∙ part_empty (written k g p) a.payload.start) in
    subst (λ (j : Kind). Sayable j g p) w.kind (subst (λ (x : Option ℕ). Sayable a.kind x p) (given_back g a w.number) (subst (λ (l : List ℕ). Sayable a.kind (given_of a.kind a.number) l) e t.1))

-- What is read back under the empty table can be said;
pub sayable : (k : Kind) (g : Option ℕ) (p : List ℕ) → reads_back [] k g p ≡ true → Sayable k g p
sayable k g p h = go k g p (heard_back k g p h)
  where
    go : (k : Kind) (g : Option ℕ) (p : List ℕ) → HeardBack k g p → Sayable k g p
    go kind.None g p w = unfold written in absurd (false_true w.found unwritten)
    go kind.Ok None p w = ok (ok_back p w)
    go kind.Ok (Some n) p w = unfold gives in absurd (false_true w.number (rw w.kind))
    go kind.Prompt g p w = others kind.Prompt g p refl w
    go kind.Cme g p w = others kind.Cme g p refl w
    go kind.Cms g p w = others kind.Cms g p refl w
    go kind.Unknown g p w = unfold written in absurd (false_true w.found unwritten)
    go kind.NotAllowed g p w = unfold written in absurd (false_true w.found unwritten)
    go kind.Error g p w = others kind.Error g p refl w
    go kind.NoCarrier g p w = others kind.NoCarrier g p refl w
    go kind.Busy g p w = others kind.Busy g p refl w
    go kind.NoAnswer g p w = others kind.NoAnswer g p refl w
    go kind.NoDialtone g p w = others kind.NoDialtone g p refl w
    go kind.Custom g p w = others kind.Custom g p refl w
    go kind.Notice g p w = others kind.Notice g p refl w

ok_writes : (p : List ℕ) → Payload p → reads_back [] kind.Ok None p ≡ true
unfolding reads_back digest ruling tokens of_mark trimmed_part is_blank past trimmed stands find_in part_of
ok_writes [] w = refl
ok_writes (x ∷ p) w = back_heard kind.Ok None (x ∷ p) (payload_back (x ∷ p) w (omega arith))

-- what can be said is read back.
pub writes : {k : Kind} {g : Option ℕ} {p : List ℕ} → Sayable k g p → reads_back [] k g p ≡ true
unfolding reads_back digest ruling tokens of_mark is_blank past stands find_in part_of numeric_error prompt_from
writes {p = p} (ok w) = ok_writes p w
writes (cme {n} h) = back_heard kind.Cme (Some n) [] (cme_back n h)
writes (cms {n} h) = back_heard kind.Cms (Some n) [] (cms_back n h)
writes error = refl
writes no_carrier = refl
writes busy = refl
writes no_answer = refl
writes no_dialtone = refl
writes greater = refl
writes sign = refl
