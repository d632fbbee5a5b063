-- To be read back under the empty table, taken apart (`heard_back`) and put together (`back_heard`), by what the digester hears in what is written.
-- Rests on the empty table's having no records, by computation.
use Rattle.std.specs.Prelude.{Option, Some, ◌≡◌, Bool, ℕ, ◌≤◌, length, ltb, if◌then◌else◌}
use Rattle.std.proofs.Math.Path.{refl}
use Rattle.std.proofs.Common.{sym, ap, ◌∙◌, le-ltb, ltb-false}
use Rattle.std.proofs.Math.Bool.{true, false}
use mathlib.Core.List.{List, []}
use Rattle.outcome.specs.Outcome.{answered, refused}
use Rattle.text.specs.Logic.{false_true}
use Rattle.text.specs.Text.{part_of}
use Rattle.table.specs.Table.{ruling, tokens}
use Rattle.lines.specs.declared.Digester.TheVariants.{Verbose}
use Rattle.answers.specs.Answer.{is_found}
use Rattle.answers.specs.Laws.{kind_one}
use Rattle.answers.specs.declared.Kind.{Kind}
use Rattle.answers.specs.declared.Answer.{Answer}
use Rattle.items.specs.Rules.{skipped, tried}
use Rattle.digest.specs.Digest.{digest_in, digest}
use Rattle.digest.specs.Step.{done_is}
use Rattle.writer.specs.Writer.{written, gives, heard_as, heard_in, reads_back}
use Rattle.writer.specs.Laws.{read_found, read_kind, read_number, read_same, read_whole}
use Rattle.sayable.specs.Said.{same_is, heard_so}

-- what the digester hears in what is written
abbrev pub heard_of : Kind → Option ℕ → List ℕ → Answer
heard_of k g p = digest_in Verbose [] (written k g p)

-- it is read back
pub record HeardBack (k : Kind) (g : Option ℕ) (p : List ℕ) : Type 0 where
  pub short : length (written k g p) ≤ 4096
  pub found : is_found (heard_of k g p) ≡ true
  pub kind : (heard_of k g p).kind ≡ k
  pub number : gives g (heard_of k g p) ≡ true
  pub payload : p ≡ part_of (written k g p) (heard_of k g p).payload.start (heard_of k g p).payload.len
  pub whole : (heard_of k g p).consumed ≡ length (written k g p)

-- where nothing is skipped, what rules 2 to 5 answer is what is heard
pub done_heard : (s : List ℕ) → skipped s ≡ 0 → (a : Answer) → tried Verbose [] s 0 ≡ Some a → digest_in Verbose [] s ≡ a
done_heard s z a e = done_is Verbose [] s a (ap (tried Verbose [] s) z ∙ e)

module _ (k : Kind) (g : Option ℕ) (p : List ℕ) where
  at_digest : (if ltb 4096 (length (written k g p)) then false else heard_as k g p (written k g p) (heard_of k g p)) ≡ reads_back [] k g p
  unfolding reads_back digest ruling tokens
  at_digest = go (ltb 4096 (length (written k g p)))
    where
      go : (b : Bool) → (if b then false else heard_as k g p (written k g p) (heard_of k g p)) ≡ heard_in k g p (written k g p) (if b then refused 1 [] else answered (heard_of k g p))
      go true = refl
      go false = refl

  pub heard_back : reads_back [] k g p ≡ true → HeardBack k g p
  heard_back h = go (ltb 4096 (length (written k g p))) refl (at_digest ∙ h)
    where
      go : (b : Bool) → ltb 4096 (length (written k g p)) ≡ b → (if b then false else heard_as k g p (written k g p) (heard_of k g p)) ≡ true → HeardBack k g p
      go true e q = absurd (false_true q refl)
      go false e q =
          let a = heard_of k g p in
          let b = written k g p in
          record {
            short = ltb-false 4096 (length b) e;
            found = read_found k g p b a q;
            kind = kind_one a.kind k (read_kind k g p b a q);
            number = read_number k g p b a q;
            payload = sym (same_is p (part_of b a.payload.start a.payload.len) (read_same k g p b a q));
            whole = read_whole k g p b a q;
          }

  pub back_heard : HeardBack k g p → reads_back [] k g p ≡ true
  back_heard w =
      let a = heard_of k g p in
      let b = written k g p in
      sym at_digest ∙ rw (le-ltb 4096 (length b) w.short) (heard_so k g p b a w.found w.kind w.number (sym w.payload) w.whole)
