-- R-12 in its user's words. What is written is read back: its digest is that kind, number and payload, and consumes all of it; the output memory holds those bytes and is else as it was
-- (`said_back`). Under a good table refusal 16 is given where it would not be (`unread`), else 17 where the bytes don't fit (`short`), else they are written (`wrote`).
use Rattle.std.proofs.Math.Path.{◌≡◌, refl}
use Rattle.std.proofs.Common.{Option, Some, None, sym, ap, ◌∙◌, zero-add, arith, eqb-true, eq-eqb, ltb-false, lt-ltb, le-ltb}
use Rattle.std.specs.Prelude.{Bool, ◌&&◌, List, [], ℕ, ◌+◌, ◌≤◌, ◌<◌, length, take, drop, eqb, ltb, if◌then◌else◌}
use Rattle.std.proofs.Math.Bool.{true, false, not}
use Rattle.std.proofs.Math.Seq.{drop-append_seam}
use Rattle.std.proofs.lemmas.Bool.{not-true}
use Rattle.outcome.specs.Outcome.{Outcome, answered, refused}
use Rattle.text.specs.Logic.{false_true, not_true_false, and_both}
use Rattle.text.specs.Text.{stands, part_of}
use Rattle.text.specs.Laws.{begins_self, begins_whole}
use Rattle.table.specs.Table.{ruling}
use Rattle.lines.specs.declared.Digester.TheVariants.{Verbose}
use Rattle.moves.specs.Moves.{put}
use Rattle.moves.specs.Laws.{put_is, put_there}
use Rattle.answers.specs.Answer.{Number, none, number, kind_number, has_number, number_of, is_found}
use Rattle.answers.specs.Laws.{kind_one}
use Rattle.answers.specs.declared.Kind.{Kind}
use Rattle.answers.specs.declared.Answer.{Answer}
use Rattle.digest.specs.Digest.{digest}
use Rattle.writer.specs.Writer.{written, gives, same, heard_as, heard_in, reads_back, Saying, laid_out, say_under, say}
use Rattle.writer.specs.Laws.{read_found, read_kind, read_number, read_same, read_whole}

-- the number given, in document 01's terms
abbrev pub given : Option ℕ → Number
given None = none
given (Some n) = number n

-- The bytes b, digested under the table t by document 01's digester, are an answer of this kind, number and payload, and are consumed whole.
pub record Back (t : List ℕ) (k : Kind) (g : Option ℕ) (p b : List ℕ) : Type 0 where
  pub answer : Answer
  pub digested : digest Verbose t b ≡ answered answer
  pub found : is_found answer ≡ true
  pub kind : answer.kind ≡ k
  pub number : number_of answer ≡ given g
  pub payload : part_of b answer.payload.start answer.payload.len ≡ p
  pub whole : answer.consumed ≡ length b

-- the same bytes
pub same_is : (p q : List ℕ) → same p q ≡ true → q ≡ p
unfolding same stands
same_is p q e =
    let h = and_both (eqb (length p) (length q)) _ e in
    begins_whole p q (eqb-true (length p) (length q) h.0) h.1

is_same : (p q : List ℕ) → q ≡ p → same p q ≡ true
unfolding same stands
is_same p q e = rw (e, eq-eqb (length p) (length p) refl) (begins_self p)

-- the number of an answer is the one given
gives_number : (g : Option ℕ) (a : Answer) → gives g a ≡ true → number_of a ≡ given g
unfolding gives
gives_number None a e = rw (not-true (has_number a.kind) e)
gives_number (Some n) a e =
    let h = and_both (has_number a.kind) _ e in
    rw h.0 (ap number (eqb-true a.number n h.1))

abbrev is_none : Number → Bool
is_none none = true
is_none (number n) = false

abbrev or_zero : Number → ℕ
or_zero none = 0
or_zero (number n) = n

number_gives : (g : Option ℕ) (a : Answer) → number_of a ≡ given g → gives g a ≡ true
unfolding gives
number_gives None a e = go (has_number a.kind) refl
  where
    go : (b : Bool) → has_number a.kind ≡ b → not (has_number a.kind) ≡ true
    go true q = absurd (false_true (ap is_none e) (ap (λ (b : Bool). is_none (if b then number a.number else none)) q))
    go false q = rw q
number_gives (Some n) a e = go (has_number a.kind) refl
  where
    go : (b : Bool) → has_number a.kind ≡ b → has_number a.kind && eqb a.number n ≡ true
    go true q = rw (q, eq-eqb a.number n (sym (ap (λ (b : Bool). or_zero (if b then number a.number else none)) q) ∙ ap or_zero e))
    go false q = absurd (false_true (ap (λ (b : Bool). is_none (if b then number a.number else none)) q) (ap is_none e))

-- an answer that passes each test is heard so
pub heard_so : (k : Kind) (g : Option ℕ) (p b : List ℕ) (a : Answer) → is_found a ≡ true → a.kind ≡ k → gives g a ≡ true → part_of b a.payload.start a.payload.len ≡ p → a.consumed ≡ length b → heard_as k g p b a ≡ true
unfolding heard_as
heard_so k g p b a f e n q c = rw (f, eq-eqb (kind_number a.kind) (kind_number k) (ap kind_number e), n, is_same p (part_of b a.payload.start a.payload.len) q, eq-eqb a.consumed (length b) c)

-- behind what is put at the front, the memory is as it was
put_behind : (o b : List ℕ) → 0 + length b ≤ length o → drop (length b) (put o 0 b) ≡ drop (length b) o
put_behind o b l = ap (drop (length b)) (sym (put_is o 0 b l)) ∙ drop-append_seam b (drop (0 + length b) o) ∙ ap (λ (n : ℕ). drop n o) (zero-add (length b))

-- `reads_back` is that
module _ (t : List ℕ) (k : Kind) (g : Option ℕ) (p : List ℕ) where
  abbrev bytes : List ℕ
  bytes = written k g p

  pub reads_back_lem : reads_back t k g p ≡ true → Back t k g p (written k g p)
  unfolding reads_back heard_in
  reads_back_lem h = go (digest Verbose t bytes) refl h
    where
      go : (x : Outcome Answer) → digest Verbose t bytes ≡ x → heard_in k g p bytes x ≡ true → Back t k g p bytes
      go (answered a) e q =
          record {
            answer = a;
            digested = e;
            found = read_found k g p bytes a q;
            kind = kind_one a.kind k (read_kind k g p bytes a q);
            number = gives_number g a (read_number k g p bytes a q);
            payload = same_is p (part_of bytes a.payload.start a.payload.len) (read_same k g p bytes a q);
            whole = read_whole k g p bytes a q;
          }
      go (refused m v) e q = absurd (false_true q refl)

  pub back_reads : Back t k g p (written k g p) → reads_back t k g p ≡ true
  unfolding reads_back heard_in
  back_reads w = rw w.digested (heard_so k g p bytes w.answer w.found w.kind (number_gives g w.answer w.number) w.payload w.whole)

  -- What a call that isn't refused has written: so many bytes, at the front of the output memory, which was o; its other bytes are as they were.
  pub record Wrote (o : List ℕ) (n : ℕ) (o' : List ℕ) : Type 0 where
    pub count : n ≡ length (written k g p)
    pub bytes : take n o' ≡ written k g p
    pub rest : drop n o' ≡ drop n o
    pub back : Back t k g p (written k g p)

  module _ (o : List ℕ) where
    -- what a call says: by the table, by whether the answer is read back, and by whether the memory is too short
    abbrev said : Outcome ℕ → Bool → Bool → Saying
    said (refused m v) b f = record { said = refused m v; output = o }
    said (answered m) false f = record { said = refused 16 []; output = o }
    said (answered m) true true = record { said = refused 17 []; output = o }
    said (answered m) true false = record { said = answered (length bytes); output = put o 0 bytes }

    says : say t k g p o ≡ said (ruling t) (reads_back t k g p) (ltb (length o) (length bytes))
    unfolding say say_under laid_out
    says = go (ruling t)
      where
        both : (m : ℕ) (b f : Bool) → ◌≡◌ {A = Saying} (if not b then record { said = refused 16 []; output = o } else if f then record { said = refused 17 []; output = o } else record { said = answered (length bytes); output = put o 0 bytes }) (said (answered m) b f)
        both m true true = refl
        both m true false = refl
        both m false f = refl

        go : (x : Outcome ℕ) → say_under x t k g p o ≡ said x (reads_back t k g p) (ltb (length o) (length bytes))
        go (answered m) = both m (reads_back t k g p) (ltb (length o) (length bytes))
        go (refused m v) = refl

    -- Under a good table: refusal 16 where it would not be read back,
    pub unread : (m : ℕ) → ruling t ≡ answered m → (Back t k g p (written k g p) → ⊥) → say t k g p o ≡ record { said = refused 16 []; output = o }
    unread m e h = says ∙ (λ i. said (e i) (not_true_false (reads_back t k g p) (λ q. h (reads_back_lem q)) i) (ltb (length o) (length bytes)))

    -- 17 where it would be, and the memory is too short,
    pub short : (m : ℕ) → ruling t ≡ answered m → Back t k g p (written k g p) → length o < length (written k g p) → say t k g p o ≡ record { said = refused 17 []; output = o }
    short m e w l = says ∙ (λ i. said (e i) (back_reads w i) (lt-ltb (length o) (length bytes) l i))

    -- and else the bytes are written.
    pub wrote : (m : ℕ) → ruling t ≡ answered m → Back t k g p (written k g p) → length (written k g p) ≤ length o → say t k g p o ≡ record { said = answered (length (written k g p)); output = put o 0 (written k g p) }
    wrote m e w l = says ∙ (λ i. said (e i) (back_reads w i) (le-ltb (length o) (length bytes) l i))

    -- So a call that answers n has written n bytes, and they are read back.
    pub said_back : (n : ℕ) (o' : List ℕ) → say t k g p o ≡ record { said = answered n; output = o' } → Wrote o n o'
    said_back n o' e = go (ruling t) (reads_back t k g p) (ltb (length o) (length bytes)) refl refl (sym says ∙ e)
      where
        go : (x : Outcome ℕ) (b f : Bool) → reads_back t k g p ≡ b → ltb (length o) (length bytes) ≡ f → said x b f ≡ record { said = answered n; output = o' } → Wrote o n o'
        go (refused m v) b f q r h = let z : ◌≡◌ {A = Outcome ℕ} (refused m v) (answered n) = ap (λ (y : Saying). y.said) h in let w : ◌≡◌ {A = ℕ} 0 1 = cc in absurd (omega arith)
        go (answered m) false f q r h = let z : ◌≡◌ {A = Outcome ℕ} (refused 16 []) (answered n) = ap (λ (y : Saying). y.said) h in let w : ◌≡◌ {A = ℕ} 0 1 = cc in absurd (omega arith)
        go (answered m) true true q r h = let z : ◌≡◌ {A = Outcome ℕ} (refused 17 []) (answered n) = ap (λ (y : Saying). y.said) h in let w : ◌≡◌ {A = ℕ} 0 1 = cc in absurd (omega arith)
        go (answered m) true false q r h =
            let z : ◌≡◌ {A = Outcome ℕ} (answered (length bytes)) (answered n) = ap (λ (y : Saying). y.said) h in
            let c : n ≡ length bytes = cc in
            let u : o' ≡ put o 0 bytes = sym (ap (λ (y : Saying). y.output) h) in
            let l : 0 + length bytes ≤ length o = omega (arith, ltb-false (length o) (length bytes) r) in
            record {
              count = c;
              bytes = (λ i. take (c i) (u i)) ∙ put_there o 0 bytes l;
              rest = (λ i. drop (c i) (u i)) ∙ put_behind o bytes l ∙ ap (λ (x : ℕ). drop x o) (sym c);
              back = reads_back_lem q;
            }
