-- The calls that a user makes: what the walk came to, their refusals, and what they heard.
use Rattle.std.specs.Prelude.{Option, Some, None, ◌≡◌, true, List, [], ◌∷◌, ℕ, ◌+◌, ◌≤◌, ◌<◌, length, get_or, ltb}
use Rattle.std.proofs.Math.Path.{refl}
use Rattle.std.proofs.Common.{sym, ◌∙◌}
use native.Mathlib.Omega.{arith}
use Rattle.outcome.specs.Outcome.{Outcome, answered, refused}
use Rattle.outcome.specs.Laws.{ways}
use Rattle.text.specs.Logic.{false_true, not_true_false}
use Rattle.text.specs.Text.{among}
use Rattle.text.specs.Laws.{trimmed_room}
use Rattle.text.specs.Bytes.{bytes}
use Rattle.text.specs.declared.Span.{Span}
use Rattle.answers.specs.declared.Answer.{Answer}
use Rattle.answers.specs.Answer.{Number, has_number, stored, is_found, nothing, Within}
use Rattle.answers.specs.Laws.{nothing_within, payload_within}
use Rattle.numeric.specs.declared.Line.{Line}
use Rattle.numeric.specs.Numeric.{kind_of, code_at, leftmost, behind, along, ring, said, said_of, digest_unchecked, ruled, under_table, digest}
use Rattle.numeric.specs.Heard.{NoCode, Heard, HeardIn}
use Rattle.numeric.specs.Laws.{coded, LeastSays, least_says, behind_is, code_parts, code_fits, code_rest}

module _ (s : List ℕ) where
  -- what the search for the leftmost code says
  says : LeastSays (code_at s) (length s) 0 (leftmost s)
  unfolding leftmost
  says = least_says (code_at s) (length s) 0

  -- what the walk came to
  came_to : (f : Option ℕ) → LeastSays (code_at s) (length s) 0 f → (l : Line) → Some l ≡ coded s f → (f ≡ Some l.start) × ((code_at s l.start ≡ true) × (l.from ≡ behind s l.start))
  came_to (Some k) w l e =
      let z : l ≡ record { start = k; from = behind s k } = cc in
      rw z (refl, (w.here, refl))
  came_to None w l e = cc

  came_none : (f : Option ℕ) → None ≡ coded s f → f ≡ None
  came_none (Some k) e = cc
  came_none None e = refl

  -- the ways out of `digest_unchecked`, r being what the walk answered
  module _ (r : Option Line) (e : r ≡ coded s (leftmost s)) where
    at_code : (l : Line) → r ≡ Some l → (leftmost s ≡ Some l.start) × ((code_at s l.start ≡ true) × (l.from ≡ behind s l.start))
    at_code l q = came_to (leftmost s) says l (sym q ∙ e)

    pub said_room : (l : Line) → r ≡ Some l → (l.start + 2 ≤ length s) × (l.from ≡ behind s l.start)
    said_room l q = let w = at_code l q in (code_fits s l.start w.1.0, w.1.1)

    pub unchecked_at : (l : Line) → r ≡ Some l → (a : Answer) → a ≡ said s l.start → a ≡ digest_unchecked s
    unfolding digest_unchecked said_of
    unchecked_at l q a f = rw (at_code l q).0 f

    pub unchecked_none : r ≡ None → (a : Answer) → a ≡ nothing 0 → a ≡ digest_unchecked s
    unfolding digest_unchecked said_of
    unchecked_none q a f = rw (came_none (leftmost s) (sym q ∙ e)) f

  -- a code is found, and its number fits a byte
  said_found : (p : ℕ) → code_at s p ≡ true → is_found (said s p) ≡ true
  unfolding said
  said_found p h = (code_parts s p h).1.0

  said_consumed : (p : ℕ) → (said s p).consumed ≡ p + 2
  unfolding said
  said_consumed p = refl

  along_within : (p b : ℕ) → p + 2 ≤ length s → (along s p b).start + (along s p b).len ≤ p + 2
  unfolding along
  along_within p b h =
      ways (λ (t : Span). t.start + t.len ≤ p + 2) (among (bytes "01") b) (λ e. omega (arith, trimmed_room s (behind s p) p (behind_is s p).before (omega arith)))
      (λ e. ways (λ (t : Span). t.start + t.len ≤ p + 2) (among (bytes "2") b) (λ f. omega arith) (λ f. omega arith))

  said_within : (p : ℕ) → code_at s p ≡ true → Within (length s) (said s p)
  unfolding said
  said_within p h = let f = code_fits s p h in payload_within (kind_of (get_or s p 0)) ring (along s p (get_or s p 0)) (p + 2) (length s) (along_within p (get_or s p 0) f) f

  heard_of : (r : Option ℕ) → LeastSays (code_at s) (length s) 0 r → Heard s (said_of s r)
  unfolding said_of
  heard_of (Some p) w =
      let c = w.here in
      let f = said_found p c in
      record {
        none = λ n. absurd (false_true f n);
        only = λ n. absurd (false_true c (n p));
        skip = λ n. absurd (false_true f n);
        code = λ n. record { p = p; here = c; first = λ j h. w.first j (omega arith) h; is = refl; begins = behind_is s p; consumed = said_consumed p; rest = rw (said_consumed p) (code_rest s p c) };
        some = λ n. omega (arith, said_consumed p);
        within = omega (arith, said_consumed p, code_fits s p c);
      }
  heard_of None w =
      record {
        none = λ n p. none_of p;
        only = λ n. refl;
        skip = λ n. refl;
        code = λ n. absurd (false_true n refl);
        some = λ n. absurd (false_true n refl);
        within = omega arith;
      }
    where
      none_of : NoCode s
      none_of p = not_true_false (code_at s p) (λ e. false_true e (w p (omega arith) (omega (arith, code_fits s p e))))

  -- demand 3, first half
  pub unchecked_heard : Heard s (digest_unchecked s)
  unfolding digest_unchecked
  unchecked_heard = heard_of (leftmost s) says

  -- what is consumed lies in the input, and the payload in what is consumed
  inside_of : (r : Option ℕ) → LeastSays (code_at s) (length s) 0 r → Within (length s) (said_of s r)
  unfolding said_of
  inside_of (Some p) w = said_within p w.here
  inside_of None w = nothing_within 0 (length s) (omega arith)

  pub unchecked_inside : Within (length s) (digest_unchecked s)
  unfolding digest_unchecked
  unchecked_inside = inside_of (leftmost s) says

  -- a notice's number fits a byte
  said_byte : (p : ℕ) → (said s p).number < 256
  unfolding said
  said_byte p = ways (λ (n : Number). stored n < 256) (has_number (kind_of (get_or s p 0))) (λ e. omega arith) (λ e. omega arith)

  byte_of : (r : Option ℕ) → (said_of s r).number < 256
  unfolding said_of
  byte_of (Some p) = said_byte p
  byte_of None = omega arith

  pub unchecked_byte : (digest_unchecked s).number < 256
  unfolding digest_unchecked
  unchecked_byte = byte_of (leftmost s)

module _ (t s : List ℕ) where
  -- demand 3, first half, closed: it holds of the definition, and so of whatever equals it
  under_hears : (x : Outcome ℕ) → HeardIn s (under_table x s)
  under_hears (answered n) = unchecked_heard s
  under_hears (refused n v) = tt

  pub digest_hears : HeardIn s (digest t s)
  unfolding digest
  digest_hears = ways (HeardIn s) (ltb 4096 (length s)) (λ q. tt) (λ q. under_hears (ruled t))

-- Refusal 2: the table isn't empty.
pub ruled_bad : (t : List ℕ) → 0 < length t → refused 2 (0 ∷ []) ≡ ruled t
ruled_bad [] h = absurd (omega arith)
ruled_bad (x ∷ t) h = refl

pub ruled_empty : (t : List ℕ) → length t ≤ 0 → answered 0 ≡ ruled t
ruled_empty [] h = refl
ruled_empty (x ∷ t) h = absurd (omega arith)

pub ruled_two : (t : List ℕ) (n : ℕ) (v : List ℕ) → ruled t ≡ refused n v → n ≡ 2
ruled_two [] n v e = cc
ruled_two (x ∷ t) n v e = cc
