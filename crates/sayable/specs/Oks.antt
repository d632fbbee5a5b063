-- An Ok under the empty table is read back exactly with a payload as `Payload` says (`ok_back`, `payload_back`).
-- Rests on the first OK line's deciding: what stands before it, trimmed, is the payload, and its end the consumed count.
use Rattle.std.specs.Prelude.{Option, Some, None, ◌≡◌, refl, Bool, true, false, ℕ, zero, suc, ◌+◌, ◌-◌, ◌≤◌, ◌<◌, drop}
use Rattle.std.proofs.Math.Path.{sym, ap}
use Rattle.std.proofs.Common.{◌∙◌, ⊎_elim, length-drop, take_at, length-take-le, get_or-take, get_or-drop}
use mathlib.Core.List.{List, [], ◌∷◌, ◌++◌, append_assoc}
use Rattle.std.proofs.Math.Nat.{zero-add, sub-zero}
use native.Mathlib.Omega.{arith}
use Rattle.std.proofs.Math.ListN.{length, get_or, take, length-append, get_or-append}
use Rattle.std.proofs.Math.Seq.{drop-append_seam, take-append_seam, get_or-append-add}
use Rattle.text.specs.Logic.{false_true, order}
use Rattle.text.specs.Text.{is_blank, lead, past, keep, trimmed, trimmed_part, begins, stands, find_in, part_of}
use Rattle.text.specs.Laws.{found_at, found_none, stands_fits, past_stops, past_is, keep_stops, keep_is, trimmed_fits, trim_is, part_is, rest}
use Rattle.text.specs.declared.Blanks.TheVariants as sets
use Rattle.text.specs.declared.Span.{Span}
use Rattle.table.specs.Table.{of_mark}
use Rattle.lines.specs.Lines.{crlf, fixed_text}
use Rattle.lines.specs.declared.Digester.TheVariants.{Verbose}
use Rattle.lines.specs.declared.Fixed.TheVariants as fixed
use Rattle.answers.specs.Answer.{is_found, placed, with_payload}
use Rattle.answers.specs.Laws.{placed_some}
use Rattle.answers.specs.declared.Kind.TheVariants as kind
use Rattle.answers.specs.declared.Answer.{Answer}
use Rattle.items.specs.Rules.{skipped, tried}
use Rattle.writer.specs.Writer.{line, written, gives}
use Rattle.sayable.specs.Sayable.{Payload}
use Rattle.sayable.specs.Empty.{heard_of, HeardBack, done_heard}

-- what stands before k, trimmed
abbrev before : List ℕ → ℕ → Span
before s k = trimmed (is_blank sets.Trim) (take k s)

before_is : (s : List ℕ) (k : ℕ) → trimmed_part s 0 k ≡ before s k
unfolding trimmed_part
before_is s k = rw (sub-zero, zero-add)

-- where nothing is skipped, the first OK line decides
ok_tried : (s : List ℕ) (k : ℕ) → find_in (fixed_text fixed.Ok) s 0 ≡ Some k → tried Verbose [] s 0 ≡ Some (with_payload kind.Ok 0 (before s k) (k + 6))
unfolding tried of_mark
ok_tried s k f = rw f (ap (λ (t : Span). Some (with_payload kind.Ok 0 t (k + 6))) (before_is s k))

-- what is left when bytes are trimmed off has none of them at its ends
module _ (f : ℕ → Bool) (m : List ℕ) (h : 0 < (trimmed f m).len) where
  trimmed_front : f (get_or m (trimmed f m).start 0) ≡ false
  unfolding trimmed past
  trimmed_front =
      let z : past f m 0 ≡ lead f m = zero-add (lead f m) in
      ap (λ (n : ℕ). f (get_or m n 0)) (sym z) ∙ past_stops f m 0 (omega (arith, z, trimmed_fits f m))

  trimmed_back : f (get_or m ((trimmed f m).start + ((trimmed f m).len - 1)) 0) ≡ false
  unfolding trimmed
  trimmed_back = ap f (sym (get_or-drop (lead f m) m (keep f (drop (lead f m) m) - 1) 0)) ∙ keep_stops f (drop (lead f m) m) h

-- What is written of an Ok.
ok_skips : (p : List ℕ) → skipped (written kind.Ok None p) ≡ 0
unfolding written skipped past is_blank find_in
ok_skips [] = refl
ok_skips (x ∷ p) = refl

ok_bytes : (p : List ℕ) → 0 < length p → written kind.Ok None p ≡ line p ++ fixed_text fixed.Ok
unfolding written
ok_bytes [] h = absurd (omega arith)
ok_bytes (x ∷ p) h = refl

line_length : (p : List ℕ) → length (line p) ≡ length p + 4
unfolding line
line_length p = omega (arith, length-append crlf (p ++ crlf), length-append p crlf)

ok_length : (p : List ℕ) → 0 < length p → length (written kind.Ok None p) ≡ length p + 10
ok_length p h = ap length (ok_bytes p h) ∙ omega (arith, length-append (line p) (fixed_text fixed.Ok), line_length p)

-- the last line that it has
record OkLine (s : List ℕ) : Type 0 where
  k : ℕ
  here : stands (fixed_text fixed.Ok) s k ≡ true

ok_last : (p : List ℕ) → OkLine (written kind.Ok None p)
unfolding written stands
ok_last [] = record { k = 0; here = refl }
ok_last (x ∷ p) = record { k = length (line (x ∷ p)); here = ap (begins (fixed_text fixed.Ok)) (drop-append_seam (line (x ∷ p)) (fixed_text fixed.Ok)) }

-- the first, and what is heard by it
record FirstOk (p : List ℕ) : Type 0 where
  k : ℕ
  found : find_in (fixed_text fixed.Ok) (written kind.Ok None p) 0 ≡ Some k
  heard : heard_of kind.Ok None p ≡ with_payload kind.Ok 0 (before (written kind.Ok None p) k) (k + 6)
  fits : k + 6 ≤ length (written kind.Ok None p)

first_ok : (p : List ℕ) → FirstOk p
first_ok p = go (find_in (fixed_text fixed.Ok) (written kind.Ok None p) 0) refl
  where
    go : (r : Option ℕ) → find_in (fixed_text fixed.Ok) (written kind.Ok None p) 0 ≡ r → FirstOk p
    go (Some k) f =
        let s = written kind.Ok None p in
        record { k = k; found = f; heard = done_heard s (ok_skips p) _ (ok_tried s k f); fits = stands_fits (fixed_text fixed.Ok) s k (omega arith) (found_at (fixed_text fixed.Ok) s 0 k f).here }
    go None f = let w = ok_last p in absurd (false_true w.here (found_none (fixed_text fixed.Ok) (written kind.Ok None p) 0 f w.k (omega arith)))

-- A part that is trimmed has no blank at its ends, whatever stands around it.
module _ (s : List ℕ) (k : ℕ) (l : k ≤ length s) (p : List ℕ) (some : 0 < length p) (q : p ≡ part_of s (placed (before s k).len (before s k).start) (before s k).len) where
  abbrev left : Span
  left = before s k

  left_some : 0 < left.len
  left_some =
      ⊎_elim
      (λ (h : 0 < left.len). h)
      (λ (h : left.len ≤ 0).
      let z : left.len ≡ 0 = omega arith in
      let e : p ≡ [] = q ∙ ap (λ (n : ℕ). part_of s (placed n left.start) n) z ∙ sym (part_is s 0 0 (omega arith)) in
      absurd (omega (arith, ap length e)))
      (order 0 left.len)

  left_fits : left.start + left.len ≤ k
  left_fits = omega (arith, trimmed_fits (is_blank sets.Trim) (take k s), length-take-le k s l)

  part_left : p ≡ take left.len (drop left.start s)
  part_left =
      q
      ∙ ap (λ (n : ℕ). part_of s n left.len) (sym (placed_some left.len left.start (λ e. omega (arith, left_some))))
      ∙ sym (part_is s left.start left.len (omega (arith, left_fits)))

  part_length : length p ≡ left.len
  part_length = ap length part_left ∙ length-take-le left.len (drop left.start s) (rw length-drop (omega (arith, left_fits)))

  part_byte : (j : ℕ) → j < left.len → get_or p j 0 ≡ get_or (take k s) (left.start + j) 0
  part_byte j h =
      ap (λ (x : List ℕ). get_or x j 0) part_left
      ∙ get_or-take left.len (drop left.start s) j 0 h
      ∙ get_or-drop left.start s j 0
      ∙ sym (get_or-take k s (left.start + j) 0 (omega (arith, left_fits)))

  part_front : is_blank sets.Trim (get_or p 0 0) ≡ false
  part_front =
      let z : left.start + 0 ≡ left.start = omega arith in
      ap (is_blank sets.Trim) (part_byte 0 left_some ∙ ap (λ (n : ℕ). get_or (take k s) n 0) z) ∙ trimmed_front (is_blank sets.Trim) (take k s) left_some

  part_back : is_blank sets.Trim (get_or p (length p - 1) 0) ≡ false
  part_back =
      ap (is_blank sets.Trim) (ap (λ (n : ℕ). get_or p (n - 1) 0) part_length ∙ part_byte (left.len - 1) (omega (arith, left_some)))
      ∙ trimmed_back (is_blank sets.Trim) (take k s) left_some

-- read back, so the payload is as `Payload` says
pub ok_back : (p : List ℕ) → HeardBack kind.Ok None p → Payload p
ok_back p w =
    let v = first_ok p in
    let s = written kind.Ok None p in
    let z : v.k + 6 ≡ length s = sym (ap (λ (a : Answer). a.consumed) v.heard) ∙ w.whole in
    let q : p ≡ part_of s (placed (before s v.k).len (before s v.k).start) (before s v.k).len = w.payload ∙ ap (λ (a : Answer). part_of s a.payload.start a.payload.len) v.heard in
    record {
      short = ⊎_elim (λ (h : 0 < length p). omega (arith, ok_length p h, w.short)) (λ (h : length p ≤ 0). omega arith) (order 0 (length p));
      front = λ h. part_front s v.k (omega (arith, v.fits)) p h q;
      back = λ h. part_back s v.k (omega (arith, v.fits)) p h q;
      last = λ j h.
          ⊎_elim
          (λ (l : j < v.k). absurd (false_true h ((found_at (fixed_text fixed.Ok) s 0 v.k v.found).first j (omega arith) l)))
          (λ (l : v.k ≤ j). omega (arith, stands_fits (fixed_text fixed.Ok) s j (omega arith) h))
          (order j v.k);
    }

crlf_blank : (j : ℕ) → j < 2 → is_blank sets.Trim (get_or crlf j 0) ≡ true
unfolding is_blank
crlf_blank zero h = refl
crlf_blank (suc zero) h = refl
crlf_blank (suc (suc j)) h = absurd (omega arith)

-- A payload with no blank at its ends, in its line, is what the line is trimmed to.
module _ (p : List ℕ) (w : Payload p) (some : 0 < length p) where
  line_trimmed : ◌≡◌ {A = Span} (record { start = 2; len = length p }) (trimmed (is_blank sets.Trim) (line p))
  unfolding line
  line_trimmed =
      let l = line_length p in
      trim_is (is_blank sets.Trim) (line p) 2 (length p)
      (sym (past_is (is_blank sets.Trim) (line p) 0 2 (omega arith) (omega arith) (λ j h g. ap (is_blank sets.Trim) (get_or-append crlf (p ++ crlf) 0 j g) ∙ crlf_blank j g)
      (λ h. ap (is_blank sets.Trim) (get_or-append p crlf 0 0 some) ∙ w.front some)))
      (sym (ap (keep (is_blank sets.Trim)) (rest (line p) 2)
      ∙ keep_is (is_blank sets.Trim) (p ++ crlf) (length p) some (omega (arith, length-append p crlf))
      (ap (is_blank sets.Trim) (get_or-append p crlf 0 (length p - 1) (omega arith)) ∙ w.back some)
      (λ j h g.
      let z : length p + (j - length p) ≡ j = omega arith in
      ap (is_blank sets.Trim) (ap (λ (n : ℕ). get_or (p ++ crlf) n 0) (sym z) ∙ get_or-append-add p crlf (j - length p) 0)
      ∙ crlf_blank (j - length p) (omega (arith, length-append p crlf)))))

  line_before : (k : ℕ) → length p + 4 ≡ k → before (written kind.Ok None p) k ≡ record { start = 2; len = length p }
  line_before k e =
      ap (trimmed (is_blank sets.Trim)) (ap (take k) (ok_bytes p some) ∙ take_at (line p) (fixed_text fixed.Ok) k (line_length p ∙ e)) ∙ sym line_trimmed

  payload_heard : heard_of kind.Ok None p ≡ with_payload kind.Ok 0 (record { start = 2; len = length p }) (length (written kind.Ok None p))
  payload_heard =
      let v = first_ok p in
      let z : v.k + 6 ≡ length (written kind.Ok None p) = w.last v.k (found_at (fixed_text fixed.Ok) (written kind.Ok None p) 0 v.k v.found).here in
      let t = line_before v.k (omega (arith, ok_length p some)) in
      v.heard ∙ (λ i. with_payload kind.Ok 0 (t i) (z i))

  line_part : p ≡ part_of (written kind.Ok None p) (placed (length p) 2) (length p)
  unfolding line
  line_part =
      sym (ap (take (length p)) (append_assoc p crlf (fixed_text fixed.Ok)) ∙ take-append_seam p (crlf ++ fixed_text fixed.Ok))
      ∙ ap (λ (s : List ℕ). take (length p) (drop 2 s)) (sym (ok_bytes p some))
      ∙ part_is (written kind.Ok None p) 2 (length p) (omega (arith, ok_length p some))
      ∙ ap (λ (n : ℕ). part_of (written kind.Ok None p) n (length p)) (placed_some (length p) 2 (λ e. omega arith))

  -- such a payload, not empty, is read back
  pub payload_back : HeardBack kind.Ok None p
  unfolding gives
  payload_back =
      let h = payload_heard in
      record {
        short = omega (arith, ok_length p some, w.short);
        found = ap is_found h;
        kind = ap (λ (a : Answer). a.kind) h;
        number = ap (gives None) h;
        payload = line_part ∙ ap (λ (a : Answer). part_of (written kind.Ok None p) a.payload.start a.payload.len) (sym h);
        whole = ap (λ (a : Answer). a.consumed) h;
      }
