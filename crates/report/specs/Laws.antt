-- Laws of the report: how long its texts are, and the loop over steps.
use Rattle.std.specs.Prelude.{Some, None, ◌≡◌, refl, Bool, true, false, ℕ, ◌+◌, ◌-◌, ◌*◌, ◌≤◌, ◌<◌, leb}
use Rattle.std.proofs.Math.Path.{sym, ap}
use Rattle.std.proofs.Common.{◌∙◌, arith, length-append, length-drop, length-take-le, lt-ltb, le-ltb, leb-true, leb-false}
use mathlib.Core.List.{List, [], ◌∷◌, ◌++◌, append-nil, append_assoc}
use Rattle.std.proofs.Math.ListN.{length, drop}
use Rattle.outcome.specs.Laws.{ways}
use Rattle.text.specs.Bytes.{bytes}
use Rattle.text.specs.Text.{part_of}
use Rattle.text.specs.Laws.{part_is, part_none}
use Rattle.text.specs.declared.Span.{Span}
use Rattle.ink.specs.Ink.{Ink, inked, ink, decimal, hex}
use Rattle.ink.specs.Laws.{ink_none, ink_at, ink_length, then_ink, decimal_length, hex_length}
use Rattle.answers.specs.declared.Kind.{Kind}
use Rattle.answers.specs.declared.Kind.TheVariants as kind
use Rattle.answers.specs.declared.Answer.{Answer}
use Rattle.answers.specs.Answer.{Number, none, number, number_of, is_found, is_numeric, carried, name_of}
use Rattle.answers.specs.Laws.{carried_within}
use Rattle.steps.specs.declared.Step.{Step}
use Rattle.steps.specs.Steps.{steps_from, steps, first_of, eaten}
use Rattle.steps.specs.Laws.{step_lies, Begins, Run, steps_run, steps_more, at_end, at_step, step_within, eaten_within}
use Rattle.report.specs.Report.{spaced, number_text, payload_text, number_or, value_of, line_of, lines, text_of, Drawing, drawn, draw, is, short, report}

-- how long the texts are
payload_length : (p : List ℕ) → length (payload_text p) ≤ 1 + 2 * length p
unfolding payload_text
payload_length [] = omega arith
payload_length (b ∷ p) = let e = hex_length (b ∷ p) in omega arith

number_length : (m : Number) (p : List ℕ) → length (number_or m p) ≤ 21 + 2 * length p
number_length none p = omega (arith, payload_length p)
number_length (number n) p = omega (arith, decimal_length n)

value_length : (k : Kind) (m : Number) (p : List ℕ) → length (value_of k m p) ≤ 21 + 2 * length p
value_length k m p = ways (λ (l : List ℕ). length l ≤ 21 + 2 * length p) (is_numeric k) (λ q. omega arith) (λ q. number_length m p)

-- the two ways of a value
pub value_numeric : (k : Kind) (m : Number) (p : List ℕ) → is_numeric k ≡ true → spaced p ≡ value_of k m p
value_numeric k m p e = rw e

pub value_other : (k : Kind) (m : Number) (p : List ℕ) → is_numeric k ≡ false → number_or m p ≡ value_of k m p
value_other k m p e = rw e

name_length : (k : Kind) → length (name_of k) ≤ 10
name_length kind.None = omega arith
name_length kind.Ok = omega arith
name_length kind.Prompt = omega arith
name_length kind.Cme = omega arith
name_length kind.Cms = omega arith
name_length kind.Unknown = omega arith
name_length kind.NotAllowed = omega arith
name_length kind.Error = omega arith
name_length kind.NoCarrier = omega arith
name_length kind.Busy = omega arith
name_length kind.NoAnswer = omega arith
name_length kind.NoDialtone = omega arith
name_length kind.Custom = omega arith
name_length kind.Notice = omega arith

-- a payload
pub payload_none : (p o : List ℕ) (at : ℕ) → length p ≡ 0 → inked o at ≡ ink o at (payload_text p)
unfolding payload_text
payload_none [] o at e = ink_none o at
payload_none (b ∷ p) o at e = absurd (omega arith)

payload_some : (p : List ℕ) → (length p ≡ 0 → ⊥) → bytes " " ++ hex p ≡ payload_text p
unfolding payload_text
payload_some [] h = absurd (h refl)
payload_some (b ∷ p) h = refl

pub payload_is : (p o : List ℕ) (at : ℕ) → at + (1 + 2 * length p) ≤ length o → (length p ≡ 0 → ⊥) → (o' : List ℕ) (n' : ℕ) → inked o' n' ≡ ink o at (bytes " ") → (r : Ink) → r ≡ ink o' n' (hex p) → r ≡ ink o at (payload_text p)
payload_is p o at h z o' n' e r f = then_ink o at (bytes " ") (hex p) o' n' r e f (omega (arith, hex_length p)) ∙ ap (ink o at) (payload_some p z)

-- a line
part_short : (s : List ℕ) (p n : ℕ) → length (part_of s p n) ≤ n
part_short s p n = go (leb (p + n) (length s)) refl
  where
    go : (b : Bool) → leb (p + n) (length s) ≡ b → length (part_of s p n) ≤ n
    go true e = let h = leb-true (p + n) (length s) e in omega (arith, ap length (part_is s p n h), length-take-le n (drop p s) (rw length-drop (omega arith)))
    go false e = omega (arith, ap length (part_none s p n (leb-false (p + n) (length s) e)))

module _ (a : Answer) (s : List ℕ) where
  abbrev texts : List ℕ
  texts = value_of a.kind (number_of a) (part_of s (carried a).start (carried a).len)

  -- what goes along stands where `carried` says
  part_carried : (v : Span) → v ≡ carried a → (p : List ℕ) → p ≡ part_of s v.start v.len → p ≡ part_of s (carried a).start (carried a).len
  part_carried v u p q = q ∙ ap (λ (y : Span). part_of s y.start y.len) u

  text_length : length texts ≤ 21 + 2 * (carried a).len
  text_length = omega (arith, value_length a.kind (number_of a) (part_of s (carried a).start (carried a).len), part_short s (carried a).start (carried a).len)

  found_length : length (decimal a.consumed ++ (spaced (name_of a.kind) ++ (texts ++ bytes "\n"))) ≤ 53 + 2 * (carried a).len
  found_length = rw (length-append, length-append, length-append, length-append) (omega (arith, decimal_length a.consumed, name_length a.kind, text_length))

  line_length : length (line_of a s) ≤ 53 + 2 * (carried a).len
  unfolding line_of
  line_length = ways (λ (l : List ℕ). length l ≤ 53 + 2 * (carried a).len) (is_found a) (λ q. found_length) (λ q. omega arith)

  pub line_none : (o : List ℕ) (n : ℕ) → is_found a ≡ false → inked o n ≡ ink o n (line_of a s)
  unfolding line_of
  line_none o n e = rw e (ink_none o n)

  module _ (o : List ℕ) (n : ℕ) (h : n + (53 + 2 * (carried a).len) ≤ length o) (o₁ : List ℕ) (n₁ : ℕ) (e₁ : inked o₁ n₁ ≡ ink o n (decimal a.consumed)) (l₁ : length o₁ ≡ length o) where
    pub name_room : n₁ + (1 + length (name_of a.kind)) ≤ length o₁
    name_room = omega (arith, decimal_length a.consumed, name_length a.kind, ink_at o n (decimal a.consumed) (omega (arith, decimal_length a.consumed)) o₁ n₁ e₁)

    module _ (o₂ : List ℕ) (n₂ : ℕ) (e₂ : inked o₂ n₂ ≡ ink o₁ n₁ (spaced (name_of a.kind))) (l₂ : length o₂ ≡ length o₁) where
      named : inked o₂ n₂ ≡ ink o n (decimal a.consumed ++ spaced (name_of a.kind))
      named = then_ink o n (decimal a.consumed) (spaced (name_of a.kind)) o₁ n₁ (inked o₂ n₂) e₁ e₂ (omega (arith, decimal_length a.consumed, name_length a.kind))

      pub value_room : (q : Span) → q ≡ carried a → (p : List ℕ) → p ≡ part_of s q.start q.len → n₂ + (21 + 2 * length p) ≤ length o₂
      value_room v u p q =
          let k = decimal_length a.consumed in
          let l = name_length a.kind in
          let w = ink_at o n (decimal a.consumed) (omega arith) o₁ n₁ e₁ in
          omega (arith, ink_at o₁ n₁ (spaced (name_of a.kind)) (omega arith) o₂ n₂ e₂, ap length (part_carried v u p q), part_short s (carried a).start (carried a).len)

      module _ (v : Span) (u : v ≡ carried a) (p : List ℕ) (q : p ≡ part_of s v.start v.len) (o₃ : List ℕ) (n₃ : ℕ) (e₃ : inked o₃ n₃ ≡ ink o₂ n₂ (value_of a.kind (number_of a) p)) (l₃ : length o₃ ≡ length o₂) where
        valued : inked o₃ n₃ ≡ ink o n (decimal a.consumed ++ spaced (name_of a.kind) ++ texts)
        valued =
            then_ink o n (decimal a.consumed ++ spaced (name_of a.kind)) texts o₂ n₂ (inked o₃ n₃) named (e₃ ∙ ap (λ (y : List ℕ). ink o₂ n₂ (value_of a.kind (number_of a) y)) (part_carried v u p q))
            (rw length-append (omega (arith, decimal_length a.consumed, name_length a.kind, text_length)))

        front_length : length (decimal a.consumed ++ spaced (name_of a.kind) ++ texts) ≤ 52 + 2 * (carried a).len
        front_length = rw (length-append, length-append) (omega (arith, decimal_length a.consumed, name_length a.kind, text_length))

        pub line_some : is_found a ≡ true → (r : Ink) → r ≡ ink o₃ n₃ (10 ∷ []) → r ≡ ink o n (line_of a s)
        unfolding line_of
        line_some f r e =
            rw f (then_ink o n (decimal a.consumed ++ spaced (name_of a.kind) ++ texts) (10 ∷ []) o₃ n₃ r valued e (omega (arith, front_length))
            ∙ ap (ink o n) (append_assoc (decimal a.consumed ++ spaced (name_of a.kind)) texts (10 ∷ []) ∙ append_assoc (decimal a.consumed) (spaced (name_of a.kind)) (texts ++ (10 ∷ []))))

-- the lines take at most 55 bytes for each byte
step_inside : (s : List ℕ) (i : ℕ) (x : Step) → Begins [] s i x → (carried x.answer).len ≤ x.answer.consumed
step_inside s i x b = omega (arith, carried_within (length (drop i s)) x.answer (step_lies [] s i x b))

lines_eaten : (s : List ℕ) (i : ℕ) (l : List Step) → Run [] s i l → length (lines s l) ≤ 55 * eaten l
unfolding Run lines eaten
lines_eaten s i [] r = omega arith
lines_eaten s i (x ∷ l) r =
    rw length-append (omega (arith, lines_eaten s (i + x.answer.consumed) l r.1, line_length x.answer (drop x.from s), step_inside s i x r.0, r.0.eats))

pub lines_length : (s : List ℕ) → length (lines s (steps [] s)) ≤ 55 * length s
lines_length s =
    let r = steps_run [] s 0 in
    omega (arith, lines_eaten s 0 (steps [] s) r, eaten_within [] s 0 (steps [] s) r (omega arith))

-- the loop over steps: what is to be drawn of s is what was drawn, and what is to be drawn from `at` on
pub record Lining (s o₀ : List ℕ) (from : ℕ) (o : List ℕ) (at n : ℕ) : Type 0 where
  pub sofar : List ℕ
  pub same : lines s (steps [] s) ≡ sofar ++ lines s (steps_from [] s at)
  pub gone : eaten (steps [] s) ≡ at + eaten (steps_from [] s at)
  pub inks : inked o n ≡ ink o₀ from sofar
  pub within : at ≤ length s
  pub bound : length sofar ≤ 55 * at
  pub room : from + 55 * length s ≤ length o₀
  pub long : length o ≡ length o₀

pub draw_start : (s o : List ℕ) (from : ℕ) → from + 55 * length s ≤ length o → Lining s o from o 0 from
draw_start s o from h = record { sofar = []; same = refl; gone = omega arith; inks = ink_none o from; within = omega arith; bound = omega arith; room = h; long = refl }

module _ (s o₀ : List ℕ) (from : ℕ) (o : List ℕ) (at n : ℕ) (g : Lining s o₀ from o at n) where
  pub draw_end : None ≡ first_of (steps_from [] s at) → ◌≡◌ {A = Drawing} (record { ink = inked o n; left = length s - at }) (draw o₀ from s)
  unfolding lines eaten
  draw_end e =
      let l = at_end [] s at e in
      let t : g.sofar ≡ lines s (steps [] s) = sym (g.same ∙ ap (λ (x : List Step). g.sofar ++ lines s x) l ∙ append-nil g.sofar) in
      let k : length s - at ≡ length s - eaten (steps [] s) = omega (arith, g.gone, ap eaten l) in
      λ i. record { ink = (g.inks ∙ ap (ink o₀ from) t) i; left = k i }

  module _ (x : Step) (e : Some x ≡ first_of (steps_from [] s at)) where
    begins : Begins [] s at x
    begins = at_step [] s at x e

    pub draw_eats : 0 < x.answer.consumed
    draw_eats = begins.eats

    pub draw_within : at + x.answer.consumed ≤ length s
    draw_within = step_within [] s at g.within x begins

    pub draw_room : n + (53 + 2 * (carried x.answer).len) ≤ length o
    draw_room =
        omega (arith, ink_at o₀ from g.sofar (omega (arith, g.bound, g.room, g.within)) o n g.inks, g.bound, g.room, g.long, draw_within, draw_eats, step_inside s at x begins)

    module _ (d : List ℕ) (f : d ≡ drop at s) where
      abbrev said : List ℕ
      said = line_of x.answer d

      line_first : lines s (steps_from [] s at) ≡ said ++ lines s (steps_from [] s (at + x.answer.consumed))
      unfolding lines
      line_first =
          ap (lines s) (steps_more [] s at x begins)
          ∙ ap (λ (y : List ℕ). line_of x.answer y ++ lines s (steps_from [] s (at + x.answer.consumed))) (ap (λ (k : ℕ). drop k s) begins.from ∙ sym f)

      eaten_first : eaten (steps_from [] s at) ≡ x.answer.consumed + eaten (steps_from [] s (at + x.answer.consumed))
      unfolding eaten
      eaten_first = ap eaten (steps_more [] s at x begins)

      pub draw_more : (o' : List ℕ) (n' : ℕ) → inked o' n' ≡ ink o n said → length o' ≡ length o → Lining s o₀ from o' (at + x.answer.consumed) n'
      draw_more o' n' u l =
          let b : length g.sofar + length said ≤ 55 * (at + x.answer.consumed) = omega (arith, g.bound, line_length x.answer d, draw_eats, step_inside s at x begins) in
          record {
            sofar = g.sofar ++ said;
            same = g.same ∙ ap (λ (y : List ℕ). g.sofar ++ y) line_first ∙ sym (append_assoc g.sofar said (lines s (steps_from [] s (at + x.answer.consumed))));
            gone = omega (arith, g.gone, eaten_first);
            inks = then_ink o₀ from g.sofar said o n (inked o' n') g.inks u (omega (arith, g.room, draw_within));
            within = draw_within;
            bound = rw length-append b;
            room = g.room;
            long = l ∙ g.long;
          }

-- what is drawn has the memory's length
pub draw_length : (o : List ℕ) (n : ℕ) (s o' : List ℕ) (n' left : ℕ) → drawn o' n' left ≡ draw o n s → length o' ≡ length o
draw_length o n s o' n' left e = ink_length o n (lines s (steps [] s)) o' n' (ap (λ (x : Drawing). x.ink) e)

-- the ways out of a report
module _ (s o : List ℕ) where
  pub report_short : length o < 229376 → short o ≡ report s o
  unfolding report
  report_short h = rw (lt-ltb (length o) 229376 h)

  module _ (h : 229376 ≤ length o) where
    at_text : is (ink o 0 (text_of s)) ≡ report s o
    unfolding report
    at_text = rw (le-ltb (length o) 229376 h)

    pub report_long : 4096 < length s → (r : Ink) → r ≡ ink o 0 (bytes "refused 1\n") → is r ≡ report s o
    unfolding text_of
    report_long l r e = ap is (e ∙ ap (ink o 0) (let q : bytes "refused 1\n" ≡ text_of s = rw (lt-ltb 4096 (length s) l) in q)) ∙ at_text

    module _ (l : length s ≤ 4096) (o₁ : List ℕ) (n₁ : ℕ) (e₁ : inked o₁ n₁ ≡ ink o 0 (bytes "records 0\n")) (l₁ : length o₁ ≡ length o) where
      pub lines_room : n₁ + 55 * length s ≤ length o₁
      lines_room = omega (arith, ink_at o 0 (bytes "records 0\n") (omega arith) o₁ n₁ e₁)

      module _ (k : length (lines s (steps [] s)) ≤ 55 * length s) (o₂ : List ℕ) (n₂ d : ℕ) (e₂ : drawn o₂ n₂ d ≡ draw o₁ n₁ s) (l₂ : length o₂ ≡ length o₁) where
        drawn_at : inked o₂ n₂ ≡ ink o 0 (bytes "records 0\n" ++ lines s (steps [] s))
        drawn_at = then_ink o 0 (bytes "records 0\n") (lines s (steps [] s)) o₁ n₁ (inked o₂ n₂) e₁ (ap (λ (x : Drawing). x.ink) e₂) (omega arith)

        front : length (bytes "records 0\n" ++ lines s (steps [] s)) ≤ 10 + 55 * length s
        front = rw length-append (omega arith)

        module _ (o₃ : List ℕ) (n₃ : ℕ) (e₃ : inked o₃ n₃ ≡ ink o₂ n₂ (bytes "left")) (l₃ : length o₃ ≡ length o₂) where
          worded : inked o₃ n₃ ≡ ink o 0 (bytes "records 0\n" ++ lines s (steps [] s) ++ bytes "left")
          worded = then_ink o 0 (bytes "records 0\n" ++ lines s (steps [] s)) (bytes "left") o₂ n₂ (inked o₃ n₃) drawn_at e₃ (omega (arith, front))

          word_front : length (bytes "records 0\n" ++ lines s (steps [] s) ++ bytes "left") ≤ 14 + 55 * length s
          word_front = rw length-append (omega (arith, front))

          pub left_room : n₃ + 21 ≤ length o₃
          left_room = omega (arith, ink_at o 0 (bytes "records 0\n" ++ lines s (steps [] s) ++ bytes "left") (omega (arith, word_front)) o₃ n₃ worded, word_front)

          module _ (o₄ : List ℕ) (n₄ : ℕ) (e₄ : inked o₄ n₄ ≡ ink o₃ n₃ (number_text d)) (l₄ : length o₄ ≡ length o₃) where
            counted : inked o₄ n₄ ≡ ink o 0 (bytes "records 0\n" ++ lines s (steps [] s) ++ bytes "left" ++ number_text (length s - eaten (steps [] s)))
            counted =
                then_ink o 0 (bytes "records 0\n" ++ lines s (steps [] s) ++ bytes "left") (number_text (length s - eaten (steps [] s))) o₃ n₃ (inked o₄ n₄) worded (e₄ ∙ ap (λ (x : Drawing). ink o₃ n₃ (number_text x.left)) e₂)
                (omega (arith, word_front, decimal_length (length s - eaten (steps [] s))))

            count_front : length (bytes "records 0\n" ++ lines s (steps [] s) ++ bytes "left" ++ number_text (length s - eaten (steps [] s))) ≤ 35 + 55 * length s
            count_front = rw length-append (omega (arith, word_front, decimal_length (length s - eaten (steps [] s))))

            pub report_is : (r : Ink) → r ≡ ink o₄ n₄ (bytes "\n") → is r ≡ report s o
            unfolding text_of
            report_is r e =
                let a = bytes "records 0\n" in
                let b = lines s (steps [] s) in
                let c = number_text (length s - eaten (steps [] s)) in
                let w : a ++ b ++ bytes "left" ++ c ++ bytes "\n" ≡ a ++ (b ++ (bytes "left" ++ (c ++ bytes "\n"))) =
                append_assoc (a ++ b ++ bytes "left") c (bytes "\n") ∙ append_assoc (a ++ b) (bytes "left") (c ++ bytes "\n") ∙ append_assoc a b (bytes "left" ++ (c ++ bytes "\n")) in
                let q : a ++ (b ++ (bytes "left" ++ (c ++ bytes "\n"))) ≡ text_of s = rw (le-ltb 4096 (length s) l) in
                ap is (then_ink o 0 (a ++ b ++ bytes "left" ++ c) (bytes "\n") o₄ n₄ r counted e (omega (arith, count_front)) ∙ ap (ink o 0) (w ∙ q)) ∙ at_text
