-- What lets the pass go over the places where none of the eleven texts begins.
use Rattle.std.specs.Prelude.{Some, None, ◌≡◌, refl, true, false, List, [], ◌∷◌, length, get_or, drop}
use Rattle.std.proofs.Common.{sym, ap, ◌∙◌, ⊎_elim, ne_eqb}
use Prim.Native.Nat.{ℕ, zero, suc, ◌+◌, ◌≤◌, ◌<◌}
use Rattle.std.proofs.Math.Nat.{add-zero}
use native.Mathlib.Omega.{arith}
use Rattle.text.specs.Bytes.{bytes}
use Rattle.text.specs.Logic.{false_true, not_true_false, order}
use Rattle.text.specs.Text.{stands, find_in}
use Rattle.text.specs.Laws.{stands_byte, stands_get_d, stands_fits, stands_front, found_at, found_none}
use Rattle.lines.specs.Lines.{fixed_text}
use Rattle.lines.specs.Laws.{fixed_some}
use Rattle.lines.specs.declared.Fixed.{Fixed}
use Rattle.lines.specs.declared.Fixed.TheVariants.{Ok, Connect, Error, CommandNotSupport, NoCarrier, Busy, NoAnswer, NoDialtone, Na, Cme, Cms, Modem, ConnectText}
use Rattle.seek.specs.Seek.{any_of}
use Rattle.seek.specs.Laws.{or-false}
use Rattle.pass.specs.Begin.{is_eleventh, may_begin, begin_from, Clear}

pub no_begin : (s : List ℕ) (p : ℕ) → (get_or s (p + 1) 0 ≡ 10 → ⊥) → false ≡ may_begin s p
unfolding may_begin
no_begin s p h = rw (ne_eqb (get_or s (p + 1) 0) 10 h)

-- What each of the eleven has: five bytes, CR first, and the test passed by its own bytes.
record Begins (t : List ℕ) : Type 0 where
  long : 5 ≤ length t
  cr : t ≡ 13 ∷ drop 1 t
  may : may_begin t 0 ≡ true

each_begins : (l : Fixed) → is_eleventh l ≡ true → Begins (fixed_text l)
unfolding may_begin
each_begins Ok h = record { long = omega arith; cr = refl; may = refl }
each_begins Connect h = record { long = omega arith; cr = refl; may = refl }
each_begins Error h = record { long = omega arith; cr = refl; may = refl }
each_begins CommandNotSupport h = record { long = omega arith; cr = refl; may = refl }
each_begins NoCarrier h = record { long = omega arith; cr = refl; may = refl }
each_begins Busy h = record { long = omega arith; cr = refl; may = refl }
each_begins NoAnswer h = record { long = omega arith; cr = refl; may = refl }
each_begins NoDialtone h = record { long = omega arith; cr = refl; may = refl }
each_begins Cme h = record { long = omega arith; cr = refl; may = refl }
each_begins Cms h = record { long = omega arith; cr = refl; may = refl }
each_begins Modem h = record { long = omega arith; cr = refl; may = refl }
each_begins Na h = absurd (false_true h refl)
each_begins ConnectText h = absurd (false_true h refl)

-- so where it stands it may begin, and a CR stands
module _ (t s : List ℕ) (p : ℕ) (w : Begins t) (q : stands t s p ≡ true) where
  begins_may : may_begin s p ≡ true
  unfolding may_begin
  begins_may =
      let h = w.long in
      rw (stands_get_d t s p 1 q (omega arith), stands_get_d t s p 3 q (omega arith), stands_get_d t s p 4 q (omega arith)) w.may

  begins_cr : stands (bytes "\r") s p ≡ true
  begins_cr = stands_front (bytes "\r") (drop 1 t) s p (ap (λ (u : List ℕ). stands u s p) (sym w.cr) ∙ q)

module _ (s : List ℕ) where
  pub clear_here : (i : ℕ) → Clear s i i
  clear_here i = record { after = omega arith; none = λ l h j a b. absurd (omega arith) }

  pub clear_join : (i r p : ℕ) → Clear s i r → Clear s r p → Clear s i p
  clear_join i r p a b =
      record {
        after = omega (arith, a.after, b.after);
        none = λ l h j x y. ⊎_elim (λ (q : j < r). a.none l h j x q) (λ (q : r ≤ j). b.none l h j q y) (order j r);
      }

  -- a place at which none may begin
  pub clear_one : (i : ℕ) → may_begin s i ≡ false → Clear s i (i + 1)
  clear_one i e =
      record {
        after = omega arith;
        none = λ l h j a b.
            let q : j ≡ i = omega arith in
            ap (stands (fixed_text l) s) q ∙ not_true_false (stands (fixed_text l) s i) (λ w. false_true (begins_may (fixed_text l) s i (each_begins l h) w) e);
      }

  -- and a CRLF by itself, whose LF is no text's first byte
  pub clear_crlf : (i r : ℕ) → may_begin s i ≡ false → get_or s (i + 1) 0 ≡ 10 → Clear s (i + 2) r → Clear s i r
  clear_crlf i r e f w = clear_join i (i + 1) r (clear_one i e) (clear_join (i + 1) (i + 2) r lf w)
    where
      lf : Clear s (i + 1) (i + 2)
      lf =
          record {
            after = omega arith;
            none = λ l h j a b.
                let q : j ≡ i + 1 = omega arith in
                ap (stands (fixed_text l) s) q
                ∙ not_true_false (stands (fixed_text l) s (i + 1)) (λ z. absurd (omega (arith, f, (stands_byte 13 [] s (i + 1) (begins_cr (fixed_text l) s (i + 1) (each_begins l h) z)).1.0)));
          }

  -- n of them
  pub clear_block : (i n : ℕ) → any_of (begin_from s i) n ≡ false → Clear s i (i + n)
  unfolding any_of
  clear_block i zero e = rw add-zero (clear_here i)
  clear_block i (suc n) e =
      let q = or-false (any_of (begin_from s i) n) (may_begin s (i + n)) e in
      let m : i + n + 1 ≡ i + suc n = omega arith in
      rw m at (clear_join i (i + n) (i + n + 1) (clear_block i n q.0) (clear_one (i + n) q.1))

  -- the places with too few bytes behind them
  pub clear_end : (i : ℕ) → i ≤ length s → length s < i + 5 → Clear s i (length s)
  clear_end i g h =
      record {
        after = g;
        none = λ l w j a b. not_true_false (stands (fixed_text l) s j) (λ q. absurd (omega (arith, stands_fits (fixed_text l) s j (fixed_some l) q, (each_begins l w).long)));
      }

  -- the places before the first CR, and all of them where there is none
  module _ (i p : ℕ) (e : find_in (bytes "\r") s i ≡ Some p) where
    pub cr_inside : p < length s
    cr_inside = omega (arith, stands_fits (bytes "\r") s p (omega arith) (found_at (bytes "\r") s i p e).here)

    pub clear_cr : Clear s i p
    clear_cr =
        let w = found_at (bytes "\r") s i p e in
        record {
          after = w.after;
          none = λ l h j a b. not_true_false (stands (fixed_text l) s j) (λ q. false_true (begins_cr (fixed_text l) s j (each_begins l h) q) (w.first j a b));
        }

  pub clear_none : (i r : ℕ) → find_in (bytes "\r") s i ≡ None → i ≤ r → Clear s i r
  clear_none i r e g = record { after = g; none = λ l h j a b. not_true_false (stands (fixed_text l) s j) (λ q. false_true (begins_cr (fixed_text l) s j (each_begins l h) q) (found_none (bytes "\r") s i e j a)) }
