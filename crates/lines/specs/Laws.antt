-- What a caller may know of the fixed texts; and where a text is looked for by its beginning.
use Rattle.std.specs.Prelude.{Option, Some, None, ◌≡◌, List, ◌++◌, false, ℕ, ◌≤◌, ◌<◌, length}
use Rattle.std.proofs.Common.{⊎_elim, arith}
use Rattle.text.specs.Logic.{false_true, not_true_false, order}
use Rattle.text.specs.Text.{stands, find_in}
use Rattle.text.specs.Laws.{FoundAt, Says, find_says, find_is, found_at, found_none, stands_front}
use Rattle.lines.specs.Lines.{fixed_text}
use Rattle.lines.specs.declared.Fixed.{Fixed}
use Rattle.lines.specs.declared.Fixed.TheVariants.{Ok, Connect, Error, CommandNotSupport, NoCarrier, Busy, NoAnswer, NoDialtone, Na, Cme, Cms, Modem, ConnectText}

-- no fixed text is empty
pub fixed_some : (x : Fixed) → 0 < length (fixed_text x)
fixed_some Ok = omega arith
fixed_some Connect = omega arith
fixed_some Error = omega arith
fixed_some CommandNotSupport = omega arith
fixed_some NoCarrier = omega arith
fixed_some Busy = omega arith
fixed_some NoAnswer = omega arith
fixed_some NoDialtone = omega arith
fixed_some Na = omega arith
fixed_some Cme = omega arith
fixed_some Cms = omega arith
fixed_some Modem = omega arith
fixed_some ConnectText = omega arith

module _ (t u s : List ℕ) (i : ℕ) where
  -- where its beginning doesn't stand, a text doesn't
  front_none : (j : ℕ) → stands t s j ≡ false → stands (t ++ u) s j ≡ false
  front_none j e = not_true_false (stands (t ++ u) s j) (λ p. false_true (stands_front t u s j p) e)

  -- nothing stands before the first place of its beginning
  from_front : (p : ℕ) → FoundAt t s i p → (r : Option ℕ) → Says (t ++ u) s p r → Says (t ++ u) s i r
  from_front p w (Some k) v =
      record {
        after = omega (arith, w.after, v.after);
        here = v.here;
        first = λ j g h. ⊎_elim (λ (q : j < p). front_none j (w.first j g q)) (λ (q : p ≤ j). v.first j q h) (order j p);
      }
  from_front p w None v = λ j g. ⊎_elim (λ (q : j < p). front_none j (w.first j g q)) (λ (q : p ≤ j). v j q) (order j p)

  -- so the search may begin there; and without the beginning there is no text
  pub find_front : (p : ℕ) → find_in t s i ≡ Some p → find_in (t ++ u) s i ≡ find_in (t ++ u) s p
  find_front p e = find_is (t ++ u) s i (find_in (t ++ u) s p) (from_front p (found_at t s i p e) (find_in (t ++ u) s p) (find_says (t ++ u) s p))

  pub find_no_front : find_in t s i ≡ None → find_in (t ++ u) s i ≡ None
  find_no_front e = find_is (t ++ u) s i None (λ j g. front_none j (found_none t s i e j g))
