-- What a caller may know of places. Rests on text's laws of `stands` and `find_in`.
use Rattle.std.specs.Prelude.{Option, Some, None, ◌≡◌, refl, Bool, true, false, ◌&&◌, List, ℕ, ◌+◌, ◌-◌, ◌≤◌, leb, if◌then◌else◌}
use Rattle.std.proofs.Math.Path.{sym, ap}
use Rattle.std.proofs.Common.{◌∙◌, arith}
use Rattle.std.proofs.Math.ListN.{length}
use Rattle.text.specs.Logic.{and_both}
use Rattle.text.specs.Text.{stands, find_in}
use Rattle.text.specs.Laws.{found_at, stands_fits}
use Rattle.lines.specs.Lines.{fixed_text, connect_place}
use Rattle.lines.specs.Laws.{fixed_some}
use Rattle.lines.specs.declared.Digester.{Digester}
use Rattle.lines.specs.declared.Fixed.{Fixed}
use Rattle.lines.specs.declared.Fixed.TheVariants as fixed
use Rattle.places.specs.Places.{unsought, line_end, head_end, place_of, place_in, line_in, FirstPlaces, FirstLines}
use Rattle.places.specs.declared.Lines.{Lines}
use Rattle.places.specs.declared.Places.{Places}

-- A place has its text, whoever said where it ends, and with it lies in the input.
of_here : (t s : List ℕ) (e : ℕ) (found : Option ℕ) (k : ℕ) → place_of t s e found ≡ Some k → stands t s k ≡ true
unfolding place_of
of_here t s e (Some n) k q = go (leb (e + length t) n && stands t s (n - length t)) refl q
  where
    go : (b : Bool) → leb (e + length t) n && stands t s (n - length t) ≡ b → (if b then Some (n - length t) else None) ≡ Some k → stands t s k ≡ true
    go true w z =
        let m : n - length t ≡ k = cc in
        ap (stands t s) (sym m) ∙ (and_both (leb (e + length t) n) (stands t s (n - length t)) w).1
    go false w z = absurd (let m : ◌≡◌ {A = ℕ} 0 1 = cc in omega arith)
of_here t s e None k q = (found_at t s e k q).here

pub place_here : (s : List ℕ) (p : Places) (l : Fixed) (k : ℕ) → place_in s p l ≡ Some k → stands (fixed_text l) s k ≡ true
unfolding place_in
place_here s p l = of_here (fixed_text l) s p.from (head_end p l)

pub place_inside : (s : List ℕ) (p : Places) (l : Fixed) (k : ℕ) → place_in s p l ≡ Some k → k + length (fixed_text l) ≤ length s
place_inside s p l k q = stands_fits (fixed_text l) s k (fixed_some l) (place_here s p l k q)

pub line_inside : (s : List ℕ) (e : ℕ) (x : Lines) (l : Fixed) (k : ℕ) → line_in s e x l ≡ Some k → k + length (fixed_text l) ≤ length s
unfolding line_in
line_inside s e x l k q = stands_fits (fixed_text l) s k (fixed_some l) (of_here (fixed_text l) s e (line_end x l) k q)

-- Those that are sought are the first ones.
pub sought_first : (s : List ℕ) (e : ℕ) (p : Places) → p ≡ unsought e → FirstPlaces s e p
unfolding place_in place_of
sought_first s e p q l = ap (λ (y : Places). place_in s y l) q

-- where the lines are the first ones, CONNECT's is
pub connect_first : (d : Digester) (s : List ℕ) (e : ℕ) (x : Lines) → FirstLines s e x → connect_place d (line_in s e x) ≡ connect_place d (λ l. find_in (fixed_text l) s e)
unfolding connect_place
connect_first d s e x w = rw (w fixed.Connect, w fixed.ConnectText)
