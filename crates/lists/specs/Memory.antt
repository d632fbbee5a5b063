-- What was written reads back: the element of each number in the memory is the element of that number in the list.
use Rattle.std.specs.Prelude.{◌≡◌, refl, List, [], ◌∷◌, ◌++◌, ℕ, zero, suc, ◌+◌, ◌*◌, ◌≤◌, ◌<◌, length, get_or, drop}
use Rattle.std.proofs.Common.{ap, ◌∙◌, arith, get_or-append-add}
use Rattle.std.proofs.Math.ListN.{get_or-append}
use Rattle.std.proofs.lemmas.List.Edits.{sets, sets-eq}
use Rattle.pieces.specs.Pieces.{kind_number, kind_of, numbers_of, element_at}
use Rattle.pieces.specs.declared.Kind.{Kind}
use Rattle.pieces.specs.declared.Kind.TheVariants as kinds
use Rattle.pieces.specs.declared.Element.{Element}
use Rattle.lists.specs.Grammar.{made, numbers}
use Rattle.lists.specs.Told.{length_numbers}

-- the element of the number i in a list
abbrev pub nth : List Element → ℕ → Element
nth es i = get_or es i (made 0 0 kinds.Empty 0 0 0)

kind_back : (k : Kind) → kind_of (kind_number k) ≡ k
kind_back kinds.Empty = refl
kind_back kinds.Number = refl
kind_back kinds.Range = refl
kind_back kinds.String = refl
kind_back kinds.List = refl

number_back : (es : List Element) (i k : ℕ) → i < length es → k < 6 → get_or (numbers es) (6 * i + k) 0 ≡ get_or (numbers_of (nth es i)) k 0
unfolding numbers
number_back [] i k h g = absurd (omega arith)
number_back (e ∷ es) zero k h g = let n : 6 * 0 + k ≡ k = omega arith in ap (λ (j : ℕ). get_or (numbers_of e ++ numbers es) j 0) n ∙ get_or-append (numbers_of e) (numbers es) 0 k g
number_back (e ∷ es) (suc i) k h g =
    let n : 6 * suc i + k ≡ 6 + (6 * i + k) = omega arith in
    ap (λ (j : ℕ). get_or (numbers_of e ++ numbers es) j 0) n ∙ get_or-append-add (numbers_of e) (numbers es) (6 * i + k) 0 ∙ number_back es i k (omega arith) g

module _ (m : List ℕ) (es : List Element) (h : 6 * length es ≤ length m) (i : ℕ) (g : i < length es) where
  written_back : (k : ℕ) → k < 6 → get_or (sets m 0 (numbers es)) (6 * i + k) 0 ≡ get_or (numbers_of (nth es i)) k 0
  written_back k l =
      ap (λ (x : List ℕ). get_or x (6 * i + k) 0) (sets-eq (numbers es) m 0 (omega (arith, length_numbers es)))
      ∙ get_or-append (numbers es) (drop (0 + length (numbers es)) m) 0 (6 * i + k) (omega (arith, length_numbers es))
      ∙ number_back es i k g l

  pub reads_back : element_at (sets m 0 (numbers es)) i ≡ nth es i
  reads_back =
      let n : 6 * i ≡ 6 * i + 0 = omega arith in
      λ j.
      record {
        place = (ap (λ (a : ℕ). get_or (sets m 0 (numbers es)) a 0) n ∙ written_back 0 (omega arith)) j;
        end = written_back 1 (omega arith) j;
        kind = (ap kind_of (written_back 2 (omega arith)) ∙ kind_back (nth es i).kind) j;
        depth = written_back 3 (omega arith) j;
        low = written_back 4 (omega arith) j;
        high = written_back 5 (omega arith) j;
      }
