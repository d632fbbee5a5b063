-- Findings carried on piece by piece are those of one pass, whoever says what was found before. Of the table it rests on this alone, that a state leads to a state.
use Rattle.std.specs.Prelude.{◌≡◌, refl, ℕ, ◌+◌, ◌≤◌, ◌<◌, length}
use Rattle.std.proofs.Math.Path.{sym, ap₂}
use Rattle.std.proofs.Common.{ap, ◌∙◌, add-zero, arith}
use mathlib.Core.List.{List, [], ◌∷◌, ◌++◌}
use Rattle.std.proofs.Math.ListN.{drop, length-drop}
use Rattle.std.proofs.lemmas.List.{drop-append-le}
use Rattle.std.proofs.Math.Seq.{drop-append_seam}
use Rattle.scan.proofs.Rule.{next_state}
use Rattle.scan.specs.Scan.{read, run, state_of, extended, fresh, scanned}
use Rattle.scan.proofs.Steps.{found, state_in, state_range}
use Rattle.scan.specs.declared.Findings.{Findings}

-- the bytes in two pieces
pub run_append : (f : Findings) (s t : List ℕ) → run f (s ++ t) ≡ run (run f s) t
unfolding run
run_append f [] t = refl
run_append f (b ∷ s) t = run_append (read f b) s t

run_seen : (f : Findings) (s : List ℕ) → (run f s).seen ≡ f.seen + length s
unfolding run
run_seen f [] = sym (add-zero f.seen)
run_seen f (b ∷ s) = run_seen (read f b) s ∙ (unfold read in omega arith)

run_range : (f : Findings) (s : List ℕ) → f.state < 98 → (run f s).state < 98
unfolding run
run_range f [] h = h
run_range f (b ∷ s) h = run_range (read f b) s (unfold read in next_state f.state b h)

-- what has been carried on has a state in its range, and is about all bytes of s
module _ (f : Findings) (s : List ℕ) where
  pub extended_range : (extended f s).state < 98
  unfolding extended
  extended_range = run_range (found f.seen (state_of f.state) f.ends) (drop f.seen s) (state_range f.state)

  pub extended_seen : f.seen ≤ length s → (extended f s).seen ≡ length s
  unfolding extended
  extended_seen h = run_seen (found f.seen (state_of f.state) f.ends) (drop f.seen s) ∙ omega (arith, length-drop f.seen s)

  -- where that is so, carrying on is running over what is new
  on_from : f.state < 98 → f.seen ≡ length s → (t : List ℕ) → extended f (s ++ t) ≡ run f t
  unfolding extended
  on_from h e t =
      let q = sym (state_in f.state h) in
      ap₂ (λ (n : ℕ) (l : List ℕ). run (found f.seen n f.ends) l) q (ap (λ (n : ℕ). drop n (s ++ t)) e ∙ drop-append_seam s t)

-- findings carried on over s, and then over t, are those carried on over s·t at once
pub extended_twice : (f : Findings) (s t : List ℕ) → f.seen ≤ length s → extended (extended f s) (s ++ t) ≡ extended f (s ++ t)
unfolding extended
extended_twice f s t h =
    let g = found f.seen (state_of f.state) f.ends in
    on_from (extended f s) s (extended_range f s) (extended_seen f s h) t
    ∙ sym (ap (run g) (drop-append-le f.seen s t h) ∙ run_append g (drop f.seen s) t)

-- a pass is the fresh findings carried on
scanned_extended : (d : ℕ) (s : List ℕ) → scanned d s ≡ extended (fresh d) s
unfolding scanned extended fresh state_of
scanned_extended d s = refl

module _ (s : List ℕ) where
  pub scanned_seen : (scanned 0 s).seen ≡ length s
  scanned_seen = ap (λ (f : Findings). f.seen) (scanned_extended 0 s) ∙ extended_seen (fresh 0) s (unfold fresh in omega arith)

  pub scanned_range : (scanned 0 s).state < 98
  scanned_range = rw (scanned_extended 0 s) (extended_range (fresh 0) s)

  -- THE THEOREM: what a pass found in s, carried on over t, is what it finds in s·t
  pub extended_scanned : (t : List ℕ) → extended (scanned 0 s) (s ++ t) ≡ scanned 0 (s ++ t)
  extended_scanned t =
      ap (λ (f : Findings). extended f (s ++ t)) (scanned_extended 0 s)
      ∙ extended_twice (fresh 0) s t (unfold fresh in omega arith)
      ∙ sym (scanned_extended 0 (s ++ t))
