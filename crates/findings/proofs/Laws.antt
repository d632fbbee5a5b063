-- Findings carried on piece by piece are those of all the bytes at once. Rests on scan's law of the same, and on text's laws of `keep` and `find_in`.
use Rattle.std.specs.Prelude.{Option, Some, None, ◌≡◌, refl, Bool, true, List, [], ◌∷◌, ◌++◌, ℕ, ◌+◌, ◌≤◌, ◌<◌, length, drop, if◌then◌else◌}
use Rattle.std.proofs.Math.Path.{sym, ap}
use Rattle.std.proofs.Common.{◌∙◌, ⊎_elim, arith, length-drop}
use Rattle.std.proofs.Math.Bool.{false}
use Rattle.std.proofs.lemmas.List.{drop-append-le}
use Rattle.std.proofs.Math.Seq.{drop-append_seam}
use Rattle.std.proofs.Math.Dec.{eqb}
use borrow.Author.Tests.{ne_eqb, eqb-true, eqb-false}
use Rattle.outcome.specs.Laws.{ways}
use Rattle.text.specs.Logic.{order}
use Rattle.text.specs.Text.{is_blank, keep, find_in}
use Rattle.text.specs.Laws.{find_later, find_behind, found_none, keep_front, keep_both, stands_behind}
use Rattle.text.specs.declared.Blanks.TheVariants.{Run}
use Rattle.lines.specs.Lines.{fixed_text}
use Rattle.lines.specs.declared.Fixed.TheVariants.{Na}
use Rattle.scan.specs.Scan as scan
use Rattle.scan.proofs.Laws as scan-laws
use Rattle.scan.proofs.Theorem.{scanned_firsts}
use Rattle.scan.specs.Words.{texts}
use Rattle.scan.specs.declared.Findings as found
use Rattle.findings.specs.Findings.{not_lf, findings_of, na_from, na_end, last_end, texts_of, extended, ends_in, findings_in, numbers_of}
use Rattle.findings.specs.Steps.{na_fits, na_known, last_none, last_some}
use Rattle.findings.specs.declared.Findings.{Findings}

-- an NA line: one that the first piece ends is the first in both; else it may have begun in that piece's last five bytes
module _ (s t : List ℕ) (n : ℕ) (h : n ≤ length s) where
  na_on : (r : Option ℕ) → find_in (fixed_text Na) s (na_from n) ≡ r → na_end (s ++ t) (length s) (scan.end_of (fixed_text Na) r) ≡ scan.end_of (fixed_text Na) (find_in (fixed_text Na) (s ++ t) (na_from n))
  unfolding na_end scan.end_of
  na_on (Some p) e = rw (ne_eqb (p + 6) 0 (λ z. absurd (omega arith)), find_behind (fixed_text Na) s t (na_from n) p (na_fits s (na_from n) p e) e)
  na_on None e =
      ap (scan.end_of (fixed_text Na))
      (sym (find_later (fixed_text Na) (s ++ t) (na_from n) (na_from (length s)) (omega arith) (λ j g l. stands_behind (fixed_text Na) s t j (omega arith) ∙ found_none (fixed_text Na) s (na_from n) e j g)))

  na_twice : (e : ℕ) → na_end (s ++ t) (length s) (na_end s n e) ≡ na_end (s ++ t) n e
  na_twice e = go (eqb e 0) refl
    where
      go : (b : Bool) → eqb e 0 ≡ b → na_end (s ++ t) (length s) (na_end s n e) ≡ na_end (s ++ t) n e
      go true q = unfold na_end in rw q (na_on (find_in (fixed_text Na) s (na_from n)) refl)
      go false q =
          let z = eqb-false e 0 q in
          ap (na_end (s ++ t) (length s)) (sym (na_known s n e z)) ∙ sym (na_known (s ++ t) (length s) e z) ∙ na_known (s ++ t) n e z

-- where nothing was looked at before
last_all : (f : ℕ → Bool) (s : List ℕ) → last_end f s 0 0 ≡ keep f s
unfolding last_end
last_all f s = ways (λ (n : ℕ). n ≡ keep f s) (eqb (keep f s) 0) (λ e. sym (eqb-true (keep f s) 0 e)) (λ e. omega arith)

-- where the last byte of two pieces ends that isn't passed over: by what is kept of the second
module _ (f : ℕ → Bool) (t : List ℕ) where
  last_same : (s u : List ℕ) (n e : ℕ) → keep f (drop n s) ≡ keep f (drop n u) → last_end f s n e ≡ last_end f u n e
  unfolding last_end
  last_same s u n e q = ap (λ (k : ℕ). if eqb k 0 then e else n + k) q

  last_twice : (s : List ℕ) (n e : ℕ) → n ≤ length s → last_end f (s ++ t) (length s) (last_end f s n e) ≡ last_end f (s ++ t) n e
  last_twice s n e h = ⊎_elim some none (order 0 (keep f t))
    where
      new : keep f t ≡ keep f (drop (length s) (s ++ t))
      new = ap (keep f) (sym (drop-append_seam s t))

      all : keep f (drop n (s ++ t)) ≡ keep f (drop n s ++ t)
      all = ap (keep f) (drop-append-le n s t h)

      some : 0 < keep f t → last_end f (s ++ t) (length s) (last_end f s n e) ≡ last_end f (s ++ t) n e
      some g =
          let k = length (drop n s) + keep f t in
          let m : length s + keep f t ≡ n + k = omega (arith, length-drop n s) in
          sym (last_some f (s ++ t) (length s) (last_end f s n e) (keep f t) new g)
          ∙ m
          ∙ last_some f (s ++ t) n e k (sym (all ∙ keep_both f t (drop n s) g)) (omega arith)

      none : keep f t ≤ 0 → last_end f (s ++ t) (length s) (last_end f s n e) ≡ last_end f (s ++ t) n e
      none g =
          let z : keep f t ≡ 0 = omega arith in
          sym (last_none f (s ++ t) (length s) (last_end f s n e) (keep f t) new z)
          ∙ sym (last_same (s ++ t) s n e (all ∙ keep_front f t (drop n s) z))

-- findings carried on over s, and then over t, are those carried on over s·t at once, whoever says what was found before
pub extended_twice : (f : Findings) (s t : List ℕ) → f.seen ≤ length s → extended (extended f s) (s ++ t) ≡ extended f (s ++ t)
unfolding extended
extended_twice f s t h =
    let e = scan-laws.extended_twice (texts_of f) s t h in
    let n = scan-laws.extended_seen (texts_of f) s h in
    let a = ap (λ (m : ℕ). na_end (s ++ t) m (na_end s f.seen f.na)) n ∙ na_twice s t f.seen h f.na in
    let b = ap (λ (m : ℕ). last_end (is_blank Run) (s ++ t) m (last_end (is_blank Run) s f.seen f.last)) n ∙ last_twice (is_blank Run) t s f.seen f.last h in
    let c = ap (λ (m : ℕ). last_end not_lf (s ++ t) m (last_end not_lf s f.seen f.lf)) n ∙ last_twice not_lf t s f.seen f.lf h in
    λ i. record { seen = (e i).seen; state = (e i).state; ends = (e i).ends; na = a i; last = b i; lf = c i }

-- the findings of no bytes carried on over s are those of s
pub extended_none : (s : List ℕ) → extended (findings_of []) s ≡ findings_of s
unfolding extended findings_of na_end scan.scanned scan.fresh scan.run scan.end_of find_in keep
extended_none s =
    let e = scan-laws.extended_scanned [] s in
    let n = scan-laws.scanned_seen s in
    let a = last_all (is_blank Run) s in
    let b = last_all not_lf s in
    λ i. record { seen = (ap (λ (x : found.Findings). x.seen) e ∙ n) i; state = (e i).state; ends = (e i).ends; na = (findings_of s).na; last = a i; lf = b i }

-- The findings of s carried on over t are those of s·t
pub extended_findings : (s t : List ℕ) → extended (findings_of s) (s ++ t) ≡ findings_of (s ++ t)
extended_findings s t =
    ap (λ (f : Findings). extended f (s ++ t)) (sym (extended_none s))
    ∙ extended_twice (findings_of []) s t (unfold findings_of in omega arith)
    ∙ extended_none (s ++ t)

-- genuine findings read back from their numbers
ends_back : (l s : List ℕ) → l ≡ scan.first_ends 0 s → ends_in (0 ∷ 0 ∷ l) ≡ l
ends_back l s e = rw e (unfold scan.first_ends texts in refl)

pub numbers_back : (s : List ℕ) → findings_in (numbers_of (findings_of s)) ≡ findings_of s
unfolding findings_of
numbers_back s =
    let e = ends_back (scan.scanned 0 s).ends s (scanned_firsts 0 s) in
    λ i. record { seen = length s; state = (scan.scanned 0 s).state; ends = e i; na = (findings_of s).na; last = (findings_of s).last; lf = (findings_of s).lf }
