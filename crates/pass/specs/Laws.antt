-- That what the pass finds are the first places, what its results say, and the ways out of the functions. Rests on text's laws of `stands` and `find_in`.
use Rattle.std.specs.Prelude.{Option, Some, None, ◌≡◌, Bool, ℕ, ◌+◌, ◌-◌, ◌≤◌, ◌<◌, replicate, if◌then◌else◌}
use Rattle.std.proofs.Math.Path.{refl, sym, ap}
use Rattle.std.proofs.Common.{◌∙◌, ⊎_elim, arith, le-leb}
use Rattle.std.proofs.Math.Bool.{true, false}
use mathlib.Core.List.{List}
use Rattle.std.proofs.Math.ListN.{length, get_or}
use Rattle.std.proofs.lemmas.Bool.{lt-leb}
use Rattle.text.specs.Logic.{order}
use Rattle.text.specs.Text.{stands, find_in}
use Rattle.text.specs.Steps.{find_here, find_next}
use Rattle.text.specs.Laws.{found_at, stands_fits, find_is, find_says, find_late, Says}
use Rattle.lines.specs.Lines.{fixed_text}
use Rattle.lines.specs.Laws.{fixed_some}
use Rattle.lines.specs.declared.Fixed.{Fixed}
use Rattle.lines.specs.declared.Fixed.TheVariants as fixed
use Rattle.scan.specs.Words.{texts}
use Rattle.scan.specs.Scan.{end_of, first_ends}
use Rattle.places.specs.Places.{place_of, place_in, line_in, FirstPlaces, FirstLines}
use Rattle.places.specs.declared.Lines.{Lines}
use Rattle.places.specs.declared.Places.{Places}
use Rattle.pass.specs.Pass.{lines_at, heads_at, first_lines, first_places, passed_by, passed}
use Rattle.pass.specs.Begin.{is_eleventh, Clear, end_here, ends_here}
use Rattle.pass.specs.declared.Passed.TheVariants.{Ok, Others}

-- what is said to end where the first occurrence ends is the first occurrence
of_first : (t s : List ℕ) (e : ℕ) → 0 < length t → (r : Option ℕ) → find_in t s e ≡ r → place_of t s e (Some (end_of t r)) ≡ find_in t s e
unfolding place_of end_of
of_first t s e h (Some k) q =
    let w = found_at t s e k q in
    let m : k + length t - length t ≡ k = omega arith in
    rw (le-leb (e + length t) (k + length t) (omega (arith, w.after)), m, w.here) (sym q)
of_first t s e h None q = rw (lt-leb (e + length t) 0 (omega arith)) (sym q)

-- Those of the pass are the first ones.
module _ (s : List ℕ) (e : ℕ) where
  known : (l : Fixed) → place_of (fixed_text l) s e (Some (end_of (fixed_text l) (find_in (fixed_text l) s e))) ≡ find_in (fixed_text l) s e
  known l = of_first (fixed_text l) s e (fixed_some l) (find_in (fixed_text l) s e) refl

  pub lines_first : (x : Lines) → x ≡ first_lines s e → FirstLines s e x
  unfolding line_in
  lines_first x q l = ap (λ (y : Lines). line_in s e y l) q ∙ each l
    where
      each : (l : Fixed) → line_in s e (first_lines s e) l ≡ find_in (fixed_text l) s e
      each fixed.Ok = unfold place_of in refl
      each fixed.Connect = unfold first_ends texts in known fixed.Connect
      each fixed.Error = unfold first_ends texts in known fixed.Error
      each fixed.CommandNotSupport = unfold first_ends texts in known fixed.CommandNotSupport
      each fixed.NoCarrier = unfold first_ends texts in known fixed.NoCarrier
      each fixed.Busy = unfold first_ends texts in known fixed.Busy
      each fixed.NoAnswer = unfold first_ends texts in known fixed.NoAnswer
      each fixed.NoDialtone = unfold first_ends texts in known fixed.NoDialtone
      each fixed.Na = unfold place_of in refl
      each fixed.Cme = unfold place_of in refl
      each fixed.Cms = unfold place_of in refl
      each fixed.Modem = unfold place_of in refl
      each fixed.ConnectText = unfold place_of in refl

  pub heads_first : (p : Places) → p ≡ first_places s e → FirstPlaces s e p
  unfolding place_in
  heads_first p q l = ap (λ (y : Places). place_in s y l) q ∙ each l
    where
      each : (l : Fixed) → place_in s (first_places s e) l ≡ find_in (fixed_text l) s e
      each fixed.Ok = unfold place_of in refl
      each fixed.Connect = unfold place_of in refl
      each fixed.Error = unfold place_of in refl
      each fixed.CommandNotSupport = unfold place_of in refl
      each fixed.NoCarrier = unfold place_of in refl
      each fixed.Busy = unfold place_of in refl
      each fixed.NoAnswer = unfold place_of in refl
      each fixed.NoDialtone = unfold place_of in refl
      each fixed.Na = unfold place_of in refl
      each fixed.Cme = unfold first_ends texts in known fixed.Cme
      each fixed.Cms = unfold first_ends texts in known fixed.Cms
      each fixed.Modem = unfold first_ends texts in known fixed.Modem
      each fixed.ConnectText = unfold place_of in refl

-- The ways out of `pass`. Where no text stands before r, the first place from e on is that from r on, and behind the end there is none.
find_clear : (s : List ℕ) (e r : ℕ) → Clear s e r → (l : Fixed) → is_eleventh l ≡ true → find_in (fixed_text l) s e ≡ find_in (fixed_text l) s r
find_clear s e r w l h = find_is t s e (find_in t s r) (go (find_in t s r) (find_says t s r))
  where
    t : List ℕ
    t = fixed_text l

    go : (q : Option ℕ) → Says t s r q → Says t s e q
    go (Some k) z =
        record {
          after = omega (arith, w.after, z.after);
          here = z.here;
          first = λ j a b. ⊎_elim (λ (q : j < r). w.none l h j a q) (λ (q : r ≤ j). z.first j q b) (order j r);
        }
    go None z = λ j a. ⊎_elim (λ (q : j < r). w.none l h j a q) (λ (q : r ≤ j). z j q) (order j r)

ends_clear : (s : List ℕ) (e r : ℕ) → Clear s e r → first_ends e s ≡ first_ends r s
unfolding first_ends texts
ends_clear s e r w =
    rw
    (find_clear s e r w fixed.Ok refl, find_clear s e r w fixed.Connect refl, find_clear s e r w fixed.Error refl, find_clear s e r w fixed.CommandNotSupport refl, find_clear s e r w fixed.NoCarrier refl, find_clear s e r w fixed.Busy refl, find_clear s e r w fixed.NoAnswer refl, find_clear s e r w fixed.NoDialtone refl, find_clear s e r w fixed.Cme refl, find_clear s e r w fixed.Cms refl, find_clear s e r w fixed.Modem refl)

ends_past : (s : List ℕ) (r : ℕ) → length s ≤ r → first_ends r s ≡ replicate 11 0
unfolding first_ends texts end_of
ends_past s r g =
    let late : (l : Fixed) → find_in (fixed_text l) s r ≡ None = λ l. find_late (fixed_text l) s r (fixed_some l) (omega (arith, fixed_some l)) in
    rw (late fixed.Ok, late fixed.Connect, late fixed.Error, late fixed.CommandNotSupport, late fixed.NoCarrier, late fixed.Busy, late fixed.NoAnswer, late fixed.NoDialtone, late fixed.Cme, late fixed.Cms, late fixed.Modem)

-- by the ends of all from e on
module _ (s : List ℕ) (e : ℕ) (n : List ℕ) (q : n ≡ first_ends e s) where
  ok_end : get_or n 0 0 ≡ end_of (fixed_text fixed.Ok) (find_in (fixed_text fixed.Ok) s e)
  ok_end = unfold first_ends texts in ap (λ (m : List ℕ). get_or m 0 0) q

  pub pass_room : 0 < get_or n 0 0 → 6 ≤ get_or n 0 0
  unfolding end_of
  pass_room h = go (find_in (fixed_text fixed.Ok) s e) ok_end
    where
      go : (r : Option ℕ) → get_or n 0 0 ≡ end_of (fixed_text fixed.Ok) r → 6 ≤ get_or n 0 0
      go (Some k) z = omega (arith, z)
      go None z = absurd (omega (arith, z))

  pub pass_found : 0 < get_or n 0 0 → Ok (get_or n 0 0 - 6) ≡ passed s e
  unfolding passed_by end_of
  pass_found h = go (find_in (fixed_text fixed.Ok) s e) ok_end
    where
      go : (r : Option ℕ) → get_or n 0 0 ≡ end_of (fixed_text fixed.Ok) r → Ok (get_or n 0 0 - 6) ≡ passed_by r s e
      go (Some k) z = let m : get_or n 0 0 - 6 ≡ k = omega (arith, z) in ap Ok m
      go None z = absurd (omega (arith, z))

  pub pass_others : get_or n 0 0 ≡ 0 → Others (lines_at n) (heads_at e n) ≡ passed s e
  unfolding passed_by end_of
  pass_others h = go (find_in (fixed_text fixed.Ok) s e) ok_end
    where
      go : (r : Option ℕ) → get_or n 0 0 ≡ end_of (fixed_text fixed.Ok) r → Others (lines_at n) (heads_at e n) ≡ passed_by r s e
      go (Some k) z = absurd (omega (arith, z))
      go None z = ap (λ (m : List ℕ). Others (lines_at m) (heads_at e m)) q

module _ (s : List ℕ) (e p : ℕ) (w : Clear s e p) where
  ok_clear : find_in (fixed_text fixed.Ok) s e ≡ find_in (fixed_text fixed.Ok) s p
  ok_clear = find_clear s e p w fixed.Ok refl

  pub pass_ok : stands (fixed_text fixed.Ok) s p ≡ true → Ok p ≡ passed s e
  unfolding passed_by
  pass_ok h = rw (ok_clear ∙ find_here (fixed_text fixed.Ok) s p h)

  -- the ends from p on are those from e on
  pub ends_on : (n : List ℕ) → n ≡ first_ends p s → n ≡ first_ends e s
  ends_on n q = q ∙ sym (ends_clear s e p w)

  pub pass_none : length s ≤ p → Others (lines_at (replicate 11 0)) (heads_at e (replicate 11 0)) ≡ passed s e
  pass_none g = pass_others s e (replicate 11 0) (ends_on (replicate 11 0) (sym (ends_past s p g))) refl

  -- where nothing begins behind p either, only what stands at p counts
  module _ (i : p < length s) (r : ℕ) (z : Clear s (p + 1) r) (g : length s ≤ r) where
    gone : (l : Fixed) → is_eleventh l ≡ true → stands (fixed_text l) s p ≡ false → find_in (fixed_text l) s e ≡ None
    gone l h q =
        find_clear s e p w l h
        ∙ find_next (fixed_text l) s p i q
        ∙ find_clear s (p + 1) r z l h
        ∙ find_late (fixed_text l) s r (fixed_some l) (omega (arith, fixed_some l))

    here_is : (l : Fixed) → is_eleventh l ≡ true → end_here s p l ≡ end_of (fixed_text l) (find_in (fixed_text l) s e)
    unfolding end_here end_of
    here_is l h = go (stands (fixed_text l) s p) refl
      where
        go : (b : Bool) → stands (fixed_text l) s p ≡ b → (if b then p + length (fixed_text l) else 0) ≡ end_of (fixed_text l) (find_in (fixed_text l) s e)
        go true q = rw (find_clear s e p w l h ∙ find_here (fixed_text l) s p q)
        go false q = rw (gone l h q)

    ends_are : stands (fixed_text fixed.Ok) s p ≡ false → ends_here s p ≡ first_ends e s
    unfolding first_ends texts end_of
    ends_are n =
        rw
        (here_is fixed.Connect refl, here_is fixed.Error refl, here_is fixed.CommandNotSupport refl, here_is fixed.NoCarrier refl, here_is fixed.Busy refl, here_is fixed.NoAnswer refl, here_is fixed.NoDialtone refl, here_is fixed.Cme refl, here_is fixed.Cms refl, here_is fixed.Modem refl, gone fixed.Ok refl n)

    pub pass_here : stands (fixed_text fixed.Ok) s p ≡ false → Others (lines_at (ends_here s p)) (heads_at e (ends_here s p)) ≡ passed s e
    pass_here n = pass_others s e (ends_here s p) (ends_are n) refl

-- what stands fits
pub here_room : (s : List ℕ) (p : ℕ) (l : Fixed) → stands (fixed_text l) s p ≡ true → p + length (fixed_text l) ≤ length s
here_room s p l = stands_fits (fixed_text l) s p (fixed_some l)

-- What a result of `pass` says.
pub passed_ok : (s : List ℕ) (e k : ℕ) → passed s e ≡ Ok k → find_in (fixed_text fixed.Ok) s e ≡ Some k
unfolding passed_by
passed_ok s e k q = go (find_in (fixed_text fixed.Ok) s e) q
  where
    go : (r : Option ℕ) → passed_by r s e ≡ Ok k → r ≡ Some k
    go (Some j) z = let m : j ≡ k = cc in ap Some m
    go None z = absurd (let m : ◌≡◌ {A = ℕ} 0 1 = cc in omega arith)

pub record Passing (s : List ℕ) (e : ℕ) (x : Lines) (y : Places) : Type 0 where
  pub none : find_in (fixed_text fixed.Ok) s e ≡ None
  pub lines : x ≡ first_lines s e
  pub heads : y ≡ first_places s e

pub passed_others : (s : List ℕ) (e : ℕ) (x : Lines) (y : Places) → passed s e ≡ Others x y → Passing s e x y
unfolding passed_by
passed_others s e x y q = go (find_in (fixed_text fixed.Ok) s e) refl q
  where
    go : (r : Option ℕ) → find_in (fixed_text fixed.Ok) s e ≡ r → passed_by r s e ≡ Others x y → Passing s e x y
    go (Some j) p z = absurd (let m : ◌≡◌ {A = ℕ} 0 1 = cc in omega arith)
    go None p z = record { none = p; lines = cc; heads = cc }
