-- Any two results that the contract of `report` allows are equal, every byte of the lent memory too: both can be read off what `reported` makes of them.
use Rattle.std.specs.Prelude.{Result, Ok, Err}
use mathlib.Core.Path.{◌≡◌, refl, sym, ap, ◌∙◌}
use mathlib.Core.List.{List}
use Prim.Native.Nat.{ℕ}
use Rattle.outcome.specs.One.{Alike}
use Rattle.text.specs.Logic.{determined}
use Rattle.report.specs.declared.ReportError.{ReportError}
use Rattle.report.specs.declared.ReportError.TheVariants as saying
use Rattle.report.specs.Report.{Reporting, is, short, reported}
use Rattle.report.proofs as calls

abbrev reported_of : Reporting → Result ℕ ReportError
reported_of (is x) = Ok x.at
reported_of (short o) = (Err saying.Short)

abbrev memory_of : Reporting → List ℕ
memory_of (is x) = x.out
memory_of (short o) = o

reported_back : (r : Result ℕ ReportError) (o : List ℕ) → (reported_of (reported r o) ≡ r) × (memory_of (reported r o) ≡ o)
reported_back (Ok n) o = (refl, refl)
reported_back (Err saying.Short) o = (refl, refl)

pub report_one : Alike calls.report.Reads.Post (λ κs x y s t. (x ≡ y) × (s.1.0.now ≡ t.1.0.now))
report_one κs a x y s t h g =
    let e = determined h g in
    let k = reported_back x s.1.0.now in
    let l = reported_back y t.1.0.now in
    (sym k.0 ∙ ap reported_of e ∙ l.0, sym k.1 ∙ ap memory_of e ∙ l.1)
