-- What one pass finds: the first OK line, or where the other texts that may stand anywhere first end.
use Rattle.std.specs.Prelude.{Option, Some, None, List, ℕ, get_or}
use Rattle.text.specs.Text.{find_in}
use Rattle.lines.specs.Lines.{fixed_text}
use Rattle.lines.specs.declared.Fixed.TheVariants as fixed
use Rattle.scan.specs.Scan.{first_ends}
use Rattle.places.specs.declared.Lines.{Lines}
use Rattle.places.specs.declared.Places.{Places}
use Rattle.pass.specs.declared.Passed.{Passed}
use Rattle.pass.specs.declared.Passed.TheVariants.{Ok, Others}

-- The lines and the heads by the ends of the eleven, in the order of the pass; the first is OK's.
abbrev pub lines_at : List ℕ → Lines
lines_at n =
    record {
      connect = get_or n 1 0;
      error = get_or n 2 0;
      unsupported = get_or n 3 0;
      carrier = get_or n 4 0;
      busy = get_or n 5 0;
      answer = get_or n 6 0;
      dialtone = get_or n 7 0;
    }

abbrev pub heads_at : ℕ → List ℕ → Places
heads_at e n = record { from = e; heads = Some (record { cme = get_or n 8 0; cms = get_or n 9 0; modem = get_or n 10 0 }) }

-- R-6: what the pass finds in s at or after e: the first OK line, or, where there is none, where the others first end.
abbrev pub first_lines : List ℕ → ℕ → Lines
first_lines s e = lines_at (first_ends e s)

abbrev pub first_places : List ℕ → ℕ → Places
first_places s e = heads_at e (first_ends e s)

unfoldable pub passed_by : Option ℕ → List ℕ → ℕ → Passed
passed_by (Some k) s e = Ok k
passed_by None s e = Others (first_lines s e) (first_places s e)

abbrev pub passed : List ℕ → ℕ → Passed
passed s e = passed_by (find_in (fixed_text fixed.Ok) s e) s e
