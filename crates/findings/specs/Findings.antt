-- What the bytes of a buffer have to say about the fixed lines, and how that is carried on over more bytes.
use Rattle.std.specs.Prelude.{Bool, not, List, [], ◌∷◌, ℕ, ◌+◌, ◌-◌, length, get_or, drop, eqb, if◌then◌else◌}
use Rattle.text.specs.Text.{is_blank, keep, find_in}
use Rattle.text.specs.declared.Blanks.TheVariants.{Run}
use Rattle.lines.specs.Lines.{fixed_text}
use Rattle.lines.specs.declared.Fixed.TheVariants.{Na}
use Rattle.scan.specs.Scan as scan
use Rattle.scan.specs.declared.Findings as texts
use Rattle.findings.specs.declared.Findings.{Findings}

-- is b no LF?
unfoldable pub not_lf : ℕ → Bool
not_lf b = not (eqb b 10)

-- genuine: the findings of these very bytes
unfoldable pub findings_of : List ℕ → Findings
findings_of s =
    record {
      seen = length s;
      state = (scan.scanned 0 s).state;
      ends = (scan.scanned 0 s).ends;
      na = scan.end_of (fixed_text Na) (find_in (fixed_text Na) s 0);
      last = keep (is_blank Run) s;
      lf = keep not_lf s;
    }

-- the first place of an NA line that doesn't end in the first n bytes: they may hold all of it but its last byte
abbrev pub na_from : ℕ → ℕ
na_from n = n - 5

-- where the first NA line ends: at e where that isn't 0, else none ends in the first n bytes, and it is sought
unfoldable pub na_end : List ℕ → ℕ → ℕ → ℕ
na_end s n e = if eqb e 0 then scan.end_of (fixed_text Na) (find_in (fixed_text Na) s (na_from n)) else e

-- where the last byte that fails f ends: at e where all bytes behind the first n pass it
unfoldable pub last_end : (ℕ → Bool) → List ℕ → ℕ → ℕ → ℕ
last_end f s n e = let k = keep f (drop n s) in if eqb k 0 then e else n + k

-- what they say of the eleven texts
abbrev pub texts_of : Findings → texts.Findings
texts_of f = record { seen = f.seen; state = f.state; ends = f.ends }

-- the findings f, whoever says so, carried on over the bytes of s behind those that they are about
unfoldable pub extended : Findings → List ℕ → Findings
extended f s =
    let on = scan.extended (texts_of f) s in
    record {
      seen = on.seen;
      state = on.state;
      ends = on.ends;
      na = na_end s f.seen f.na;
      last = last_end (is_blank Run) s f.seen f.last;
      lf = last_end not_lf s f.seen f.lf;
    }

-- Sixteen numbers as findings, and findings as sixteen numbers.
abbrev pub ends_in : List ℕ → List ℕ
ends_in m =
    get_or m 2 0
    ∷ get_or m 3 0
    ∷ get_or m 4 0
    ∷ get_or m 5 0
    ∷ get_or m 6 0
    ∷ get_or m 7 0
    ∷ get_or m 8 0
    ∷ get_or m 9 0
    ∷ get_or m 10 0
    ∷ get_or m 11 0
    ∷ get_or m 12 0
    ∷ []

abbrev pub findings_in : List ℕ → Findings
findings_in m = record { seen = get_or m 0 0; state = get_or m 1 0; ends = ends_in m; na = get_or m 13 0; last = get_or m 14 0; lf = get_or m 15 0 }

abbrev pub numbers_of : Findings → List ℕ
numbers_of f =
    f.seen
    ∷ f.state
    ∷ get_or f.ends 0 0
    ∷ get_or f.ends 1 0
    ∷ get_or f.ends 2 0
    ∷ get_or f.ends 3 0
    ∷ get_or f.ends 4 0
    ∷ get_or f.ends 5 0
    ∷ get_or f.ends 6 0
    ∷ get_or f.ends 7 0
    ∷ get_or f.ends 8 0
    ∷ get_or f.ends 9 0
    ∷ get_or f.ends 10 0
    ∷ f.na
    ∷ f.last
    ∷ f.lf
    ∷ []
