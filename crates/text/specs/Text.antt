-- Blanks, trimming and searching as functions on lists that compute. A place is a number of bytes from the front.
use Rattle.std.specs.Prelude.{Option, Some, None, Bool, true, false, ◌&&◌, ◌||◌, List, [], ◌∷◌, ℕ, zero, suc, ◌+◌, ◌-◌, length, take, drop, eqb, leb, if◌then◌else◌}
use Rattle.text.specs.Bytes.{bytes}
use Rattle.text.specs.declared.Blanks.{Blanks}
use Rattle.text.specs.declared.Blanks.TheVariants.{Space, Run, Trim}
use Rattle.text.specs.declared.Span.{Span}

-- is b one of the bytes?
unfoldable pub among : List ℕ → ℕ → Bool
among [] b = false
among (x ∷ l) b = eqb b x || among l b

-- run blanks are space, tab, CR, LF; trim blanks are space, tab, LF, form feed, CR
unfoldable pub blanks : Blanks → List ℕ
blanks Space = bytes " "
blanks Run = bytes " \t\r\n"
blanks Trim = bytes " \t\n\u{c}\r"

unfoldable pub is_blank : Blanks → ℕ → Bool
unfolding among blanks
is_blank set b = among (blanks set) b

-- how many bytes that pass f the list begins with
unfoldable pub lead : (ℕ → Bool) → List ℕ → ℕ
lead f [] = zero
lead f (x ∷ s) = let n = lead f s in if f x then suc n else zero

-- the first place at or after i whose byte fails f, or the end
unfoldable pub past : (ℕ → Bool) → List ℕ → ℕ → ℕ
unfolding lead
past f s i = i + lead f (drop i s)

-- how long the list is without the bytes that pass f and that it ends in
unfoldable pub keep : (ℕ → Bool) → List ℕ → ℕ
keep f [] = zero
keep f (x ∷ s) = let n = keep f s in if f x && eqb n 0 then zero else suc n

-- where the list starts and how long it is without the bytes that pass f at its two ends
unfoldable pub trimmed : (ℕ → Bool) → List ℕ → Span
unfolding lead keep
trimmed f s = let a = lead f s in record { start = a; len = keep f (drop a s) }

-- what stands from i up to k without the trim blanks at its two ends, as a part of s
unfoldable pub trimmed_part : List ℕ → ℕ → ℕ → Span
trimmed_part s i k =
    let t = trimmed (is_blank Trim) (take (k - i) (drop i s)) in
    record { start = i + t.start; len = t.len }

-- does s begin with t?
unfoldable pub begins : List ℕ → List ℕ → Bool
begins [] s = true
begins (x ∷ t) [] = false
begins (x ∷ t) (y ∷ s) = eqb y x && begins t s

-- does t stand in s at the place i?
unfoldable pub stands : List ℕ → List ℕ → ℕ → Bool
unfolding begins
stands t s i = begins t (drop i s)

-- the first place of t in s, where s begins at the place i
unfoldable pub search : List ℕ → List ℕ → ℕ → Option ℕ
unfolding begins
search t [] i = if begins t [] then Some i else None
search t (x ∷ s) i = let r = search t s (suc i) in if begins t (x ∷ s) then Some i else r

-- the first place of t in s at or after i
unfoldable pub find_in : List ℕ → List ℕ → ℕ → Option ℕ
unfolding search
find_in t s i = search t (drop i s) i

-- the len bytes of s from the place p on, or none where they don't fit
unfoldable pub part_of : List ℕ → ℕ → ℕ → List ℕ
part_of s p len = if leb (p + len) (length s) then take len (drop p s) else []

-- where that part begins: at p, or at the front where it doesn't fit
unfoldable pub part_at : List ℕ → ℕ → ℕ → ℕ
part_at s p len = if leb (p + len) (length s) then p else 0

-- n bytes further on from an address (a block of memory and an offset in it)
abbrev pub further : ℕ × ℕ → ℕ → ℕ × ℕ
further a n = (a.0, n + a.1)
