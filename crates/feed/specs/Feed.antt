-- R-14: the ingress's calls with findings, sixteen numbers beside the buffer: what each says and leaves, for any numbers.
use Rattle.std.specs.Prelude.{Bool, List, [], ℕ, ◌-◌, length, take, eqb, leb, ltb, if◌then◌else◌}
use Rattle.outcome.specs.Outcome.{Outcome, answered, refused}
use Rattle.findings.specs.declared.Findings.{Findings}
use Rattle.findings.specs.Findings.{findings_in, numbers_of, findings_of, extended}
use Rattle.selector.specs.Selector.{Choice}
use Rattle.turn.specs.Turn.{World, held}
use Rattle.ingress.specs.Ingress.{After, done, refused_at, run, judged, committed, copied, after_copy, answering, written}

-- what a call says and leaves, and the findings' numbers that it leaves
pub record Fed (A : Type 0) : Type 0 where
  pub result : After A
  pub numbers : List ℕ

abbrev pub fed : {A : Type 0} → After A → List ℕ → Fed A
fed r m = record { result = r; numbers = m }

-- Refusal 3 also when the findings' length isn't the buffer's end before the piece.
unfoldable pub fitting : Outcome (Unit {0}) → Bool → Outcome (Unit {0})
fitting (answered x) b = if b then answered tt else refused 3 []
fitting (refused k v) b = refused k v

abbrev pub judged_with : Choice → List ℕ → World → Outcome (Unit {0})
judged_with c m w = fitting (judged c w) (eqb (findings_in m).seen w.state.end)

-- A call that is refused 1, 2 or 3 leaves everything, the findings too.
unfoldable pub unless : {A : Type 0} → Outcome (Unit {0}) → List ℕ → World → Fed A → Fed A
unless (answered x) m w r = r
unless (refused n v) m w r = fed (refused_at n v w) m

-- The findings after turns that leave the end e in the buffer b: those known where nothing was consumed; after a move they are started afresh over what remains.
unfoldable pub renewed : Findings → ℕ → ℕ → List ℕ → List ℕ
renewed f n e b = numbers_of (if eqb e n then f else findings_of (take e b))

abbrev pub turning : Findings → World → After (Unit {0}) → Fed (Unit {0})
turning f w r = fed r (renewed f w.state.end r.left.state.end r.left.buf)

-- The bytes that came are looked at once; where that tells, by q, that the digest would find nothing and consume nothing, nothing is digested.
unfoldable pub settled : Choice → (Findings → List ℕ → Bool) → List ℕ → World → Fed (Unit {0})
unfolding renewed
settled c q m w =
    let f = extended (findings_in m) (held w) in
    let r = turning f w (run c w) in
    if q f (held w) then fed (done tt w) (numbers_of f) else r

-- An advance with findings. Refusal 4: the commit is more than the room.
unfoldable pub advanced_with : Choice → (Findings → List ℕ → Bool) → ℕ → List ℕ → World → Fed (Unit {0})
unfolding unless settled
advanced_with c q n m w =
    unless (judged_with c m w) m w
    (if ltb (length w.buf - w.state.end) n then fed (refused_at 4 [] w) m else settled c q m (committed w n))

-- what is written, and what is left of it looked at afresh
unfoldable pub afresh : After ℕ → Fed ℕ
afresh r = fed r (numbers_of (findings_of (held r.left)))

abbrev pub took : ℕ → Fed (Unit {0}) → Fed ℕ
took n r = fed (answering (after_copy r.result n)) r.numbers

-- A piece that fits is copied whole, and an empty one digests nothing; of one that doesn't fit what the ingress's write leaves is looked at afresh.
unfoldable pub write_in : Choice → (Findings → List ℕ → Bool) → List ℕ → List ℕ → World → Fed ℕ
unfolding settled afresh
write_in c q p m w =
    if ltb (length w.buf - w.state.end) (length p) then afresh (written c p w)
    else if leb 1 (length p) then took (length p) (settled c q m (copied w p))
    else fed (done 0 w) m

-- A write with findings.
unfoldable pub written_with : Choice → (Findings → List ℕ → Bool) → List ℕ → List ℕ → World → Fed ℕ
unfolding unless write_in
written_with c q p m w = unless (judged_with c m w) m w (write_in c q p m w)
