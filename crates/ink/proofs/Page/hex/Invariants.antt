-- So far the digits of the first bytes are put, into the memory that was lent.
use Rattle.std.proofs.Common.{◌≡◌, take}
use Rattle.ink.specs.Ink.{inked, ink, hex}
use Rattle.ink.proofs.Page.hex.Given as goal

abbrev pub invariant-loop-b : goal.invariant-loop-b
invariant-loop-b l =
    (inked l.self.out.now l.self.at ≡ ink l.initial.self.out.now l.initial.self.at (hex (take l.b-index l.p)))
    × (l.self.out.ghost_name ≡ l.initial.self.out.ghost_name)
