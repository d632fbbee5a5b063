-- So far the buffer is the old one with j bytes of its part from n on over its front.
use Rattle.std.proofs.Common.{◌≡◌, drop}
use Rattle.std.proofs.Math.Seq.{paste}
use Rattle.moves.proofs.move_down.Given as goal

abbrev pub invariant-loop-j : goal.invariant-loop-j
invariant-loop-j l = l.buf ≡ paste l.initial.buf 0 (drop l.n l.initial.buf) l.j
