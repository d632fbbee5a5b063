use Rattle.std.proofs.Common.{◌≡◌, take, not}
use Rattle.lines.specs.Lines.{fixed_text}
use Rattle.digest.specs.Finished.{nine}
use Rattle.quiet.specs.Quiet.{counts, every, told_end}
use Rattle.quiet.proofs.no_fixed.Given as goal

abbrev pub invariant-loop-i : goal.invariant-loop-i
invariant-loop-i l = l.none ≡ every (λ x. not (counts (fixed_text x) l.s (told_end l.f x))) (take l.i nine)
