use Rattle.std.proofs.Common.{◌≡◌, take}
use Rattle.lines.specs.Lines.{fixed_text}
use Rattle.items.specs.Rules.{heads}
use Rattle.quiet.specs.Quiet.{unended, every, told_end}
use Rattle.quiet.proofs.no_number.Given as goal

abbrev pub invariant-loop-i : goal.invariant-loop-i
invariant-loop-i l = l.none ≡ every (λ h. unended (fixed_text h) l.s l.f.lf (told_end l.f h)) (take l.i heads)
