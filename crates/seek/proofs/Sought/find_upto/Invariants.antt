use Rattle.std.proofs.Common.{◌≡◌}
use Rattle.text.specs.Text.{find_in}
use Rattle.seek.proofs.Sought.find_upto.Given as goal

abbrev pub invariant-loop-p : goal.invariant-loop-p
invariant-loop-p l = find_in l.self.text.now l.s l.from ≡ find_in l.self.text.now l.s l.p
