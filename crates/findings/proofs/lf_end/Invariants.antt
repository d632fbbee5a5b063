use Rattle.findings.specs.Findings.{not_lf}
use Rattle.findings.specs.Steps.{Passing}
use Rattle.findings.proofs.lf_end.Given as goal

abbrev pub invariant-loop-last : goal.invariant-loop-last
invariant-loop-last l = Passing not_lf l.s l.last
