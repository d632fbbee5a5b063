-- `lf_end` meets its contract: no byte from the place that was looked at last on is an LF.
use Rattle.std.proofs.Common.{◌≡◌, ◌+◌, ◌-◌, ◌∙◌, arith}
use Rattle.findings.specs.Findings.{not_lf}
use Rattle.findings.specs.Steps.{passing_more, passing_stop, passing_none, lf_is, lf_not}
use Rattle.findings.proofs.lf_end.Goals as goal

pub returns-then-s-last-eq10 : goal.returns-then-s-last-eq10
returns-then-s-last-eq10 c =
    let e : c.loop-last.last - 1 + 1 ≡ c.loop-last.last = omega arith in
    e ∙ passing_stop not_lf c.args.s.now c.loop-last.last c.loop-last.invariant c.args.n c.args.e (omega arith) (lf_is _ c.if-s-last-eq10.true)

pub loop-last-preserved : goal.loop-last-preserved
loop-last-preserved c =
    passing_more not_lf c.args.s.now c.loop-last.last c.loop-last.invariant (omega arith) (lf_not _ c.if-s-last-eq10.false)

pub returns : goal.returns
returns c =
    passing_none not_lf c.args.s.now c.loop-last.last c.loop-last.invariant c.args.n c.args.e (omega arith)
