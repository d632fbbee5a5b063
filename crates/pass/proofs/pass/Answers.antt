-- `pass` meets its contract: by what may begin, and by what the table finds.
use Rattle.std.proofs.Common.{◌∙◌, arith}
use Rattle.pass.specs.Laws.{ends_on, pass_none, pass_found, pass_others}
use Rattle.pass.proofs.Clears.{clear_here}
use Rattle.pass.proofs.pass.Goals as goal

pub returns-then-s-e : goal.returns-then-s-e
returns-then-s-e c =
    c.others.ensures ∙ pass_none c.args.s.now c.args.e c.args.e (clear_here c.args.s.now c.args.e) (omega arith)

pub returns-then-ends-gt0 : goal.returns-then-ends-gt0
returns-then-ends-gt0 c =
    pass_found c.args.s.now c.args.e _ (ends_on c.args.s.now c.args.e _ c.begin-p.ensures _ c.scan.ensures.firsts) (omega arith)

pub returns : goal.returns
returns c =
    c.others-2.ensures ∙ pass_others c.args.s.now c.args.e _ (ends_on c.args.s.now c.args.e _ c.begin-p.ensures _ c.scan.ensures.firsts) (omega arith)
