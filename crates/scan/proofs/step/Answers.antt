-- `step` meets its contract: NEXT is the table, number by number.
use Rattle.std.proofs.Common.{arith}
use Rattle.scan.specs.Table.{table}
use Rattle.scan.proofs.Rule.{class_below}
use Rattle.scan.proofs.Steps.{step_is}
use Rattle.scan.proofs.step.Goals as goal

pub bounds-class : goal.bounds-class
bounds-class c = omega (arith, c.class.ensures, class_below c.args.b)

pub returns : goal.returns
unfolding table
returns c = step_is c.args.q c.args.b _ _ c.class.ensures c.from.ensures
