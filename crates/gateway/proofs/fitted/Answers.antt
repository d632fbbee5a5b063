-- `fitted` meets its contract.
use Rattle.gateway.specs.Laws.{fits_not, fits_there}
use Rattle.std.proofs.Common.{arith}
use Rattle.gateway.proofs.fitted.Goals as goal

pub returns-then-s-len : goal.returns-then-s-len
returns-then-s-len c =
    fits_not c.args.s.now c.args.place c.args.len (omega arith)

pub returns : goal.returns
returns c =
    fits_there c.args.s.now c.args.place c.args.len (omega arith)
