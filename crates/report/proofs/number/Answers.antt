-- `number` meets its contract: a space, then the digits.
use Rattle.text.specs.Bytes.{bytes}
use Rattle.ink.specs.Ink.{decimal}
use Rattle.ink.specs.Laws.{then_ink, decimal_length}
use native.Mathlib.Omega.{arith}
use Rattle.report.proofs.number.Goals as goal

pub returns-clause-is : goal.returns-clause-is
returns-clause-is c =
    then_ink c.args.page.now.out.now c.args.page.now.at (bytes " ") (decimal c.args.n) _ _ _ c.words.ensures.is c.decimal.ensures.is (omega (arith, c.requires, decimal_length c.args.n))
