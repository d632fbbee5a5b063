-- `spaced` meets its contract: a space, then the text.
use Rattle.std.proofs.Common.{arith}
use Rattle.text.specs.Bytes.{bytes}
use Rattle.ink.specs.Laws.{then_ink}
use Rattle.report.proofs.spaced.Goals as goal

pub returns-clause-is : goal.returns-clause-is
returns-clause-is c =
    then_ink c.args.page.now.out.now c.args.page.now.at (bytes " ") c.args.text.now _ _ _ c.words.ensures.is c.words-2.ensures.is (omega (arith, c.requires))
