-- `payload` meets its contract: nothing, or a space and the bytes.
use Rattle.std.proofs.Common.{rules, tests}
use Rattle.report.specs.Laws.{payload_is, payload_none}
use Rattle.report.proofs.payload.Goals as goal

pub returns-then-is_empty-clause-is : goal.returns-then-is_empty-clause-is
returns-then-is_empty-clause-is c =
    payload_none c.args.p.now c.args.page.now.out.now c.args.page.now.at (search (rules, tests))

pub returns-clause-is : goal.returns-clause-is
returns-clause-is c =
    payload_is c.args.p.now c.args.page.now.out.now c.args.page.now.at c.requires (search (rules, tests)) _ _ c.words.ensures.is _ c.hex.ensures.is
