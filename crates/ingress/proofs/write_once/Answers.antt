-- `write_once` meets its contract: nothing where nothing fits, else the copy and its turns.
use Rattle.std.proofs.Common.{◌∙◌, sym}
use Rattle.selector.specs.Selector.{choice}
use Rattle.turn.specs.Turn.{lent}
use Rattle.ingress.specs.Laws.{copy_none, copy_ran}
use Rattle.ingress.proofs.write_once.Goals as goal

pub returns-then-n-eq0-clause-is : goal.returns-then-n-eq0-clause-is
returns-then-n-eq0-clause-is c =
    copy_none (choice c.args.selector c.args.table.now) c.args.bytes.now (lent c.args.state c.args.memories.now) (sym c.min-n.ensures ∙ c.if-n-eq0.true)

pub returns-in-Ok-clause-is : goal.returns-in-Ok-clause-is
returns-in-Ok-clause-is c =
    copy_ran (choice c.args.selector c.args.table.now) c.args.bytes.now (lent c.args.state c.args.memories.now) _ c.min-n.ensures c.if-n-eq0.false _ c.put.ensures _ c.run.new.memories c.run.ensures.is _ c.in-Ok.is

pub returns-in-Err-clause-is : goal.returns-in-Err-clause-is
returns-in-Err-clause-is c =
    copy_ran (choice c.args.selector c.args.table.now) c.args.bytes.now (lent c.args.state c.args.memories.now) _ c.min-n.ensures c.if-n-eq0.false _ c.put.ensures _ c.run.new.memories c.run.ensures.is _ c.in-Err.is
