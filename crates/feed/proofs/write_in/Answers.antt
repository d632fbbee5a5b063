-- `write_in` meets its contract: one law for each way out.
use Rattle.quiet.specs.Quiet.{still}
use Rattle.selector.specs.Selector.{choice}
use Rattle.turn.specs.Turn.{lent}
use Rattle.feed.specs.Laws.{in_long, in_none, in_settled}
use Rattle.feed.proofs.write_in.Goals as goal

pub returns-then-memories-end-clause-is : goal.returns-then-memories-end-clause-is
returns-then-memories-end-clause-is c =
    in_long (choice c.args.selector c.args.table.now) (still c.args.selector c.args.table.now) c.args.piece.now c.args.numbers.now (lent c.args.state c.args.memories.now) c.if-memories-end.true _ c.write-wrote.new.memories c.write-wrote.ensures.is _ c.end_of.ensures _ c.held-left.ensures _ c.start.ensures _ c.lay.ensures

pub returns-then-n-eq0-clause-is : goal.returns-then-n-eq0-clause-is
returns-then-n-eq0-clause-is c =
    in_none (choice c.args.selector c.args.table.now) (still c.args.selector c.args.table.now) c.args.piece.now c.args.numbers.now (lent c.args.state c.args.memories.now) c.if-memories-end.false c.if-n-eq0.true

pub returns-in-Ok-clause-is : goal.returns-in-Ok-clause-is
returns-in-Ok-clause-is c =
    in_settled (choice c.args.selector c.args.table.now) (still c.args.selector c.args.table.now) c.args.piece.now c.args.numbers.now (lent c.args.state c.args.memories.now) c.if-memories-end.false c.if-n-eq0.false _ c.put.ensures _ c.settle.new.memories _ c.settle.ensures.is _ c.in-Ok.is

pub returns-in-Err-clause-is : goal.returns-in-Err-clause-is
returns-in-Err-clause-is c =
    in_settled (choice c.args.selector c.args.table.now) (still c.args.selector c.args.table.now) c.args.piece.now c.args.numbers.now (lent c.args.state c.args.memories.now) c.if-memories-end.false c.if-n-eq0.false _ c.put.ensures _ c.settle.new.memories _ c.settle.ensures.is _ c.in-Err.is
