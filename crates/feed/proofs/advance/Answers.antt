-- `advance` meets its contract: one law for each way out.
use Rattle.quiet.specs.Quiet.{still}
use Rattle.selector.specs.Selector.{choice}
use Rattle.turn.specs.Turn.{lent}
use Rattle.feed.specs.Laws.{fits_inside, advance_fails, advance_room, advance_settled, advance_full}
use Rattle.feed.proofs.advance.Goals as goal

pub returns-in_err-judge-clause-is : goal.returns-in_err-judge-clause-is
returns-in_err-judge-clause-is c =
    advance_fails (choice c.args.selector c.args.table.now) (still c.args.selector c.args.table.now) c.args.commit c.args.numbers.now (lent c.args.state c.args.memories.now) _ c.in_err-judge.ensures _ c.from_residual.ensures.1

pub overflow_sub-memories : goal.overflow_sub-memories
overflow_sub-memories c =
    fits_inside (choice c.args.selector c.args.table.now) c.args.numbers.now (lent c.args.state c.args.memories.now) c.in_ok-judge.ensures

pub returns-then-memories-end-clause-is : goal.returns-then-memories-end-clause-is
returns-then-memories-end-clause-is c =
    advance_room (choice c.args.selector c.args.table.now) (still c.args.selector c.args.table.now) c.args.commit c.args.numbers.now (lent c.args.state c.args.memories.now) c.in_ok-judge.ensures c.if-memories-end.true

pub returns-in_err-settle-clause-is : goal.returns-in_err-settle-clause-is
returns-in_err-settle-clause-is c =
    advance_full (choice c.args.selector c.args.table.now) (still c.args.selector c.args.table.now) c.args.commit c.args.numbers.now (lent c.args.state c.args.memories.now) c.in_ok-judge.ensures c.if-memories-end.false _ c.settle.new.memories _ c.settle.ensures.is _ c.in_err-settle.was _ c.from_residual-in_err-settle.ensures.1

pub returns-clause-is : goal.returns-clause-is
returns-clause-is c =
    advance_settled (choice c.args.selector c.args.table.now) (still c.args.selector c.args.table.now) c.args.commit c.args.numbers.now (lent c.args.state c.args.memories.now) c.in_ok-judge.ensures c.if-memories-end.false _ c.settle.new.memories _ c.settle.ensures.is _ c.in_ok-settle.was
