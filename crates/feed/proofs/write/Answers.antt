-- `write` meets its contract: the refusals, and what isn't refused.
use Rattle.quiet.specs.Quiet.{still}
use Rattle.selector.specs.Selector.{choice}
use Rattle.turn.specs.Turn.{lent}
use Rattle.feed.specs.Laws.{fits_inside, write_fails, write_goes}
use Rattle.feed.proofs.write.Goals as goal

pub returns-in_err-judge-clause-is : goal.returns-in_err-judge-clause-is
returns-in_err-judge-clause-is c =
    write_fails (choice c.args.selector c.args.table.now) (still c.args.selector c.args.table.now) c.args.piece.now c.args.numbers.now (lent c.args.state c.args.memories.now) _ c.in_err-judge.ensures _ c.from_residual.ensures.1

pub write_in-requires : goal.write_in-requires
write_in-requires c =
    fits_inside (choice c.args.selector c.args.table.now) c.args.numbers.now (lent c.args.state c.args.memories.now) c.in_ok-judge.ensures

pub returns-clause-is : goal.returns-clause-is
returns-clause-is c =
    write_goes (choice c.args.selector c.args.table.now) (still c.args.selector c.args.table.now) c.args.piece.now c.args.numbers.now (lent c.args.state c.args.memories.now) c.in_ok-judge.ensures _ c.write_in.ensures.is
