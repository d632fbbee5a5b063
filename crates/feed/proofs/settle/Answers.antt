-- `settle` meets its contract: one law for each way out.
use Rattle.std.proofs.Common.{ℕ, ◌∙◌, ap}
use Rattle.quiet.specs.Quiet.{still}
use Rattle.selector.specs.Selector.{choice}
use Rattle.turn.specs.Turn.{lent}
use Rattle.feed.specs.Feed.{renewed}
use Rattle.feed.specs.Laws.{settle_still, settle_ran}
use Rattle.feed.proofs.settle.Goals as goal

pub returns-then-is_still-clause-is : goal.returns-then-is_still-clause-is
returns-then-is_still-clause-is c =
    settle_still (choice c.args.selector c.args.table.now) (still c.args.selector c.args.table.now) c.args.numbers.now (lent c.args.state c.args.memories.now) _ c.held-held.ensures _ _ c.of_numbers.ensures c.extend-known.ensures _ c.is_still.ensures _ c.if-is_still.true c.lay.ensures

pub returns-clause-is : goal.returns-clause-is
returns-clause-is c =
    settle_ran (choice c.args.selector c.args.table.now) (still c.args.selector c.args.table.now) c.args.numbers.now (lent c.args.state c.args.memories.now) _ c.held-held.ensures _ _ c.of_numbers.ensures c.extend-known.ensures _ c.is_still.ensures _ c.if-is_still.false _ c.run-ran.new.memories c.run-ran.ensures.is (c.renew.ensures ∙ ap (λ (n : ℕ). renewed c.extend-known.result c.args.state.end n c.run-ran.new.memories.buf.now) c.end_after.ensures)
