-- `step` meets its contract: one law for each way out; what is consumed lies in what is held.
use Rattle.selector.specs.Selector.{choice}
use Rattle.turn.specs.Turn.{lent}
use Rattle.turn.specs.Laws.{step_room, step_number, step_full, step_is}
use Rattle.turn.proofs.step.Goals as goal

pub deliver-requires : goal.deliver-requires
deliver-requires c =
    step_number (choice c.args.selector c.args.table.now) (lent c.args.state c.args.memories.now) _ c.min-end.ensures _ c.digest_unchecked-a.ensures

pub returns-in_err-next-clause-is : goal.returns-in_err-next-clause-is
returns-in_err-next-clause-is c =
    rw c.from_residual.ensures (step_full (choice c.args.selector c.args.table.now) (lent c.args.state c.args.memories.now) _ c.min-end.ensures _ c.digest_unchecked-a.ensures _ c.carried-part.ensures _ c.payload-p.ensures.is _ _ _ c.deliver.ensures c.in_err-next.was)

pub overflow_sub-result : goal.overflow_sub-result
overflow_sub-result c =
    step_room (choice c.args.selector c.args.table.now) (lent c.args.state c.args.memories.now) _ c.min-end.ensures _ c.digest_unchecked-a.ensures

pub returns-clause-is : goal.returns-clause-is
returns-clause-is c =
    step_is (choice c.args.selector c.args.table.now) (lent c.args.state c.args.memories.now) _ c.min-end.ensures _ c.digest_unchecked-a.ensures _ c.carried-part.ensures _ c.payload-p.ensures.is _ _ _ c.deliver.ensures _ c.in_ok-next.was _ c.move_down.ensures
