-- `advance` meets its contract: the refusals in their order, then the loop.
use Rattle.selector.specs.Selector.{choice}
use Rattle.turn.specs.Turn.{lent}
use Rattle.turn.specs.Laws.{places_same}
use Rattle.ingress.specs.Laws.{passed, advance_fails, advance_room, advance_ran, advance_full}
use Rattle.ingress.specs.Conserved.{advance_whole}
use Rattle.ingress.proofs.advance.Goals as goal

pub returns-in_err-judge : goal.returns-in_err-judge
returns-in_err-judge c =
    let w = advance_whole _ _ _ _ (advance_fails (choice c.args.selector c.args.table.now) c.args.commit (lent c.args.state c.args.memories.now) _ c.in_err-judge.ensures _ c.from_residual.ensures.1) in
    record { is = w.0; keeps = w.1.0; nothing_left = w.1.1; places = places_same c.args.memories.now }

pub overflow_sub-memories : goal.overflow_sub-memories
overflow_sub-memories c =
    (passed (choice c.args.selector c.args.table.now) (lent c.args.state c.args.memories.now) c.in_ok-judge.ensures).inside

pub returns-then-memories-end : goal.returns-then-memories-end
returns-then-memories-end c =
    let w = advance_whole _ _ _ _ (advance_room (choice c.args.selector c.args.table.now) c.args.commit (lent c.args.state c.args.memories.now) c.in_ok-judge.ensures c.if-memories-end.true) in
    record { is = w.0; keeps = w.1.0; nothing_left = w.1.1; places = places_same c.args.memories.now }

pub returns-in_err-run : goal.returns-in_err-run
returns-in_err-run c =
    let w = advance_whole _ _ _ _ (advance_full (choice c.args.selector c.args.table.now) c.args.commit (lent c.args.state c.args.memories.now) c.in_ok-judge.ensures c.if-memories-end.false _ c.run.new.memories c.run.ensures.is _ c.in_err-run.was _ c.from_residual-in_err-run.ensures.1) in
    record { is = w.0; keeps = w.1.0; nothing_left = w.1.1; places = c.run.ensures.places }

pub returns : goal.returns
returns c =
    let w = advance_whole _ _ _ _ (advance_ran (choice c.args.selector c.args.table.now) c.args.commit (lent c.args.state c.args.memories.now) c.in_ok-judge.ensures c.if-memories-end.false _ c.run.new.memories c.run.ensures.is _ c.in_ok-run.was) in
    record { is = w.0; keeps = w.1.0; nothing_left = w.1.1; places = c.run.ensures.places }
