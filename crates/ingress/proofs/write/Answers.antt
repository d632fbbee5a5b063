-- `write` meets its contract: the refusals in their order, then the loop.
use Rattle.selector.specs.Selector.{choice}
use Rattle.turn.specs.Turn.{lent}
use Rattle.turn.specs.Laws.{places_same}
use Rattle.ingress.specs.Laws.{passed, write_fails, write_wrote, write_full}
use Rattle.ingress.specs.Conserved.{write_whole}
use Rattle.ingress.proofs.write.Goals as goal

pub returns-in_err-judge : goal.returns-in_err-judge
returns-in_err-judge c =
    let w = write_whole _ _ _ _ (write_fails (choice c.args.selector c.args.table.now) c.args.piece.now (lent c.args.state c.args.memories.now) _ c.in_err-judge.ensures _ c.from_residual.ensures.1) in
    record { is = w.0; keeps = w.1.0; nothing_left = w.1.1; places = places_same c.args.memories.now }

pub write_on-requires : goal.write_on-requires
write_on-requires c =
    (passed (choice c.args.selector c.args.table.now) (lent c.args.state c.args.memories.now) c.in_ok-judge.ensures).inside

pub returns-in_err-write_on : goal.returns-in_err-write_on
returns-in_err-write_on c =
    let w = write_whole _ _ _ _ (write_full (choice c.args.selector c.args.table.now) c.args.piece.now (lent c.args.state c.args.memories.now) c.in_ok-judge.ensures _ c.write_on.new.memories c.write_on.ensures.is _ c.in_err-write_on.was _ c.from_residual-in_err-write_on.ensures.1) in
    record { is = w.0; keeps = w.1.0; nothing_left = w.1.1; places = c.write_on.ensures.places }

pub returns : goal.returns
returns c =
    let w = write_whole _ _ _ _ (write_wrote (choice c.args.selector c.args.table.now) c.args.piece.now (lent c.args.state c.args.memories.now) c.in_ok-judge.ensures _ c.write_on.new.memories c.write_on.ensures.is _ c.in_ok-write_on.was) in
    record { is = w.0; keeps = w.1.0; nothing_left = w.1.1; places = c.write_on.ensures.places }
