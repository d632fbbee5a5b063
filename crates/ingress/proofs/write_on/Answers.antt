-- `write_on` meets its contract: what is to be written of the piece is what is to be written of its rest. The measure is what is not yet taken.
use Rattle.std.proofs.Common.{arith}
use Rattle.text.specs.Laws.{rest}
use Rattle.selector.specs.Selector.{choice}
use Rattle.turn.specs.Turn.{lent}
use Rattle.turn.specs.Laws.{places_more}
use Rattle.ingress.specs.Laws.{on_full, full_room, on_still, on_room, on_again}
use Rattle.ingress.proofs.write_on.Goals as goal

pub returns-then-more-eq0-clause-is : goal.returns-then-more-eq0-clause-is
returns-then-more-eq0-clause-is c =
    on_still (choice c.args.selector c.args.table.now) c.args.piece.now (lent c.args.state c.args.memories.now) c.loop-next.taken (lent c.loop-next.s c.loop-next.memories) c.loop-next.invariant.0 _ (rest c.args.piece.now c.loop-next.taken) _ c.write_once.new.memories c.write_once.ensures.is _ _ c.in-Ok.is c.if-more-eq0.true

pub overflow_add-taken : goal.overflow_add-taken
overflow_add-taken c =
    record { fits = omega (arith, on_room (choice c.args.selector c.args.table.now) c.args.piece.now (lent c.args.state c.args.memories.now) c.loop-next.taken (lent c.loop-next.s c.loop-next.memories) c.loop-next.invariant.0 _ (rest c.args.piece.now c.loop-next.taken) _ c.write_once.new.memories c.write_once.ensures.is _ _ c.in-Ok.is) }

pub loop-next-smaller : goal.loop-next-smaller
loop-next-smaller c =
    omega (arith, on_room (choice c.args.selector c.args.table.now) c.args.piece.now (lent c.args.state c.args.memories.now) c.loop-next.taken (lent c.loop-next.s c.loop-next.memories) c.loop-next.invariant.0 _ (rest c.args.piece.now c.loop-next.taken) _ c.write_once.new.memories c.write_once.ensures.is _ _ c.in-Ok.is)

pub loop-next-preserved : goal.loop-next-preserved
loop-next-preserved c = (
  on_again (choice c.args.selector c.args.table.now) c.args.piece.now (lent c.args.state c.args.memories.now) c.loop-next.taken (lent c.loop-next.s c.loop-next.memories) c.loop-next.invariant.0 _ (rest c.args.piece.now c.loop-next.taken) _ c.write_once.new.memories c.write_once.ensures.is _ _ c.in-Ok.is c.if-more-eq0.false,
  places_more c.args.memories.now c.loop-next.memories c.write_once.new.memories c.loop-next.invariant.1 c.write_once.ensures.places,
)

pub overflow_add-result : goal.overflow_add-result
overflow_add-result c =
    record { fits = omega (arith, full_room (choice c.args.selector c.args.table.now) c.args.piece.now (lent c.args.state c.args.memories.now) c.loop-next.taken (lent c.loop-next.s c.loop-next.memories) c.loop-next.invariant.0 _ (rest c.args.piece.now c.loop-next.taken) _ c.write_once.new.memories c.write_once.ensures.is _ c.in-Err.is) }

pub returns-in-Err-clause-is : goal.returns-in-Err-clause-is
returns-in-Err-clause-is c =
    on_full (choice c.args.selector c.args.table.now) c.args.piece.now (lent c.args.state c.args.memories.now) c.loop-next.taken (lent c.loop-next.s c.loop-next.memories) c.loop-next.invariant.0 _ (rest c.args.piece.now c.loop-next.taken) _ c.write_once.new.memories c.write_once.ensures.is _ c.in-Err.is

pub returns-then-more-eq0-clause-places : goal.returns-then-more-eq0-clause-places
returns-then-more-eq0-clause-places c =
    places_more c.args.memories.now c.loop-next.memories c.write_once.new.memories c.loop-next.invariant.1 c.write_once.ensures.places

pub returns-in-Err-clause-places : goal.returns-in-Err-clause-places
returns-in-Err-clause-places c =
    places_more c.args.memories.now c.loop-next.memories c.write_once.new.memories c.loop-next.invariant.1 c.write_once.ensures.places
