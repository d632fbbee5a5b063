-- `run` meets its contract: what is to be run from the first state is what is to be run from this one. The measure is the end.
use Rattle.std.proofs.Common.{◌∙◌, refl, sym, arith}
use Rattle.selector.specs.Selector.{choice}
use Rattle.turn.specs.Turn.{lent}
use Rattle.turn.specs.Laws.{places_same, places_more}
use Rattle.ingress.specs.Laws.{run_empty, turn_full, turn_still, turn_less, turn_on}
use Rattle.ingress.proofs.run.Goals as goal

pub returns-in_default-clause-is : goal.returns-in_default-clause-is
returns-in_default-clause-is c =
    turn_full (choice c.args.selector c.args.table.now) _ (lent c.loop-s.s c.loop-s.memories) c.loop-s.invariant.0 (omega arith) _ _ _ c.step.ensures.is c.in_default.is

pub loop-s-init : goal.loop-s-init
loop-s-init c = (refl, places_same c.args.memories.now)

pub loop-s-smaller : goal.loop-s-smaller
loop-s-smaller c =
    turn_less (choice c.args.selector c.args.table.now) _ (lent c.loop-s.s c.loop-s.memories) c.loop-s.invariant.0 (omega arith) _ _ _ c.step.ensures.is _ _ c.in-Some.is (λ z. omega arith)

pub loop-s-preserved : goal.loop-s-preserved
loop-s-preserved c = (
  turn_on (choice c.args.selector c.args.table.now) _ (lent c.loop-s.s c.loop-s.memories) c.loop-s.invariant.0 (omega arith) _ _ _ c.step.ensures.is _ _ c.in-Some.is (λ z. omega arith),
  places_more c.args.memories.now c.loop-s.memories c.step.new.memories c.loop-s.invariant.1 c.step.ensures.places,
)

pub returns-in_default-clause-places : goal.returns-in_default-clause-places
returns-in_default-clause-places c =
    places_more c.args.memories.now c.loop-s.memories c.step.new.memories c.loop-s.invariant.1 c.step.ensures.places

pub returns-then-n-eq0-clause-places : goal.returns-then-n-eq0-clause-places
returns-then-n-eq0-clause-places c =
    places_more c.args.memories.now c.loop-s.memories c.step.new.memories c.loop-s.invariant.1 c.step.ensures.places

pub returns-after-loop-s-clause-is : goal.returns-after-loop-s-clause-is
returns-after-loop-s-clause-is c =
    run_empty (choice c.args.selector c.args.table.now) (lent c.loop-s.s c.loop-s.memories) (omega arith) ∙ sym c.loop-s.invariant.0

pub returns-then-n-eq0-clause-is : goal.returns-then-n-eq0-clause-is
returns-then-n-eq0-clause-is c =
    turn_still (choice c.args.selector c.args.table.now) _ (lent c.loop-s.s c.loop-s.memories) c.loop-s.invariant.0 (omega arith) _ _ _ c.step.ensures.is _ _ c.in-Some.is (omega arith)
