-- `walk` meets its contract: both loops keep `Going`, the inner one from the place where it was entered. The measures are the bytes left.
use native.Mathlib.Omega.{arith}
use Rattle.scan.proofs.Steps.{found, going_starts, going_ahead, going_join, going_next, going_end}
use Rattle.scan.proofs.walk.Goals as goal

pub loop-i-init : goal.loop-i-init
loop-i-init c = going_starts c.args.f c.args.s.now c.requires

pub loop-i-2-init : goal.loop-i-2-init
loop-i-2-init c =
    (omega arith, going_starts (found c.ahead-i.result c.loop-i.q c.loop-i.ends) c.args.s.now c.loop-i.invariant.range)

pub loop-i-preserved-in-loop-i-2 : goal.loop-i-preserved-in-loop-i-2
loop-i-preserved-in-loop-i-2 c =
    going_join c.args.f c.args.s.now _ _ _ (going_ahead c.args.f c.args.s.now _ _ _ c.loop-i.invariant _ c.ahead-i.ensures) _ _ _ c.loop-i-2.invariant.1

pub loop-i-preserved : goal.loop-i-preserved
loop-i-preserved c =
    going_join c.args.f c.args.s.now _ _ _ (going_ahead c.args.f c.args.s.now _ _ _ c.loop-i.invariant _ c.ahead-i.ensures) _ _ _ (going_next (found c.ahead-i.result c.loop-i.q c.loop-i.ends) c.args.s.now _ _ _ c.loop-i-2.invariant.1 (omega arith) _ _ _ _ (omega arith) c.finish.ensures.is c.note.ensures c.step-q.ensures)

pub loop-i-2-preserved : goal.loop-i-2-preserved
loop-i-2-preserved c =
    (omega (arith, c.loop-i-2.invariant.0), going_next (found c.ahead-i.result c.loop-i.q c.loop-i.ends) c.args.s.now _ _ _ c.loop-i-2.invariant.1 (omega arith) _ _ _ _ (omega arith) c.finish.ensures.is c.note.ensures c.step-q.ensures)

pub returns : goal.returns
returns c =
    going_end c.args.f c.args.s.now _ _ _ c.loop-i.invariant (omega arith)
