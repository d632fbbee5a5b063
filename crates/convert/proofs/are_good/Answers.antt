-- `are_good` meets its contract: round the ring, what is still to be asked is what was asked.
use Rattle.std.proofs.Common.{arith}
use Rattle.convert.specs.Laws.{good_read, seen_none, seen_bad, seen_one, seen_all, start_within, walk_in}
use Rattle.convert.proofs.are_good.Goals as goal

pub overflow_mul-base : goal.overflow_mul-base
overflow_mul-base c = record { fits = omega (arith, c.requires.fitted, start_within c.args.mem.now c.args.queue c.args.cap c.requires.fitted c.requires.bounded) }

pub loop-init : goal.loop-init
loop-init c = seen_none c.args.mem.now c.args.queue c.args.cap c.requires.fitted c.requires.bounded _ (omega arith)

pub returns-then-is_none : goal.returns-then-is_none
returns-then-is_none c =
    seen_bad c.args.mem.now c.args.queue c.args.cap c.requires.fitted c.requires.bounded _ _ (omega arith) c.loop.invariant (good_read _ _ _ c.notice_at.ensures _ c.if-is_none.ensures)

pub next_base-base-requires : goal.next_base-base-requires
next_base-base-requires c =
    ((walk_in c.args.mem.now c.args.queue c.args.cap c.requires.fitted c.requires.bounded _ _ c.loop.invariant.here (omega arith)).0, omega (arith, c.requires.fitted))

pub loop-preserved : goal.loop-preserved
loop-preserved c =
    seen_one c.args.mem.now c.args.queue c.args.cap c.requires.fitted c.requires.bounded _ _ (omega arith) c.loop.invariant (good_read _ _ _ c.notice_at.ensures _ c.if-is_none.ensures) _ c.next_base-base.ensures

pub returns : goal.returns
returns c =
    seen_all c.args.mem.now c.args.queue c.args.cap c.requires.fitted c.requires.bounded _ _ (omega arith) c.loop.invariant
