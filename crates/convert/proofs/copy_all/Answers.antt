-- `copy_all` meets its contract: round the ring, what is still to be written is what was to be written.
use Rattle.std.proofs.Common.{refl, ◌∙◌, arith}
use Rattle.queue.specs.Laws.{bounds_count}
use Rattle.convert.specs.Laws.{copied_none, copied_one, copied_all, start_within, walk_in}
use Rattle.convert.proofs.copy_all.Goals as goal

pub overflow_mul-from : goal.overflow_mul-from
overflow_mul-from c =
    record { fits = omega (arith, c.requires.fitted, start_within c.args.old_mem.now c.args.old c.args.cap c.requires.fitted c.requires.bounded) }

pub loop-init : goal.loop-init
loop-init c =
    (refl, copied_none c.args.old_mem.now c.args.old c.args.cap c.requires.fitted c.requires.bounded _ (omega arith) c.args.mem.now c.requires.good)

pub copy-requires : goal.copy-requires
copy-requires c =
    (walk_in c.args.old_mem.now c.args.old c.args.cap c.requires.fitted c.requires.bounded _ _ c.loop.invariant.1.here (omega arith)).1

pub next_base-from-requires : goal.next_base-from-requires
next_base-from-requires c =
    ((walk_in c.args.old_mem.now c.args.old c.args.cap c.requires.fitted c.requires.bounded _ _ c.loop.invariant.1.here (omega arith)).0, omega (arith, c.requires.fitted))

pub overflow_add-to : goal.overflow_add-to
overflow_add-to c =
    record { fits = omega (arith, c.requires.fitted, bounds_count c.args.cap c.args.old c.requires.bounded, c.loop.invariant.1.at) }

pub loop-preserved : goal.loop-preserved
loop-preserved c =
    (c.copy.auto.mem ∙ c.loop.invariant.0, copied_one c.args.old_mem.now c.args.old c.args.cap c.requires.fitted c.requires.bounded _ _ (omega arith) c.args.mem.now _ _ c.loop.invariant.1 _ c.copy.ensures _ c.next_base-from.ensures)

pub returns : goal.returns
returns c =
    copied_all c.args.old_mem.now c.args.old c.args.cap c.requires.fitted c.requires.bounded _ _ (omega arith) _ c.args.mem.now _ c.loop.invariant.1
