-- `notices` meets its contract: the rule on all the records is the rule on those that are left, and those before are notices unless `others` says else.
use Rattle.std.proofs.Common.{sym, ◌∙◌, arith}
use Rattle.table.specs.Laws.{walk_ends}
use Rattle.items.specs.Laws.{taken}
use Rattle.level.specs.Laws.{notices_end, notices_hit, notices_more, only_more, only_end}
use Rattle.level.proofs.notices.Goals as goal

pub overflow_add-end : goal.overflow_add-end
overflow_add-end c = record { fits = omega (arith, (taken c.loop-r.invariant.0 c.in-Some.ensures.steps).0.inside) }

pub slice_bounds-one_notice-end : goal.slice_bounds-one_notice-end
slice_bounds-one_notice-end c = (taken c.loop-r.invariant.0 c.in-Some.ensures.steps).0.inside

pub overflow_cast-k : goal.overflow_cast-k
overflow_cast-k c = record { fits = omega (arith, (taken c.loop-r.invariant.0 c.in-Some.ensures.steps).0.few) }

pub overflow_add-n : goal.overflow_add-n
overflow_add-n c = record { fits = omega (arith, (taken c.loop-r.invariant.0 c.in-Some.ensures.steps).0.few) }

pub returns-in-Some-one_notice-clause-is : goal.returns-in-Some-one_notice-clause-is
returns-in-Some-one_notice-clause-is c =
    let w = taken c.loop-r.invariant.0 c.in-Some.ensures.steps in
    notices_hit _ _ _ _ _ c.loop-r.invariant.1 _ _ w.0 _ c.one_notice.ensures _ c.in-Some-one_notice.is

pub loop-r-preserved : goal.loop-r-preserved
loop-r-preserved c =
    let w = taken c.loop-r.invariant.0 c.in-Some.ensures.steps in
    (w.1, notices_more _ _ _ _ _ c.loop-r.invariant.1 _ _ w.0 _ c.one_notice.ensures c.in_default.is, only_more _ _ _ _ c.loop-r.invariant.2 _ _ w.0)

pub returns-clause-is : goal.returns-clause-is
returns-clause-is c = notices_end _ _ _ _ _ c.loop-r.invariant.1 (walk_ends _ _ _ _ (sym c.loop-r.invariant.0 ∙ c.in-None.ensures.steps.0))

pub returns-clause-others : goal.returns-clause-others
returns-clause-others c = only_end _ _ _ _ c.loop-r.invariant.2
