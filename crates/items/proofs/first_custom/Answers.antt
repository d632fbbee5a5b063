-- `first_custom` meets its contract: the first of all the records is the first of those that are left.
use Rattle.std.proofs.Common.{refl, sym, ◌∙◌, arith}
use Rattle.table.specs.Laws.{walk_ends}
use Rattle.items.specs.Laws.{taken, custom_end, custom_hit, custom_more}
use Rattle.items.proofs.first_custom.Goals as goal

pub loop-r-init : goal.loop-r-init
loop-r-init c = (0, 0, cc, refl)

pub overflow_add-end : goal.overflow_add-end
overflow_add-end c = record { fits = omega (arith, (taken c.loop-r.invariant.2 c.in-Some.ensures.steps).0.inside) }

pub slice_bounds-find_custom-end : goal.slice_bounds-find_custom-end
slice_bounds-find_custom-end c = (taken c.loop-r.invariant.2 c.in-Some.ensures.steps).0.inside

pub overflow_cast-result : goal.overflow_cast-result
overflow_cast-result c = record { fits = omega (arith, (taken c.loop-r.invariant.2 c.in-Some.ensures.steps).0.few) }

pub returns-in-Some-find_custom : goal.returns-in-Some-find_custom
returns-in-Some-find_custom c =
    let w = taken c.loop-r.invariant.2 c.in-Some.ensures.steps in
    custom_hit _ _ _ _ _ _ c.loop-r.invariant.3 _ _ w.0 _ c.find_custom.ensures _ c.in-Some-find_custom.is

pub loop-r-preserved : goal.loop-r-preserved
loop-r-preserved c =
    let w = taken c.loop-r.invariant.2 c.in-Some.ensures.steps in
    (_, _, w.1, custom_more _ _ _ _ _ _ c.loop-r.invariant.3 _ _ w.0 _ c.find_custom.ensures c.in_default.is)

pub returns : goal.returns
returns c = custom_end _ _ _ _ _ _ c.loop-r.invariant.3 (walk_ends _ _ _ _ (sym c.loop-r.invariant.2 ∙ c.in-None.ensures.steps.0))
