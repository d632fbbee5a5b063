-- `prompts_of` meets its contract: the rule on all the records is the rule on those that are left.
use Rattle.std.proofs.Common.{refl, sym, ◌∙◌, arith}
use Rattle.table.specs.Laws.{walk_ends}
use Rattle.items.specs.Laws.{taken, prompts_end, prompts_hit, prompts_more}
use Rattle.items.proofs.prompts_of.Goals as goal

pub loop-r-init : goal.loop-r-init
loop-r-init c = (0, 0, cc, refl)

pub overflow_add-end : goal.overflow_add-end
overflow_add-end c = record { fits = omega (arith, (taken c.loop-r.invariant.2 c.in-Some.ensures.steps).0.inside) }

pub slice_bounds-custom_prompt-end : goal.slice_bounds-custom_prompt-end
slice_bounds-custom_prompt-end c = (taken c.loop-r.invariant.2 c.in-Some.ensures.steps).0.inside

pub returns-in-Some-prompt_tried : goal.returns-in-Some-prompt_tried
returns-in-Some-prompt_tried c =
    let w = taken c.loop-r.invariant.2 c.in-Some.ensures.steps in
    prompts_hit _ _ _ _ _ c.loop-r.invariant.3 _ _ w.0 _ c.custom_prompt-holds.ensures _ c.prompt_tried.ensures _ c.in-Some-prompt_tried.is

pub loop-r-preserved : goal.loop-r-preserved
loop-r-preserved c =
    let w = taken c.loop-r.invariant.2 c.in-Some.ensures.steps in
    (_, _, w.1, prompts_more _ _ _ _ _ c.loop-r.invariant.3 _ _ w.0 _ c.custom_prompt-holds.ensures _ c.prompt_tried.ensures c.in_default.is)

pub returns : goal.returns
returns c = prompts_end _ _ _ _ _ c.loop-r.invariant.3 (walk_ends _ _ _ _ (sym c.loop-r.invariant.2 ∙ c.in-None.ensures.steps.0))
