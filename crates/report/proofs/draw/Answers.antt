-- `draw` meets its contract: what is to be drawn of s is what was drawn and what is to be drawn of its rest. The measure is the rest.
use mathlib.Core.Path.{refl, sym, ◌∙◌}
use Rattle.text.specs.Laws.{rest}
use Rattle.ink.specs.Laws.{ink_length}
use Rattle.report.specs.Laws.{draw_start, draw_end, draw_eats, draw_within, draw_room, draw_more}
use native.Mathlib.Omega.{arith}
use Rattle.report.proofs.draw.Goals as goal

pub loop-step-init : goal.loop-step-init
loop-step-init c =
    (draw_start c.args.s.now c.args.page.now.out.now c.args.page.now.at c.requires, refl)

pub returns-clause-is : goal.returns-clause-is
returns-clause-is c =
    draw_end _ _ _ _ _ _ c.loop-step.invariant.0 (sym c.in_default.is ∙ c.next.ensures)

pub line-requires : goal.line-requires
line-requires c =
    draw_room _ _ _ _ _ _ c.loop-step.invariant.0 _ (sym c.in-Some.is ∙ c.next.ensures)

pub overflow_add-at : goal.overflow_add-at
overflow_add-at c =
    omega (arith, draw_within _ _ _ _ _ _ c.loop-step.invariant.0 _ (sym c.in-Some.is ∙ c.next.ensures))

pub loop-step-smaller : goal.loop-step-smaller
loop-step-smaller c =
    omega (arith, draw_within _ _ _ _ _ _ c.loop-step.invariant.0 _ (sym c.in-Some.is ∙ c.next.ensures), draw_eats _ _ _ _ _ _ c.loop-step.invariant.0 _ (sym c.in-Some.is ∙ c.next.ensures))

pub loop-step-preserved : goal.loop-step-preserved
loop-step-preserved c = (
  draw_more _ _ _ _ _ _ c.loop-step.invariant.0 _ (sym c.in-Some.is ∙ c.next.ensures) _ (rest c.args.s.now c.loop-step.at) _ _ c.line.ensures.is (ink_length _ _ _ _ _ c.line.ensures.is),
  c.line.ensures.place ∙ c.loop-step.invariant.1,
)
