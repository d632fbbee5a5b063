-- `skip` meets its contract: the answer from `from` on is the answer from `place` on.
use mathlib.Core.Path.{◌≡◌, refl, sym, ◌∙◌}
use native.Mathlib.Omega.{arith}
use Rattle.text.specs.Steps.{past_more, past_stop, past_end}
use Rattle.text.proofs.skip.Goals as goal

pub loop-place-init : goal.loop-place-init
loop-place-init c = (omega arith, refl)

pub returns-then-not-is_blank : goal.returns-then-not-is_blank
returns-then-not-is_blank c =
    sym (c.loop-place.invariant.1 ∙ past_stop _ _ c.loop-place.place c.loop-place-test.true (sym c.is_blank.ensures ∙ c.if-not-is_blank.true))

pub loop-place-preserved : goal.loop-place-preserved
loop-place-preserved c =
    (omega arith, c.loop-place.invariant.1 ∙ past_more _ _ c.loop-place.place c.loop-place-test.true (sym c.is_blank.ensures ∙ c.if-not-is_blank.false))

pub returns : goal.returns
returns c =
    let e : c.max.result ≡ c.loop-place.place = omega arith in
    e ∙ sym (c.loop-place.invariant.1 ∙ past_end _ _ c.loop-place.place c.loop-place-test.false)
