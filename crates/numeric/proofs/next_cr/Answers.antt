-- `next_cr` meets its contract: the answer from `from` on is the answer from `place` on.
use Rattle.std.proofs.Common.{◌≡◌, sym, ap, ◌∙◌, not, arith}
use borrow.Author.Tests.{eq-eqb, ne_eqb}
use Rattle.text.specs.Steps.{past_more, past_stop, past_end}
use Rattle.numeric.proofs.next_cr.Goals as goal

pub returns-then-s-place-eq13 : goal.returns-then-s-place-eq13
returns-then-s-place-eq13 c =
    sym (c.loop-place.invariant.1 ∙ past_stop _ _ c.loop-place.place c.loop-place-test.true (ap not (eq-eqb _ 13 c.if-s-place-eq13.true)))

pub loop-place-preserved : goal.loop-place-preserved
loop-place-preserved c =
    (omega arith, c.loop-place.invariant.1 ∙ past_more _ _ c.loop-place.place c.loop-place-test.true (ap not (ne_eqb _ 13 c.if-s-place-eq13.false)))

pub returns : goal.returns
returns c =
    let e : c.max.result ≡ c.loop-place.place = omega arith in
    e ∙ sym (c.loop-place.invariant.1 ∙ past_end _ _ c.loop-place.place c.loop-place-test.false)
