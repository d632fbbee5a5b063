-- `only_notices` meets its contract: were no record of what is left a custom prompt, none were at all. The measure is the bytes left.
use Rattle.std.proofs.Common.{refl, ap, ◌∙◌, ◌≡◌, get_or, take, drop, ◌-◌, length, length-drop, arith}
use Rattle.text.specs.Laws.{rest}
use Rattle.quiet.specs.Customs.{none_next, only_left}
use Rattle.quiet.proofs.only_notices.Goals as goal

pub loop-rest-init : goal.loop-rest-init
loop-rest-init c = (0, refl, λ p. p)

pub loop-rest-smaller : goal.loop-rest-smaller
loop-rest-smaller c =
    let l : c.in-Some.next.now ≡ drop c.from.result (drop 3 c.loop-rest.rest.now) = c.in-Some.ensures.lookup.0.2 ∙ rest (take (length c.loop-rest.rest.now - 3) (drop 3 c.loop-rest.rest.now)) c.from.result ∙ ap (drop c.from.result) (rest c.loop-rest.rest.now 3) in
    omega (arith, ap length l, length-drop c.from.result (drop 3 c.loop-rest.rest.now), length-drop 3 c.loop-rest.rest.now, c.in-85.len_at_least)

pub loop-rest-preserved : goal.loop-rest-preserved
loop-rest-preserved c =
    let a : get_or c.loop-rest.rest.now 0 0 ≡ 85 = cc in
    let b : get_or c.loop-rest.rest.now 1 0 ≡ 82 = cc in
    let l : c.in-Some.next.now ≡ drop c.from.result (drop 3 c.loop-rest.rest.now) = c.in-Some.ensures.lookup.0.2 ∙ rest (take (length c.loop-rest.rest.now - 3) (drop 3 c.loop-rest.rest.now)) c.from.result ∙ ap (drop c.from.result) (rest c.loop-rest.rest.now 3) in
    let w = none_next c.args.table.now c.loop-rest.invariant.0 c.loop-rest.rest.now c.loop-rest.invariant.1 c.in-85.len_at_least a b c.from.result c.from.ensures in
    (_, l ∙ w.0, λ p. c.loop-rest.invariant.2 (w.1 p))

pub returns : goal.returns
returns c = only_left c.args.table.now c.loop-rest.invariant.0 c.loop-rest.rest.now c.loop-rest.invariant.1 c.loop-rest.invariant.2 _ c.is_empty.ensures
