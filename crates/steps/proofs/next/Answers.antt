-- `next` meets its contract.
use Rattle.std.proofs.Common.{◌∙◌, arith}
use Rattle.text.specs.Laws.{rest}
use Rattle.steps.specs.Laws.{next_past, next_end, next_is}
use Rattle.steps.proofs.next.Goals as goal

pub returns-in_err-get : goal.returns-in_err-get
returns-in_err-get c = c.from_residual.ensures ∙ next_past c.args.table.now c.args.input.now c.args.from (omega (arith, c.in_err-get.ensures.lookup.0))

pub returns-then-answer-eq0 : goal.returns-then-answer-eq0
returns-then-answer-eq0 c =
    next_end c.args.table.now c.args.input.now c.args.from _ _ (c.in_ok-get.ensures.lookup.0.2 ∙ rest c.args.input.now c.args.from) c.digest_unchecked-answer.ensures (omega arith)

pub returns : goal.returns
returns c =
    next_is c.args.table.now c.args.input.now c.args.from _ _ (c.in_ok-get.ensures.lookup.0.2 ∙ rest c.args.input.now c.args.from) c.digest_unchecked-answer.ensures (λ z. omega arith)
