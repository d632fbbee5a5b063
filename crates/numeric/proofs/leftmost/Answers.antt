-- `leftmost` meets its contract: each line start is walked to, and no code is passed over. The measure is what is left of s.
use mathlib.Core.Path.{sym, ap, ◌∙◌}
use native.Mathlib.Omega.{arith}
use Rattle.numeric.specs.declared.Line.{Line}
use Rattle.numeric.specs.Laws.{cr_inside, walked_first, walk_found, walk_end, walk_last, walk_on, walk_less}
use Rattle.numeric.proofs.leftmost.Goals as goal

pub loop-line-init : goal.loop-line-init
loop-line-init c = walked_first c.args.s.now

pub returns-then-is_code : goal.returns-then-is_code
returns-then-is_code c =
    walk_found c.args.s.now c.loop-line.line.start c.loop-line.line.from c.loop-line.invariant (sym c.is_code.ensures ∙ c.if-is_code.true)

pub returns-then-cr-s : goal.returns-then-cr-s
returns-then-cr-s c =
    walk_last c.args.s.now c.loop-line.line.start c.loop-line.line.from c.loop-line.invariant (sym c.is_code.ensures ∙ c.if-is_code.false) _ c.next_cr-cr.ensures (omega (arith, c.if-cr-s.true))

pub line_behind-line-requires : goal.line_behind-line-requires
line_behind-line-requires c =
    cr_inside c.args.s.now c.loop-line.line.start c.loop-line-test.true _ c.next_cr-cr.ensures c.if-cr-s.false

pub loop-line-smaller : goal.loop-line-smaller
loop-line-smaller c =
    let g = cr_inside c.args.s.now c.loop-line.line.start c.loop-line-test.true _ c.next_cr-cr.ensures c.if-cr-s.false in
    omega (arith, ap (λ (l : Line). l.start) c.line_behind-line.ensures, c.loop-line-test.true, walk_less c.args.s.now c.loop-line.line.start c.loop-line.line.from c.loop-line.invariant (sym c.is_code.ensures ∙ c.if-is_code.false) _ c.next_cr-cr.ensures g)

pub loop-line-preserved : goal.loop-line-preserved
loop-line-preserved c =
    let g = cr_inside c.args.s.now c.loop-line.line.start c.loop-line-test.true _ c.next_cr-cr.ensures c.if-cr-s.false in
    rw c.line_behind-line.ensures (walk_on c.args.s.now c.loop-line.line.start c.loop-line.line.from c.loop-line.invariant (sym c.is_code.ensures ∙ c.if-is_code.false) _ c.next_cr-cr.ensures g)

pub returns : goal.returns
returns c =
    walk_end c.args.s.now c.loop-line.line.start c.loop-line.line.from c.loop-line.invariant c.loop-line-test.false
