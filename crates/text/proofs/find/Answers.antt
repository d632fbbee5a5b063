-- `find` meets its contract: the first place from `from` on is the first place from i on; where there is no room, there is none.
use mathlib.Core.Path.{sym, ◌∙◌}
use Rattle.text.specs.Text.{stands}
use Rattle.text.specs.Steps.{begins_end, find_here, find_next}
use Rattle.text.specs.Laws.{find_late}
use native.Mathlib.Omega.{arith}
use Rattle.text.proofs.find.Goals as goal

pub returns-then-t-eq0 : goal.returns-then-t-eq0
unfolding stands
returns-then-t-eq0 c =
    sym (find_here c.args.t.now c.args.s.now c.args.from (begins_end c.args.t.now _ 0 (omega arith)))

pub returns-then-s-t : goal.returns-then-s-t
returns-then-s-t c =
    sym (find_late c.args.t.now c.args.s.now c.args.from (omega arith) (omega arith))

pub returns-then-stands_at : goal.returns-then-stands_at
returns-then-stands_at c =
    sym (c.loop-i.invariant ∙ find_here _ _ c.loop-i.i (sym c.stands_at.ensures ∙ c.if-stands_at.true))

pub loop-i-preserved : goal.loop-i-preserved
loop-i-preserved c =
    c.loop-i.invariant ∙ find_next _ _ c.loop-i.i (omega arith) (sym c.stands_at.ensures ∙ c.if-stands_at.false)

pub returns : goal.returns
returns c =
    sym (c.loop-i.invariant ∙ find_late c.args.t.now c.args.s.now c.loop-i.i (omega arith) (omega arith))
