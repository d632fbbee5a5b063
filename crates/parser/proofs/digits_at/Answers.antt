-- `digits_at` meets its contract: the run from `from` on is the run from i on, with the number so far, beside which its double is kept.
use mathlib.Core.Path.{sym, ◌∙◌}
use Rattle.parser.specs.Laws.{run_more}
use native.Mathlib.Omega.{arith}
use Rattle.parser.proofs.digits_at.Goals as goal

pub loop-i-preserved : goal.loop-i-preserved
loop-i-preserved g c =
    (omega arith, rw c.appended-next.ensures (run_more _ _ _ _ _ c.loop-i.invariant.1 c.loop-i-test.true (sym c.is_digit.ensures ∙ c.if-not-is_digit.false) _ c.from.ensures (omega (arith, c.appended-next.ensures))), omega arith)
