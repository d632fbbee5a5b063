-- `last_end` meets its contract: nothing behind the first n, nothing kept of it, or what is kept.
use mathlib.Core.Path.{ap, ◌∙◌}
use native.Mathlib.Omega.{arith}
use lib.ListN.{drop, length-drop}
use Rattle.text.specs.Text.{is_blank, keep}
use Rattle.text.specs.Laws.{rest, keep_le}
use Rattle.text.specs.declared.Blanks.TheVariants.{Run}
use Rattle.findings.specs.Steps.{passing_end, passing_none, last_none, last_some}
use Rattle.findings.proofs.last_end.Goals as goal

pub returns-then-s-n : goal.returns-then-s-n
returns-then-s-n c =
    passing_none (is_blank Run) c.args.s.now _ (passing_end (is_blank Run) c.args.s.now) c.args.n c.args.e (omega arith)

pub returns-then-k-eq0 : goal.returns-then-k-eq0
returns-then-k-eq0 c =
    last_none (is_blank Run) c.args.s.now c.args.n c.args.e _ (c.kept-k.ensures ∙ ap (keep (is_blank Run)) (rest c.args.s.now c.args.n)) (omega arith)

pub overflow_add-result : goal.overflow_add-result
overflow_add-result c =
    let kept = c.kept-k.ensures ∙ ap (keep (is_blank Run)) (rest c.args.s.now c.args.n) in
    record { fits = omega (arith, kept, keep_le (is_blank Run) (drop c.args.n c.args.s.now), length-drop c.args.n c.args.s.now) }

pub returns : goal.returns
returns c =
    last_some (is_blank Run) c.args.s.now c.args.n c.args.e _ (c.kept-k.ensures ∙ ap (keep (is_blank Run)) (rest c.args.s.now c.args.n)) (omega arith)
