-- The digits end behind where they start.
use Rattle.std.proofs.Common.{sym, ◌∙◌, arith}
use Rattle.lines.specs.Lines.{fixed_text}
use Rattle.parser.specs.Laws.{numeric_bounds}
use Rattle.items.specs.Laws.{numeric_behind}
use Rattle.items.proofs.numeric_at.Goals as goal

pub overflow_sub-digits : goal.overflow_sub-digits
overflow_sub-digits c =
    omega (arith, numeric_bounds (fixed_text c.args.head) c.args.s.now c.args.place c.in_ok-d.d (numeric_behind c.args.head c.args.s.now c.args.place c.requires.1 ∙ sym (rw c.fixed_len.ensures at c.in_ok-d.ensures)))
