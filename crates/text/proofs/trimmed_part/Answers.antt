-- `trimmed_part` meets its contract: by whether anything stands there.
use native.Mathlib.Omega.{arith}
use Rattle.text.specs.Laws.{trim_room, trimmed_none, trimmed_is}
use Rattle.text.proofs.trimmed_part.Goals as goal

pub returns-then-end-from : goal.returns-then-end-from
returns-then-end-from c =
    trimmed_none c.args.s.now c.args.from c.args.to _ c.min-end.ensures c.if-end-from.true

pub overflow_add-start : goal.overflow_add-start
overflow_add-start c =
    record { fits = omega (arith, trim_room c.args.s.now c.args.from _ c.if-end-from.false (omega (arith, c.min-end.ensures)) _ c.trim-t.ensures) }

pub returns : goal.returns
returns c =
    trimmed_is c.args.s.now c.args.from c.args.to _ c.min-end.ensures _ c.trim-t.ensures
