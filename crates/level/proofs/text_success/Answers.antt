-- The text stands between the head and the first CRLF behind it.
use Rattle.std.proofs.Common.{arith}
use Rattle.level.specs.Laws.{text_room}
use Rattle.level.proofs.text_success.Goals as goal

pub overflow_sub-len : goal.overflow_sub-len
overflow_sub-len c = omega (arith, text_room c.args.s.now c.args.e _ _ c.in_ok-end.ensures)

pub overflow_add-end : goal.overflow_add-end
overflow_add-end c = record { fits = omega (arith, text_room c.args.s.now c.args.e _ _ c.in_ok-end.ensures) }
