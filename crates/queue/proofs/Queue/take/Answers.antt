-- `take` meets its contract: the record at the start lies in the memory.
use Rattle.std.proofs.Common.{sym, ◌∙◌, length, arith}
use Rattle.queue.specs.Queue.{ours}
use Rattle.queue.specs.Laws.{record_room, bounds_room, bounds_count}
use Rattle.queue.proofs.Queue.take.Goals as goal

pub overflow_mul-self : goal.overflow_mul-self
overflow_mul-self c =
    record { fits = omega (arith, record_room ours c.args.self (length c.args.mem.now) _ c.capacity-cap.ensures (sym c.is_bounded.ensures ∙ c.if-not-is_bounded.false) c.if-self-eq0.false) }

pub ring-requires : goal.ring-requires
ring-requires c =
    let b = sym c.is_bounded.ensures ∙ c.if-not-is_bounded.false in
    let k = bounds_count _ c.args.self b in
    let w = bounds_room _ c.args.self b (omega arith) in
    (w.0, (omega arith, omega (arith, c.capacity-cap.ensures)))
