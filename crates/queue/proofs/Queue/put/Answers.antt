-- `put` meets its contract: the record next after those held lies in the memory.
use Rattle.std.proofs.Common.{sym, ◌∙◌, arith}
use Rattle.queue.specs.Laws.{bounds_room, ring_below}
use Rattle.queue.proofs.Queue.put.Goals as goal

pub ring-base-requires : goal.ring-base-requires
ring-base-requires c =
    let w = bounds_room _ c.args.self (sym c.is_bounded.ensures ∙ c.if-not-is_bounded.false) (omega arith) in
    (w.0, (w.1, omega (arith, c.capacity-cap.ensures)))

pub overflow_mul-base : goal.overflow_mul-base
overflow_mul-base c =
    let w = bounds_room _ c.args.self (sym c.is_bounded.ensures ∙ c.if-not-is_bounded.false) (omega arith) in
    record { fits = omega (arith, c.capacity-cap.ensures, c.ring-base.ensures, ring_below c.args.self.start c.args.self.count _ w.0 w.1) }
