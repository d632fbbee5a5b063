use Rattle.convert.specs.Laws.{Seen}
use Rattle.convert.proofs.are_good.Given as goal

abbrev pub invariant-loop : goal.invariant-loop
invariant-loop l = Seen l.mem l.fn.queue.start l.fn.queue.count l.cap l.base l.counter
