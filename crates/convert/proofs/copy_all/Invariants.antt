use Rattle.std.proofs.Common.{◌≡◌, length}
use Rattle.convert.specs.Laws.{Copied}
use Rattle.convert.proofs.copy_all.Given as goal

abbrev pub invariant-loop : goal.invariant-loop
invariant-loop l = (length l.mem ≡ length l.initial.mem) × Copied l.old_mem l.initial.mem l.fn.old.start l.fn.old.count l.cap l.from l.counter l.to l.mem
