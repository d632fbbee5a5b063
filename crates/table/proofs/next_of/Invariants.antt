use mathlib.Core.Path.{◌≡◌}
use Rattle.table.specs.Table.{next_of}
use Rattle.table.proofs.next_of.Given as goal

abbrev pub invariant-loop-k : goal.invariant-loop-k
invariant-loop-k l = next_of l.mark l.t l.at l.n ≡ next_of l.mark l.t l.place l.k
