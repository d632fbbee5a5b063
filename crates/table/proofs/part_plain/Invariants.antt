use mathlib.Core.Path.{◌≡◌}
use lib.ListN.{take, drop}
use Rattle.table.specs.Table.{all_plain}
use Rattle.table.proofs.part_plain.Given as goal

abbrev pub invariant-loop-j : goal.invariant-loop-j
invariant-loop-j g l = l.all ≡ all_plain (take l.j (drop l.at l.t))
