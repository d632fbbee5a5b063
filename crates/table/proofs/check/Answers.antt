-- `check` meets its contract: the ruling on the table is the ruling on what is left of it, n records on.
use mathlib.Core.Path.{refl}
use Rattle.table.specs.Table.{ruling}
use Rattle.table.proofs.check.Goals as goal

pub loop-n-init : goal.loop-n-init
unfolding ruling
loop-n-init c = refl
