-- `good_at` meets its contract: a record that can be read lies in its table.
use Rattle.table.specs.Laws.{record_inside}
use native.Mathlib.Omega.{arith}
use Rattle.table.proofs.good_at.Goals as goal

pub overflow_add-r : goal.overflow_add-r
overflow_add-r c =
    record { fits = omega (arith, record_inside c.args.t.now c.args.at _ _ c.record_at.ensures c.in-Is.is) }
