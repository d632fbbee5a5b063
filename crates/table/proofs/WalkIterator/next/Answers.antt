-- `next` meets its contract: a record that is found lies in the table, and is one of the first 64.
use native.Mathlib.Omega.{arith}
use Rattle.table.specs.Laws.{next_first}
use Rattle.table.proofs.WalkIterator.next.Goals as goal

pub overflow_add-self : goal.overflow_add-self
overflow_add-self c =
    let w = next_first _ _ _ _ _ c.next_of.ensures _ _ c.in_ok-r.was in
    record { fits = omega (arith, w.inside) }

pub overflow_add-self-2 : goal.overflow_add-self-2
overflow_add-self-2 c =
    let w = next_first _ _ _ _ _ c.next_of.ensures _ _ c.in_ok-r.was in
    record { fits = omega (arith, w.few) }
