-- `trim` meets its contract: what is kept of the rest after the leading blanks.
use Rattle.text.specs.Laws.{trim_is, past_bounds}
use native.Mathlib.Omega.{arith}
use Rattle.text.proofs.trim.Goals as goal

pub slice_bounds-kept-count : goal.slice_bounds-kept-count
slice_bounds-kept-count c = rw c.skip-a.ensures ((past_bounds _ _ 0).1 (omega arith))

pub slice_bounds-kept-start : goal.slice_bounds-kept-start
slice_bounds-kept-start c = rw c.skip-a.ensures ((past_bounds _ _ 0).1 (omega arith))

pub returns : goal.returns
returns c =
    trim_is _ _ _ _ c.skip-a.ensures c.kept-n.ensures
