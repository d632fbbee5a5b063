use Rattle.std.proofs.Common.{◌≡◌, ◌+◌, ◌*◌}
use Rattle.seek.specs.Seek.{ColumnAbove}
use Rattle.seek.proofs.column.Given as goal

abbrev pub invariant-loop-row : goal.invariant-loop-row
invariant-loop-row l = (l.p ≡ l.at + l._row * 16) × ColumnAbove l.s l.at l._row l.m
