use Rattle.std.proofs.Common.{◌≡◌, false, ℕ, ◌+◌, ◌<◌}
use Rattle.seek.specs.Seek.{ColumnAbove}
use Rattle.seek.proofs.low.Given as goal

abbrev pub invariant-loop-j : goal.invariant-loop-j
invariant-loop-j l = l.any ≡ false → (c : ℕ) → c < l.j → ColumnAbove l.s (l.at + c) 32 14
