use Rattle.std.proofs.Common.{◌≡◌}
use Prim.Native.Nat.{◌-◌}
use lib.ListN.{length}
use Rattle.report.specs.Laws.{Lining}
use Rattle.report.proofs.draw.Given as goal

abbrev pub invariant-loop-step : goal.invariant-loop-step
invariant-loop-step l =
    Lining l.s l.initial.page.out.now l.initial.page.at l.page.out.now l.at l.page.at × (l.page.out.ghost_name ≡ l.initial.page.out.ghost_name)

abbrev pub decreases-loop-step : goal.decreases-loop-step
decreases-loop-step l = length l.s - l.at
