-- A gateway that converts its queue (R-9) and goes on has delivered each notice once: `winter` from the converted state on, with what waited before in front.
use mathlib.Core.Path.{◌≡◌, ap, ◌∙◌}
use mathlib.Core.List.{List, ◌++◌}
use Prim.Native.Nat.{ℕ}
use native.Mathlib.Omega.{arith}
use Rattle.outcome.specs.Outcome.{answered}
use Rattle.queue.specs.Queue.{ours, older, after, Arrival}
use Rattle.queue.specs.Laws.{ours_sound, older_sound}
use Rattle.queue.specs.declared.Queue.{Queue}
use Rattle.convert.specs.Convert.{converted}
use Rattle.convert.specs.Kept.{convert_waits, convert_good}
use Rattle.selector.specs.Selector.{Choice}
use Rattle.turn.specs.Turn.{World}
use Rattle.ingress.specs.Story.{delivered_by, flat}
use Rattle.ingress.specs.Calls.{Call, restarted, Restart}
use Rattle.ingress.specs.Winter.{winter}

pub restart : (c : Choice) (l : List Call) (w : World) (k : List ℕ) (q : Queue) (m : List ℕ) → after (answered q) m ≡ converted older ours w.state.queue w.queue_memory k → Restart c l w (restarted w q m)
restart c l w k q m e =
    let x = w.state.queue in
    let t = winter c l (restarted w q m) in
    record {
      told = t;
      notices = t.notices ∙ ap (λ (a : List Arrival). a ++ flat delivered_by t.events) (convert_waits older ours older_sound ours_sound (omega arith) x w.queue_memory k q m e);
      good = convert_good older ours older_sound ours_sound (omega arith) x w.queue_memory k q m e;
    }
