-- `matches_at` meets its contract: past the end, without room, and with room.
use mathlib.Core.Path.{sym}
use Rattle.text.specs.Steps.{stands_past, stands_short}
use native.Mathlib.Omega.{arith}
use Rattle.text.proofs.matches_at.Goals as goal

pub returns-then-s-at : goal.returns-then-s-at
returns-then-s-at c =
    stands_past c.args.t.now c.args.s.now c.args.at (omega arith)

pub returns-then-s-at-2 : goal.returns-then-s-at-2
returns-then-s-at-2 c =
    sym (stands_short c.args.t.now c.args.s.now c.args.at (omega arith) (omega arith))

pub returns : goal.returns
returns c = c.stands_at.ensures
