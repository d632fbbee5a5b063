-- The lines are those of the pass.
use Rattle.pass.specs.Laws.{lines_first}
use Rattle.level.proofs.outermost.Goals as goal

pub behind-requires : goal.behind-requires
behind-requires c = lines_first c.args.s.now c.args.e _ c.in_ok-lines.ensures.places.0
