-- The places are those of the pass.
use Rattle.pass.specs.Laws.{lines_first}
use Rattle.level.specs.Laws.{others_passed}
use Rattle.level.proofs.successes.Goals as goal

pub connect_success-requires : goal.connect_success-requires
connect_success-requires c = lines_first c.args.s.now c.args.e _ (others_passed _ _ _ _ c.in-Others.ensures).lines

pub returns-in_ok-unless-in-Others-clause-places : goal.returns-in_ok-unless-in-Others-clause-places
returns-in_ok-unless-in-Others-clause-places c = let told = others_passed _ _ _ _ c.in-Others.ensures in (told.lines, told.heads)
