-- `digest` meets its contract: what the leftmost code decides is what is heard.
use Rattle.numeric.specs.Calls.{unchecked_heard}
use Rattle.numeric.proofs.digest.Goals as goal

pub returns-clause-heard : goal.returns-clause-heard
returns-clause-heard c = rw c.digest_unchecked.ensures (unchecked_heard c.args.input.now)
