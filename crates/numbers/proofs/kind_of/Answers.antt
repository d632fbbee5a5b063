-- `kind_of` meets its contract: the kinds stand in the order of their numbers.
use Rattle.std.proofs.Common.{arith}
use Rattle.std.proofs.lemmas.Grind.{common_steps}
use Rattle.numbers.proofs.kind_of.Goals as goal

pub returns : goal.returns
returns c = grind (arith, common_steps)
