-- `same` meets its contract: each byte is compared as it stands.
use lib.Dec.{eqb}
use Rattle.text.proofs.same.Goals as goal

pub returns : goal.returns
returns c = λ i. eqb (c.exact.ensures i) (c.exact-2.ensures i)
