-- `read_whole` meets its contract: a list that ends before the payload does is malformed there.
use Rattle.lists.specs.Told.{whole_stops}
use Rattle.lists.proofs.read_whole.Goals as goal

pub returns-then-e-s : goal.returns-then-e-s
returns-then-e-s g c = whole_stops _ _ _ _ _ c.read_list.ensures _ _ c.in_ok-e.was c.if-e-s.true
