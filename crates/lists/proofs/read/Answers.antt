-- `read` meets its contract: what was judged good isn't refused when it is read again, since a payload has no fault beside a derivation within the limits.
use Rattle.lists.specs.Exactly.{read_again}
use Rattle.lists.proofs.read.Goals as goal

pub returns : goal.returns
returns c = read_again _ _ _ _ _ c.read_whole.ensures _ c.in_ok-read_whole.was _ _ _ c.read_whole-2.ensures
