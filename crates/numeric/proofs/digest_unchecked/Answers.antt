-- `digest_unchecked` meets its contract: by what the walk came to.
use Rattle.numeric.specs.Calls.{said_room, unchecked_at, unchecked_none}
use Rattle.numeric.proofs.digest_unchecked.Goals as goal

pub said-requires : goal.said-requires
said-requires c =
    said_room c.args.input.now _ c.leftmost.ensures _ c.in-Some.is

pub returns-in-Some : goal.returns-in-Some
returns-in-Some c =
    unchecked_at c.args.input.now _ c.leftmost.ensures _ c.in-Some.is _ c.said.ensures

pub returns-in-None : goal.returns-in-None
returns-in-None c =
    unchecked_none c.args.input.now _ c.leftmost.ensures c.in-None.is _ c.nothing.ensures
