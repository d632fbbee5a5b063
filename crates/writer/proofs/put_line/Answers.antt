-- `put_line` meets its contract: its three texts one behind the other.
use Rattle.writer.specs.Laws.{line_put}
use Rattle.writer.proofs.put_line.Goals as goal

pub returns-clause-is : goal.returns-clause-is
returns-clause-is c =
    line_put _ _ c.args.payload.now c.requires _ _ c.words.ensures.is _ _ c.words-2.ensures.is _ c.words-3.ensures.is
