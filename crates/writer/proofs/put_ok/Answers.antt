-- `put_ok` meets its contract: the OK line alone, or behind the payload as a line.
use Rattle.std.proofs.Common.{rules, tests}
use Rattle.ink.specs.Laws.{same_text}
use Rattle.writer.specs.Laws.{ok_alone, ok_put}
use Rattle.writer.proofs.put_ok.Goals as goal
use Rattle.writer.proofs.put_ok.Goals.{then-not-is_empty, else-not-is_empty}

pub returns-clause-is : goal.returns-clause-is
returns-clause-is c =
    elim c.if-not-is_empty.branch [
      | then-not-is_empty w ↦ ok_put _ _ c.args.payload.now c.requires (search (rules, tests)) _ _ (rw w.page-is w.put_line.ensures.is) _ c.words.ensures.is
      | else-not-is_empty w ↦ same_text _ _ _ _ _ (rw w.page-is at c.words.ensures.is) (ok_alone c.args.payload.now (search (rules, tests)))
    ]
