-- `put_coded` meets its contract: its four texts one behind the other.
use mathlib.Core.Path.{sym, ap}
use Rattle.writer.specs.Writer.{coded}
use Rattle.writer.specs.Laws.{none_put, coded_put}
use Rattle.writer.proofs.put_coded.Goals as goal

pub returns-in_default-clause-is : goal.returns-in_default-clause-is
unfolding coded
returns-in_default-clause-is c =
    none_put _ _ _ (ap (coded c.args.head.now) (sym c.in_default.is))

pub returns-clause-is : goal.returns-clause-is
returns-clause-is c =
    coded_put _ _ c.requires c.args.head.now c.told-head _ _ _ c.words.ensures.is _ _ c.words-2.ensures.is _ _ c.decimal.ensures.is _ c.words-3.ensures.is c.args.number c.in-Some.is
