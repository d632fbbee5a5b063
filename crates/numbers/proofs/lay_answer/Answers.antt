-- `lay_answer` meets its contract: nine numbers are all of the array's.
use Rattle.numbers.specs.Laws.{laid_whole}
use Rattle.numbers.proofs.lay_answer.Goals as goal

pub returns : goal.returns
returns c =
    rw c.kind_number.ensures (laid_whole _ _ c.told-out)
