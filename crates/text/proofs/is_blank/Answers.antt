-- `is_blank` meets its contract: each arm knows its set.
use mathlib.Core.Bool.{or-false}
use Rattle.text.specs.Text.{among, blanks, is_blank}
use Rattle.text.proofs.is_blank.Goals as goal

pub returns-in-Space : goal.returns-in-Space
unfolding is_blank among blanks
returns-in-Space c = rw (c.in-Space.is, or-false)

pub returns-in-Run : goal.returns-in-Run
returns-in-Run c = rw c.in-Run.is c.is_run.ensures

pub returns-in-Trim : goal.returns-in-Trim
returns-in-Trim c = rw c.in-Trim.is c.is_trim.ensures
