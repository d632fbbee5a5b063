-- Any two results that a contract of this crate allows are equal.
use Rattle.outcome.specs.One.{One}
use Rattle.text.specs.Logic.{determined}
use Rattle.table.specs.Laws.{outcome_one}
use Rattle.table.proofs as calls

pub check_one : One calls.check.Reads.Post
check_one κs a x y s t h g = outcome_one x y (determined h g)

pub next_of_one : One calls.next_of.Reads.Post
next_of_one κs a x y s t = determined

pub records_one : One calls.records.Reads.Post
records_one κs a x y s t h g = determined h.0 g.0
