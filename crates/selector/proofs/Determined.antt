-- Any two results that a contract of this crate allows are equal.
use Rattle.outcome.specs.One.{One}
use Rattle.text.specs.Logic.{determined}
use Rattle.table.specs.Laws as tables
use Rattle.answers.specs.Laws as answers
use Rattle.selector.proofs as calls

pub check_one : One calls.check.Reads.Post
check_one κs a x y s t h g = tables.outcome_one x y (determined h g)

pub digest_one : One calls.digest.Reads.Post
digest_one κs a x y s t h g = answers.outcome_one x y (determined h g)

pub digest_unchecked_one : One calls.digest_unchecked.Reads.Post
digest_unchecked_one κs a x y s t = determined
