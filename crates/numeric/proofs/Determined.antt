-- Any two results that a contract of this crate allows are equal.
use Rattle.outcome.specs.One.{One}
use Rattle.text.specs.Logic.{determined}
use Rattle.answers.specs.Laws.{outcome_one}
use Rattle.numeric.proofs as calls

pub digest_unchecked_one : One calls.digest_unchecked.Reads.Post
digest_unchecked_one κs a x y s t = determined

pub digest_one : One calls.digest.Reads.Post
digest_one κs a x y s t h g = outcome_one x y (determined h.0 g.0)
