-- Any two results that a contract of this crate allows are equal.
use Rattle.outcome.specs.One.{One}
use Rattle.text.specs.Logic.{determined}
use Rattle.quiet.proofs as calls

pub is_still_one : One calls.is_still.Reads.Post
is_still_one κs a x y s t = determined
