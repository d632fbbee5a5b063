-- Any two results that a contract of this crate allows are equal.
use Rattle.outcome.specs.One.{One}
use Rattle.text.specs.Logic.{determined}
use Rattle.pass.proofs as calls

pub pass_one : One calls.pass.Reads.Post
pass_one κs a x y s t = determined
