-- Any two results that a contract of this crate allows are equal.
use Rattle.outcome.specs.One.{One}
use Rattle.text.specs.Logic.{determined}
use Rattle.steps.proofs as calls

pub next_one : One calls.next.Reads.Post
next_one κs a x y s t = determined
