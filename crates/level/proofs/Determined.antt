-- Any two results that a contract of this crate allows are equal.
use Rattle.outcome.specs.One.{One}
use Rattle.text.specs.Logic.{determined}
use Rattle.level.proofs as calls

pub skipped_one : One calls.skipped.Reads.Post
skipped_one κs a x y s t = determined

pub level_below_one : One calls.level_below.Reads.Post
level_below_one κs a x y s t = determined

pub level_first_one : One calls.level_first.Reads.Post
level_first_one κs a x y s t = determined
