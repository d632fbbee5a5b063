-- Any two results that a contract of this crate allows are equal.
use Rattle.outcome.specs.One.{One}
use Rattle.text.specs.Logic.{determined}
use Rattle.seek.proofs as calls

pub find_one : One calls.find.Reads.Post
find_one κs a x y s t = determined

pub find_cr_one : One calls.find_cr.Reads.Post
find_cr_one κs a x y s t = determined

pub skip_spaces_one : One calls.skip_spaces.Reads.Post
skip_spaces_one κs a x y s t = determined

pub find_byte_one : One calls.find_byte.Reads.Post
find_byte_one κs a x y s t = determined
