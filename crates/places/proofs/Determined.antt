-- Any two results that a contract of this crate allows are equal.
use Rattle.outcome.specs.One.{One}
use Rattle.text.specs.Logic.{determined}
use Rattle.places.proofs as calls

pub place_one : One calls.place.Reads.Post
place_one κs a x y s t = determined

pub connect_one : One calls.connect.Reads.Post
connect_one κs a x y s t = determined

pub unsought_one : One calls.unsought.Reads.Post
unsought_one κs a x y s t = determined

pub line_one : One calls.line.Reads.Post
line_one κs a x y s t = determined
