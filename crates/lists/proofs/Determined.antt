-- Any two results that a contract of this crate allows are equal, and so is the memory that `read` leaves.
use mathlib.Core.Path.{◌≡◌}
use Rattle.outcome.specs.One.{Alike, One}
use Rattle.text.specs.Logic.{determined}
use Rattle.lists.specs.Exactly.{one_reading}
use Rattle.lists.proofs as calls

pub read_one : Alike calls.read.Reads.Post (λ κs x y s t. (x ≡ y) × (s.1.0.now ≡ t.1.0.now))
read_one κs a x y s t v w = one_reading _ _ x y _ _ v w

pub number_one : One calls.ListError.number.Reads.Post
number_one κs a x y s t = determined

pub place_one : One calls.ListError.place.Reads.Post
place_one κs a x y s t = determined
