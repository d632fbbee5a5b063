-- Any two results that a contract of this crate allows are equal, every number of lent memory too.
use mathlib.Core.Path.{◌≡◌}
use Rattle.outcome.specs.One.{Alike, One}
use Rattle.text.specs.Logic.{determined}
use Rattle.pieces.proofs as calls

pub string_end_one : One calls.string_end.Reads.Post
string_end_one κs a x y s t = determined

pub number_at_one : One calls.number_at.Reads.Post
number_at_one κs a x y s t = determined

pub put_one : Alike calls.put.Reads.Post (λ κs x y s t. s.0.now ≡ t.0.now)
put_one κs a x y s t = determined

pub element_at_one : One calls.element_at.Reads.Post
element_at_one κs a x y s t = determined
