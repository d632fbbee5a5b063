-- Any two results that a contract of this crate allows are equal.
use mathlib.Core.Path.{◌≡◌}
use Rattle.outcome.specs.One.{Alike, One}
use Rattle.text.specs.Logic.{determined}
use Rattle.text.proofs as calls

pub skip_one : One calls.skip.Reads.Post
skip_one κs a x y s t = determined

pub kept_one : One calls.kept.Reads.Post
kept_one κs a x y s t = determined

pub trim_one : One calls.trim.Reads.Post
trim_one κs a x y s t = determined

pub trimmed_part_one : One calls.trimmed_part.Reads.Post
trimmed_part_one κs a x y s t = determined

pub byte_at_one : One calls.byte_at.Reads.Post
byte_at_one κs a x y s t = determined

pub matches_at_one : One calls.matches_at.Reads.Post
matches_at_one κs a x y s t = determined

pub find_one : One calls.find.Reads.Post
find_one κs a x y s t = determined

-- The bytes of the part and where they lie. The name that proofs give to the borrow is not determined, and no program sees it.
pub part_one : Alike calls.part.Reads.Post (λ κs x y s t. (x.now ≡ y.now) × (x.ref_ptr ≡ y.ref_ptr))
part_one κs a x y s t h g = (determined h.0 g.0, determined h.1 g.1)
