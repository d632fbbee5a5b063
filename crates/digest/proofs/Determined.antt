-- Any two results that a contract of this crate allows are equal.
use mathlib.Core.Path.{◌≡◌}
use Rattle.outcome.specs.One.{Alike, One}
use Rattle.text.specs.Logic.{determined}
use Rattle.answers.specs.Laws.{outcome_one}
use Rattle.digest.proofs as calls

pub digest_one : One calls.digest.Reads.Post
digest_one κs a x y s t h g = outcome_one x y (determined h.0 g.0)

pub digest_unchecked_one : One calls.digest_unchecked.Reads.Post
digest_unchecked_one κs a x y s t = determined

-- The bytes of the part and where they lie. The name that proofs give to the borrow is not determined, and no program sees it.
pub payload_one : Alike calls.payload.Reads.Post (λ κs x y s t. (x.now ≡ y.now) × (x.ref_ptr ≡ y.ref_ptr))
payload_one κs a x y s t h g = (determined h.0 g.0, determined h.1 g.1)
