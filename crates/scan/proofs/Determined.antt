-- Any two results that a contract of this crate allows are equal.
use Rattle.outcome.specs.One.{One}
use Rattle.text.specs.Logic.{determined}
use Rattle.scan.proofs as calls

pub extend_one : One calls.extend.Reads.Post
extend_one κs a x y s t = determined

pub scan_one : One calls.scan.Reads.Post
scan_one κs a x y s t p q = determined p.0 q.0
