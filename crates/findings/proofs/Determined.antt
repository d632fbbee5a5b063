-- Any two results that a contract of this crate allows are equal.
use mathlib.Core.Path.{◌≡◌, sym, ◌∙◌}
use Rattle.outcome.specs.One.{Alike, One}
use Rattle.text.specs.Logic.{determined}
use Rattle.findings.proofs as calls

pub none_one : One calls.none.Reads.Post
none_one κs a x y s t = determined

pub extend_one : One calls.extend.Reads.Post
extend_one κs a x y s t = determined

pub start_one : One calls.start.Reads.Post
start_one κs a x y s t = determined

pub of_numbers_one : One calls.of_numbers.Reads.Post
of_numbers_one κs a x y s t = determined

pub lay_one : Alike calls.lay.Reads.Post (λ κs r q s t. s.0.now ≡ t.0.now)
lay_one κs a r q s t h g = h ∙ sym g
