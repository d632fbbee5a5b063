-- Any two results that a contract of this crate allows are equal, every byte of the lent memory too.
use mathlib.Core.Path.{◌≡◌, sym, ◌∙◌}
use native.Mathlib.Omega.{arith}
use Rattle.outcome.specs.One.{Alike, One}
use Rattle.moves.proofs as calls

pub put_one : Alike calls.put.Reads.Post (λ κs x y s t. s.0.now ≡ t.0.now)
put_one κs a x y s t h g = h ∙ sym g

pub move_down_one : Alike calls.move_down.Reads.Post (λ κs x y s t. s.0.now ≡ t.0.now)
move_down_one κs a x y s t h g = h ∙ sym g

pub one_more_one : One calls.one_more.Reads.Post
one_more_one κs a x y s t h g = omega arith
