-- Any two results that a contract of this crate allows are equal, every byte of lent memory too.
use mathlib.Core.Path.{◌≡◌}
use Rattle.outcome.specs.One.{Alike}
use Rattle.writer.specs.Laws.{saying_one}
use Rattle.writer.proofs as calls

pub say_one : Alike calls.say.Reads.Post (λ κs r q s t. (r ≡ q) × (s.1.1.1.1.0.now ≡ t.1.1.1.1.0.now))
say_one κs a r q s t h g = saying_one _ r q _ _ h g
