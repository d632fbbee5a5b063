-- Any two results that a contract of this crate allows are equal, every byte of the new memory too.
use mathlib.Core.Path.{◌≡◌}
use Rattle.outcome.specs.One.{Alike}
use Rattle.queue.specs.Laws.{after_one}
use Rattle.convert.specs.Convert.{outcome}
use Rattle.convert.specs.Laws.{outcome_one}
use Rattle.convert.proofs as calls

pub convert_one : Alike calls.convert.Reads.Post (λ κs r q s t. (r ≡ q) × (s.1.1.0.now ≡ t.1.1.0.now))
convert_one κs a r q s t h g = after_one outcome outcome_one _ r q _ _ h g
