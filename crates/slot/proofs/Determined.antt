-- Any two results that a contract of this crate allows are equal, every byte of lent memory too.
use mathlib.Core.Path.{◌≡◌, sym, ◌∙◌}
use Rattle.outcome.specs.One.{Alike, One}
use Rattle.slot.specs.Laws.{resetting_one, reading_one, after_one}
use Rattle.slot.proofs as calls

pub new_one : One calls.Slot.new.Reads.Post
new_one κs a r q s t h g = h ∙ sym g

pub signal_one : Alike calls.Slot.signal.Reads.Post (λ κs r q s t. (r ≡ q) × (s.1.1.1.0.now ≡ t.1.1.1.0.now))
signal_one κs a r q s t h g = after_one _ r q _ _ h g

pub reset_one : One calls.Slot.reset.Reads.Post
reset_one κs a r q s t h g = resetting_one r q (h ∙ sym g)

pub lookup_one : One calls.Slot.lookup.Reads.Post
lookup_one κs a r q s t h g = reading_one r q (h ∙ sym g)

pub payload_one : Alike calls.Slot.payload.Reads.Post (λ κs r q s t. (r.now ≡ q.now) × (r.ref_ptr ≡ q.ref_ptr))
payload_one κs a r q s t h g = (h.0 ∙ sym g.0, h.1 ∙ sym g.1)
