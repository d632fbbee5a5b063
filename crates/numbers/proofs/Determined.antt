-- Any two results that a contract of this crate allows are equal, every number of a lent array too.
use mathlib.Core.Path.{◌≡◌, sym, ◌∙◌}
use Rattle.outcome.specs.One.{Alike, One}
use Rattle.numbers.proofs as calls

pub selector_of_one : One calls.selector_of.Reads.Post
selector_of_one κs a r q s t h g = h ∙ sym g

pub kind_of_one : One calls.kind_of.Reads.Post
kind_of_one κs a r q s t h g = h ∙ sym g

pub held_number_one : One calls.held_number.Reads.Post
held_number_one κs a r q s t h g = h ∙ sym g

pub answer_of_one : One calls.answer_of.Reads.Post
answer_of_one κs a r q s t h g = h ∙ sym g

pub slot_of_one : One calls.slot_of.Reads.Post
slot_of_one κs a r q s t h g = h ∙ sym g

pub queue_of_one : One calls.queue_of.Reads.Post
queue_of_one κs a r q s t h g = h ∙ sym g

pub state_of_one : One calls.state_of.Reads.Post
state_of_one κs a r q s t h g = h ∙ sym g

pub put_slot_one : Alike calls.put_slot.Reads.Post (λ κs r q s t. s.0.now ≡ t.0.now)
put_slot_one κs a r q s t h g = h ∙ sym g

pub put_queue_one : Alike calls.put_queue.Reads.Post (λ κs r q s t. s.0.now ≡ t.0.now)
put_queue_one κs a r q s t h g = h ∙ sym g

pub put_state_one : Alike calls.put_state.Reads.Post (λ κs r q s t. s.0.now ≡ t.0.now)
put_state_one κs a r q s t h g = h ∙ sym g

pub lay_answer_one : Alike calls.lay_answer.Reads.Post (λ κs r q s t. s.0.now ≡ t.0.now)
lay_answer_one κs a r q s t h g = h ∙ sym g
