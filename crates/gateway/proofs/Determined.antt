-- Any two results that an export's contract allows are equal: the number that it returns, and every number and byte that it leaves.
use mathlib.Core.Path.{◌≡◌, sym, ◌∙◌}
use Rattle.outcome.specs.One.{Alike, One}
use Rattle.gateway.specs.Laws.{call_one, listing_one, turn_one, took_one, whole_one, feeding_one, spoken_one}
use Rattle.gateway.proofs as calls

pub wx_table_check_one : Alike calls.wx_table_check.Reads.Post (λ κs r q s t. (r ≡ q) × (s.1.0.now ≡ t.1.0.now))
wx_table_check_one κs a r q s t h g = call_one _ r q _ _ h g

pub wx_digest_one : Alike calls.wx_digest.Reads.Post (λ κs r q s t. (r ≡ q) × (s.1.1.1.0.now ≡ t.1.1.1.0.now))
wx_digest_one κs a r q s t h g = call_one _ r q _ _ h g

pub wx_payload_one : Alike calls.wx_payload.Reads.Post (λ κs r q s t. s.1.1.1.0.now ≡ t.1.1.1.0.now)
wx_payload_one κs a r q s t h g = h ∙ sym g

pub wx_slot_new_one : Alike calls.wx_slot_new.Reads.Post (λ κs r q s t. s.0.now ≡ t.0.now)
wx_slot_new_one κs a r q s t h g = h ∙ sym g

pub wx_slot_signal_one : Alike calls.wx_slot_signal.Reads.Post (λ κs r q s t. (r ≡ q) × ((s.0.now ≡ t.0.now) × (s.1.1.1.0.now ≡ t.1.1.1.0.now)))
wx_slot_signal_one κs a r q s t h g = turn_one _ r q _ _ _ _ h g

pub wx_slot_lookup_one : Alike calls.wx_slot_lookup.Reads.Post (λ κs r q s t. (r ≡ q) × (s.1.1.0.now ≡ t.1.1.0.now))
wx_slot_lookup_one κs a r q s t h g = call_one _ r q _ _ h g

pub wx_slot_reset_one : Alike calls.wx_slot_reset.Reads.Post (λ κs r q s t. (r ≡ q) × (s.0.now ≡ t.0.now))
wx_slot_reset_one κs a r q s t h g = call_one _ r q _ _ h g

pub wx_slot_payload_one : Alike calls.wx_slot_payload.Reads.Post (λ κs r q s t. s.1.1.0.now ≡ t.1.1.0.now)
wx_slot_payload_one κs a r q s t h g = h ∙ sym g

pub wx_queue_new_one : Alike calls.wx_queue_new.Reads.Post (λ κs r q s t. s.0.now ≡ t.0.now)
wx_queue_new_one κs a r q s t h g = h ∙ sym g

pub wx_queue_capacity_one : One calls.wx_queue_capacity.Reads.Post
wx_queue_capacity_one κs a r q s t h g = h ∙ sym g

pub wx_queue_put_one : Alike calls.wx_queue_put.Reads.Post (λ κs r q s t. (r ≡ q) × ((s.0.now ≡ t.0.now) × (s.1.0.now ≡ t.1.0.now)))
wx_queue_put_one κs a r q s t h g = turn_one _ r q _ _ _ _ h g

pub wx_queue_take_one : Alike calls.wx_queue_take.Reads.Post (λ κs r q s t. (r ≡ q) × ((s.0.now ≡ t.0.now) × (s.1.1.0.now ≡ t.1.1.0.now)))
wx_queue_take_one κs a r q s t h g = took_one _ r q _ _ _ _ h g

pub wx_queue_convert_one : Alike calls.wx_queue_convert.Reads.Post (λ κs r q s t. (r ≡ q) × ((s.1.1.0.now ≡ t.1.1.0.now) × (s.1.1.1.0.now ≡ t.1.1.1.0.now)))
wx_queue_convert_one κs a r q s t h g = turn_one _ r q _ _ _ _ h g

pub wx_ingress_advance_one : Alike calls.wx_ingress_advance.Reads.Post (λ κs r q s t. (r ≡ q) × ((s.0.now ≡ t.0.now) × ((s.1.1.1.1.1.1.1.0.now ≡ t.1.1.1.1.1.1.1.0.now) × ((s.1.1.1.1.0.now ≡ t.1.1.1.1.0.now) × ((s.1.1.1.1.1.0.now ≡ t.1.1.1.1.1.0.now) × (s.1.1.1.1.1.1.0.now ≡ t.1.1.1.1.1.1.0.now))))))
wx_ingress_advance_one κs a r q s t h g = whole_one _ r q _ _ _ _ _ _ _ _ _ _ h g

pub wx_ingress_write_one : Alike calls.wx_ingress_write.Reads.Post (λ κs r q s t. (r ≡ q) × ((s.0.now ≡ t.0.now) × ((s.1.1.1.1.1.1.1.0.now ≡ t.1.1.1.1.1.1.1.0.now) × ((s.1.1.1.1.0.now ≡ t.1.1.1.1.0.now) × ((s.1.1.1.1.1.0.now ≡ t.1.1.1.1.1.0.now) × (s.1.1.1.1.1.1.0.now ≡ t.1.1.1.1.1.1.0.now))))))
wx_ingress_write_one κs a r q s t h g = whole_one _ r q _ _ _ _ _ _ _ _ _ _ h g

pub wx_feed_advance_one : Alike calls.wx_feed_advance.Reads.Post (λ κs r q s t. (r ≡ q) × ((s.1.0.now ≡ t.1.0.now) × ((s.0.now ≡ t.0.now) × ((s.1.1.1.1.1.1.1.1.0.now ≡ t.1.1.1.1.1.1.1.1.0.now) × ((s.1.1.1.1.1.0.now ≡ t.1.1.1.1.1.0.now) × ((s.1.1.1.1.1.1.0.now ≡ t.1.1.1.1.1.1.0.now) × (s.1.1.1.1.1.1.1.0.now ≡ t.1.1.1.1.1.1.1.0.now)))))))
wx_feed_advance_one κs a r q s t h g = feeding_one _ r q _ _ _ _ _ _ _ _ _ _ _ _ h g

pub wx_feed_write_one : Alike calls.wx_feed_write.Reads.Post (λ κs r q s t. (r ≡ q) × ((s.1.0.now ≡ t.1.0.now) × ((s.0.now ≡ t.0.now) × ((s.1.1.1.1.1.1.1.1.0.now ≡ t.1.1.1.1.1.1.1.1.0.now) × ((s.1.1.1.1.1.0.now ≡ t.1.1.1.1.1.0.now) × ((s.1.1.1.1.1.1.0.now ≡ t.1.1.1.1.1.1.0.now) × (s.1.1.1.1.1.1.1.0.now ≡ t.1.1.1.1.1.1.1.0.now)))))))
wx_feed_write_one κs a r q s t h g = feeding_one _ r q _ _ _ _ _ _ _ _ _ _ _ _ h g

pub wx_findings_start_one : Alike calls.wx_findings_start.Reads.Post (λ κs r q s t. s.0.now ≡ t.0.now)
wx_findings_start_one κs a r q s t h g = h ∙ sym g

pub wx_ingress_clear_one : Alike calls.wx_ingress_clear.Reads.Post (λ κs r q s t. s.0.now ≡ t.0.now)
wx_ingress_clear_one κs a r q s t h g = h ∙ sym g

pub wx_list_read_one : Alike calls.wx_list_read.Reads.Post (λ κs r q s t. (r ≡ q) × ((s.1.0.now ≡ t.1.0.now) × (s.1.1.0.now ≡ t.1.1.0.now)))
wx_list_read_one κs a r q s t h g = listing_one _ _ _ r q _ _ _ _ h g

pub wx_say_one : Alike calls.wx_say.Reads.Post (λ κs r q s t. (r ≡ q) × ((s.1.1.1.1.1.1.0.now ≡ t.1.1.1.1.1.1.0.now) × (s.1.1.1.1.1.0.now ≡ t.1.1.1.1.1.0.now)))
wx_say_one κs a r q s t h g = spoken_one _ r q _ _ _ _ h g

pub wx_version_one : One calls.wx_version.Reads.Post
wx_version_one κs a r q s t h g = h ∙ sym g
