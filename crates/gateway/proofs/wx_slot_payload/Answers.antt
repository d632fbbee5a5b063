-- `wx_slot_payload` meets its contract: it equals `Slot::payload`.
use Rattle.gateway.specs.Laws.{slot_part}
use Rattle.gateway.proofs.wx_slot_payload.Goals as goal

pub returns : goal.returns
returns c =
    slot_part c.args.state.now c.args.mem.now c.args.out.now _ c.slot_of-slot.ensures _ c.payload-n.ensures.is
