-- `wx_ingress_write` meets its contract: it equals `ingress::write`, with what it answers laid into the numbers.
use Rattle.std.proofs.Common.{rules}
use Rattle.gateway.specs.Laws.{write_is}
use Rattle.gateway.proofs.wx_ingress_write.Goals as goal

pub returns : goal.returns
returns c =
    let places = c.write-what.ensures.places in
    write_is c.args.state.now c.args.out.now _ c.state_of.ensures c.args.digester _ c.selector_of-chosen.ensures c.args.table.now c.args.buf.now c.args.slot_mem.now c.args.queue_mem.now c.write-what.new.memories _ _ _ (search rules) (search rules) (search rules) _ _ _ c.args.piece.now c.write-what.result c.write-what.ensures.is c.lay_written.ensures
