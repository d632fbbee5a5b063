-- `wx_feed_advance` meets its contract: it equals `feed::advance`, with what it answers laid into the numbers.
use Rattle.std.proofs.Common.{rules}
use Rattle.gateway.specs.Laws.{feed_advance_is}
use Rattle.gateway.proofs.wx_feed_advance.Goals as goal

pub returns : goal.returns
returns c =
    let places = c.advance-what.ensures.places in
    feed_advance_is c.args.state.now c.args.out.now _ c.state_of.ensures c.args.digester _ c.selector_of-chosen.ensures c.args.table.now c.args.buf.now c.args.slot_mem.now c.args.queue_mem.now c.advance-what.new.memories _ _ _ (search rules) (search rules) (search rules) _ _ _ c.args.findings.now _ c.args.commit c.advance-what.result c.advance-what.ensures.is c.lay_advanced.ensures
