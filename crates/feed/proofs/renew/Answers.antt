-- `renew` meets its contract.
use Rattle.std.proofs.Common.{◌∙◌, ap}
use Rattle.findings.specs.Findings.{numbers_of, findings_of}
use Rattle.feed.specs.Laws.{renew_same, renew_afresh}
use Rattle.feed.proofs.renew.Goals as goal

pub returns-then-end-before : goal.returns-then-end-before
returns-then-end-before c =
    renew_same c.args.known c.args.before c.args.end c.args.memories.now.buf.now _ c.if-end-before.true c.lay.ensures

pub returns : goal.returns
returns c =
    renew_afresh c.args.known c.args.before c.args.end c.args.memories.now.buf.now _ c.if-end-before.false (c.lay-2.ensures ∙ ap numbers_of (c.start.ensures ∙ ap findings_of c.held.ensures))
