-- `begin` meets its contract: each way does, and a CRLF at which nothing may begin is passed over.
use Rattle.std.proofs.Common.{sym, ◌∙◌}
use Rattle.pass.proofs.Clears.{clear_crlf}
use Rattle.pass.proofs.begin.Goals as goal

pub returns : goal.returns
returns c =
    clear_crlf c.args.s.now c.args.from _ (sym c.may_begin.ensures ∙ c.if-may_begin.false) c.if-s-from-ne10.false c.begin_from-2.ensures
