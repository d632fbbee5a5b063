-- A table of notices alone has no record to try.
use Rattle.std.proofs.Common.{sym, ◌∙◌}
use Rattle.quiet.specs.Steps.{custom_none}
use Rattle.quiet.proofs.no_custom.Goals as goal

pub returns-then-only_notices : goal.returns-then-only_notices
returns-then-only_notices c =
    c.if-only_notices.true ∙ sym (custom_none c.args.table.now c.args.s.now _ c.only_notices.ensures c.if-only_notices.true)
