-- `say` meets its contract: the table, a payload that is too long, else what the call's own memory holds and what was heard of it.
use Rattle.std.proofs.Common.{◌∙◌, refl}
use Rattle.writer.specs.Laws.{say_bad, say_long, say_laid, written_part}
use Rattle.writer.proofs.say.Goals as goal

pub returns-in_err-check : goal.returns-in_err-check
returns-in_err-check c =
    say_bad c.args.table.now c.args.kind c.args.number c.args.payload.now c.args.out.now _ c.in_err-check.ensures _ c.from_residual.ensures.1

pub returns-then-payload-gt-LONGEST : goal.returns-then-payload-gt-LONGEST
returns-then-payload-gt-LONGEST c =
    say_long c.args.table.now c.args.kind c.args.number c.args.payload.now c.args.out.now _ c.in_ok-check.ensures c.if-payload-gt-LONGEST.true

pub returns : goal.returns
returns c =
    say_laid c.args.table.now c.args.kind c.args.number c.args.payload.now c.args.out.now _ c.in_ok-check.ensures _
    (c.text-bytes.ensures ∙ written_part c.args.kind c.args.number c.args.payload.now c.if-payload-gt-LONGEST.false _ _ _ refl c.put_answer.ensures.is) _
    c.heard_in-read.ensures _
    c.lay_out.ensures
