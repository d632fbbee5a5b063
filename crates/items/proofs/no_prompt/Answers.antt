-- `no_prompt` meets its contract: the first places from e on are those from i on.
use Rattle.std.proofs.Common.{◌∙◌, arith}
use Rattle.text.specs.Bytes.{bytes}
use Rattle.text.specs.Laws.{find_late}
use Rattle.items.specs.Laws.{no_prompt_by}
use Rattle.items.proofs.no_prompt.Goals as goal

pub loop-i-preserved : goal.loop-i-preserved
loop-i-preserved c =
    let w = no_prompt_by c.args.s.now c.loop-i.i (omega arith) c.if-s-i.false in
    (c.loop-i.invariant.0 ∙ w.0, c.loop-i.invariant.1 ∙ w.1)

pub returns : goal.returns
returns c =
    (c.loop-i.invariant.0 ∙ find_late (bytes ">") c.args.s.now c.loop-i.i (omega arith) (omega arith), c.loop-i.invariant.1 ∙ find_late (bytes "@") c.args.s.now c.loop-i.i (omega arith) (omega arith))
