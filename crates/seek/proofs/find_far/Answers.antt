-- `find_far` meets its contract: the passes leave the answer as it was, and the last step tells it.
use Rattle.std.proofs.Common.{sym, ◌∙◌, arith}
use Rattle.text.specs.Bytes.{bytes}
use Rattle.seek.specs.Laws.{less_same}
use Rattle.seek.proofs.find_far.Goals as goal

pub returns-in-Some : goal.returns-in-Some
returns-in-Some c =
    let same = less_same (bytes "\r") c.args.s.now c.args.from _ _ _ (omega arith) (c.pass_plain-plain.ensures.same ∙ c.pass-eight.ensures.same ∙ c.pass-four.ensures.same) c.min-at.ensures in
    sym (same ∙ c.in-Some.ensures)

pub returns : goal.returns
returns c =
    let same = less_same (bytes "\r") c.args.s.now c.args.from _ _ _ (omega arith) (c.pass_plain-plain.ensures.same ∙ c.pass-eight.ensures.same ∙ c.pass-four.ensures.same) c.min-at.ensures in
    c.find_byte.ensures ∙ sym (same ∙ c.in_default.ensures)
