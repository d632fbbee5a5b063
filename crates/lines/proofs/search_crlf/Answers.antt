-- `search_crlf` meets its contract: a short input's search promises it; in a long one none stands before the first CR.
use Rattle.std.proofs.Common.{sym, ◌∙◌}
use Rattle.text.specs.Bytes.{bytes}
use Rattle.text.specs.Steps.{find_here}
use Rattle.lines.specs.Laws.{find_front, find_no_front}
use Rattle.lines.specs.Lines.{crlf}
use Rattle.lines.proofs.search_crlf.Goals as goal

pub returns-in_err-p : goal.returns-in_err-p
returns-in_err-p c =
    let none = sym c.find_cr.ensures ∙ c.in_err-p.was in
    c.from_residual.ensures ∙ sym (find_no_front (bytes "\r") (bytes "\n") c.args.buf.now c.args.from none)

pub returns-then-matches_at : goal.returns-then-matches_at
returns-then-matches_at c =
    let first = sym c.find_cr.ensures ∙ c.in_ok-p.was in
    let here = find_here crlf c.args.buf.now c.in_ok-p.p (sym c.matches_at.ensures ∙ c.if-matches_at.true) in
    sym (find_front (bytes "\r") (bytes "\n") c.args.buf.now c.args.from c.in_ok-p.p first ∙ here)

pub returns : goal.returns
returns c =
    let first = sym c.find_cr.ensures ∙ c.in_ok-p.was in
    c.find-2.ensures ∙ sym (find_front (bytes "\r") (bytes "\n") c.args.buf.now c.args.from c.in_ok-p.p first)
