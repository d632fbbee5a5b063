-- `notice_text` meets its contract: what stands at a place lies in the input.
use mathlib.Core.Path.{sym, ◌∙◌}
use Prim.Native.Nat.{◌+◌}
use lib.ListN.{length}
use Rattle.text.specs.Bytes.{bytes}
use Rattle.text.specs.Laws.{found_at, stands_fits, stands_within}
use Rattle.lines.specs.Lines.{crlf}
use native.Mathlib.Omega.{arith}
use Rattle.parser.proofs.notice_text.Goals as goal

pub overflow_add-end : goal.overflow_add-end
overflow_add-end c =
    record { fits = omega (arith, stands_within c.args.x.now c.args.buf.now c.args.at 18446744073709551615 (omega arith) (omega arith) (sym c.matches_at.ensures ∙ c.if-not-matches_at.false)) }

pub overflow_add-result : goal.overflow_add-result
overflow_add-result c =
    record { fits = omega (arith, stands_fits crlf c.args.buf.now (c.args.at + length c.args.x.now) (omega arith) (sym c.matches_at-2.ensures ∙ c.if-matches_at.true)) }

pub overflow_add-end-2 : goal.overflow_add-end-2
overflow_add-end-2 c =
    record { fits = omega (arith, stands_fits (bytes ":") c.args.buf.now (c.args.at + length c.args.x.now) (omega arith) (sym c.matches_at-3.ensures ∙ c.if-not-matches_at-2.false)) }

pub overflow_add-result-in-Some : goal.overflow_add-result-in-Some
overflow_add-result-in-Some c =
    record { fits = omega (arith, stands_fits crlf c.args.buf.now c.in-Some.k (omega arith) (found_at crlf c.args.buf.now _ _ (sym c.find.ensures ∙ c.in-Some.is)).here) }
