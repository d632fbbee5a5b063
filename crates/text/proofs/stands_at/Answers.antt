-- `stands_at` meets its contract: whether t stands at `at` is whether its rest from k on stands k further on.
use mathlib.Core.Path.{sym, ◌∙◌}
use Prim.Native.Nat.{◌+◌}
use lib.ListN.{drop}
use borrow.Author.Tests.{eqb-true, eqb-false}
use Rattle.text.specs.Text.{stands}
use Rattle.text.specs.Steps.{begins_more, begins_stop, begins_end}
use native.Mathlib.Nat.{add-zero, add_assoc}
use native.Mathlib.Omega.{arith}
use Rattle.text.proofs.stands_at.Goals as goal

pub loop-k-init : goal.loop-k-init
loop-k-init c = (omega arith, (omega arith, rw add-zero))

pub returns-then-not-same : goal.returns-then-not-same
unfolding stands
returns-then-not-same c =
    sym (c.loop-k.invariant.1.1 ∙ begins_stop c.args.t.now c.args.s.now c.loop-k.k (c.args.at + c.loop-k.k) (omega arith) (omega arith) (eqb-false _ _ (sym c.same.ensures ∙ c.if-not-same.true)))

pub loop-k-preserved : goal.loop-k-preserved
loop-k-preserved c =
    (omega arith, (omega arith, c.loop-k.invariant.1.1 ∙ begins_more c.args.t.now c.args.s.now c.loop-k.k (c.args.at + c.loop-k.k) (omega arith) (omega arith) (eqb-true _ _ (sym c.same.ensures ∙ c.if-not-same.false)) ∙ rw add_assoc))

pub returns : goal.returns
unfolding stands
returns c =
    sym (c.loop-k.invariant.1.1 ∙ begins_end c.args.t.now (drop (c.args.at + c.loop-k.k) c.args.s.now) c.loop-k.k c.loop-k-test.false)
