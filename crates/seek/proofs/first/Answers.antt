-- `first` meets its contract: what the loop found tells the search.
use Rattle.std.proofs.Common.{◌≡◌, ◌∙◌, arith}
use Rattle.seek.specs.Laws.{first_none, first_found}
use Rattle.seek.proofs.first.Goals as goal

pub returns-then-m : goal.returns-then-m
returns-then-m c =
    let e : c.loop-j.j ≡ 64 = omega arith in
    first_none c.args.s.now c.args.at 64 _ (rw e at c.loop-j.invariant.1) c.requires (omega arith) c.if-m.true

pub returns : goal.returns
returns c =
    let e : c.loop-j.j ≡ 64 = omega arith in
    first_found c.args.s.now c.args.at 64 _ (rw e at c.loop-j.invariant.1) c.requires (omega arith) c.if-m.false
    ∙ rw c.from-2.ensures
