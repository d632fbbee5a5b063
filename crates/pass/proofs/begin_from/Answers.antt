-- `begin_from` meets its contract, which is its invariant: where no CR is left, nothing begins any more.
use Rattle.std.proofs.Common.{length, sym, ◌∙◌}
use Rattle.pass.proofs.Clears.{clear_join, clear_none}
use Rattle.pass.proofs.begin_from.Goals as goal

pub returns-in_default : goal.returns-in_default
returns-in_default c =
    clear_join c.args.s.now c.args.from c.loop-i.i (length c.args.s.now) c.loop-i.invariant.1 (clear_none c.args.s.now c.loop-i.i (length c.args.s.now) (sym c.find_cr.ensures ∙ c.in_default.is) c.loop-i.invariant.0)
