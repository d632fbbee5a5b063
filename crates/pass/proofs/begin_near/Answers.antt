-- `begin_near` meets its contract: nothing begins before p, nor where too few bytes follow.
use Rattle.std.proofs.Common.{length, arith}
use Rattle.pass.proofs.Clears.{clear_join, clear_end}
use Rattle.pass.proofs.begin_near.Goals as goal

pub returns : goal.returns
returns c =
    clear_join c.args.s.now c.args.from c.loop-p.p (length c.args.s.now) c.loop-p.invariant.1 (clear_end c.args.s.now c.loop-p.p c.loop-p.invariant.0 (omega arith))
