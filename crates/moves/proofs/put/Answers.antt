-- `put` meets its contract: byte after byte, p stands in the place of the bytes from `at` on.
use Rattle.std.proofs.Common.{◌≡◌, length, refl, arith}
use Rattle.moves.specs.Laws.{put_all, paste_more}
use Rattle.moves.proofs.put.Goals as goal

pub loop-i-preserved : goal.loop-i-preserved
loop-i-preserved c =
    rw c.loop-i.invariant (paste_more c.args.mem.now c.args.at c.args.p.now c.loop-i.i _ refl (omega arith) (omega arith))

pub returns-after-loop-i : goal.returns-after-loop-i
returns-after-loop-i c =
    let e : c.loop-i.i ≡ length c.args.p.now = omega arith in
    rw (c.loop-i.invariant, e) (put_all c.args.mem.now c.args.at c.args.p.now (omega arith))
