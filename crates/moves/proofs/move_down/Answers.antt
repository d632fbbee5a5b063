-- `move_down` meets its contract: a byte that is copied is one that no turn has reached.
use Rattle.std.proofs.Common.{◌≡◌, ◌+◌, ◌-◌, get_or, drop, sym, ◌∙◌, length-drop, get_or-drop, arith}
use Rattle.std.proofs.Math.Seq.{paste}
use Rattle.moves.specs.Laws.{moved_all, front_more, paste_later}
use Rattle.moves.proofs.move_down.Goals as goal

pub loop-j-preserved : goal.loop-j-preserved
loop-j-preserved c =
    let n = c.args.n in
    let j = c.loop-j.j in
    let b = c.args.buf.now in
    let e : get_or (paste b 0 (drop n b) j) (n + j) 0 ≡ get_or (drop n b) j 0 = paste_later b (drop n b) j (n + j) (omega (arith, length-drop n b)) (omega arith) ∙ sym (get_or-drop n b j 0) in
    rw c.loop-j.invariant (front_more b (drop n b) j _ e (omega (arith, length-drop n b)) (omega (arith, length-drop n b)))

pub returns-after-loop-j : goal.returns-after-loop-j
returns-after-loop-j c =
    let e : c.loop-j.j ≡ c.args.end - c.args.n = omega arith in
    rw (c.loop-j.invariant, e) (moved_all c.args.buf.now c.args.n c.args.end (omega arith) (omega arith))
