-- `notice_at` meets its contract: where the mark stands, the record begins within the memory.
use Rattle.std.proofs.Common.{◌≡◌, sym, ◌∙◌, ap, length, arith}
use Rattle.text.specs.Laws.{stands_fits}
use Rattle.queue.proofs.notice_at.Goals as goal

pub overflow_add-result : goal.overflow_add-result
overflow_add-result g c =
    let two : length c.MARK.result ≡ 2 = ap length (c.MARK.ensures ∙ g.met.F.Form.mark_is) ∙ g.met.F.Form.sound.marked in
    let within = stands_fits c.MARK.result c.args.mem.now c.args.base (omega (arith, two)) (sym c.matches_at.ensures ∙ c.if-not-matches_at.false) in
    record { fits = omega (arith, within, g.met.F.Form.sound.fits, g.met.F.Form.small, g.met.F.Form.head_is, c.HEAD.ensures) }
