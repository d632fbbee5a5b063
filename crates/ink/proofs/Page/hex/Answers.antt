-- Two digits more for each byte.
use Rattle.std.proofs.Common.{◌∙◌, arith}
use Rattle.ink.specs.Laws.{ink_length, hex_more}
use Rattle.ink.proofs.Page.hex.Goals as goal

pub loop-b-preserved : goal.loop-b-preserved
loop-b-preserved c = (
  hex_more _ _ _ _ _ _ c.loop-b.invariant.0 (omega (arith, c.if-room-self.false, c.if-room-self-2.false)) c.loop-b-test.true _ _ c.hex_digit.ensures c.hex_digit-in-loop-b.ensures _ _ c.words.ensures.is,
  c.words.ensures.place ∙ c.loop-b.invariant.1,
)

pub returns-clause-long : goal.returns-clause-long
returns-clause-long c = ink_length _ _ _ _ _ c.loop-b.invariant.0
