-- `report` meets its contract: its texts one after the other, for which there is room. The page holds the caller's memory all along.
use Rattle.std.proofs.Common.{rules, ◌∙◌}
use Rattle.ink.specs.Laws.{ink_length, handed_back}
use Rattle.report.specs.Laws.{draw_length, lines_length, lines_room, left_room, report_short, report_long, report_is}
use Rattle.report.proofs.report.Goals as goal

pub returns-then-out-lt-ROOM : goal.returns-then-out-lt-ROOM
returns-then-out-lt-ROOM c =
    report_short c.args.input.now c.args.out.now c.if-out-lt-ROOM.true

pub returns-then-input-gt-LONGEST : goal.returns-then-input-gt-LONGEST
returns-then-input-gt-LONGEST c =
    let place = c.words.ensures.place in
    report_long c.args.input.now c.args.out.now c.if-out-lt-ROOM.false c.if-input-gt-LONGEST.true _ (handed_back _ _ _ _ (search rules) c.words.ensures.is)

pub draw-left-requires : goal.draw-left-requires
draw-left-requires c =
    lines_room c.args.input.now c.args.out.now c.if-out-lt-ROOM.false c.if-input-gt-LONGEST.false _ _ c.words-2.ensures.is (ink_length _ _ _ _ _ c.words-2.ensures.is)

pub number-requires : goal.number-requires
number-requires c =
    left_room c.args.input.now c.args.out.now c.if-out-lt-ROOM.false c.if-input-gt-LONGEST.false _ _ c.words-2.ensures.is (ink_length _ _ _ _ _ c.words-2.ensures.is) (lines_length c.args.input.now) _ _ _
    c.draw-left.ensures.is (draw_length _ _ _ _ _ _ c.draw-left.ensures.is) _ _ c.words-3.ensures.is (ink_length _ _ _ _ _ c.words-3.ensures.is)

pub returns : goal.returns
returns c =
    let place = c.words-4.ensures.place ∙ c.number.ensures.place ∙ c.words-3.ensures.place ∙ c.draw-left.ensures.place ∙ c.words-2.ensures.place in
    report_is c.args.input.now c.args.out.now c.if-out-lt-ROOM.false c.if-input-gt-LONGEST.false _ _ c.words-2.ensures.is (ink_length _ _ _ _ _ c.words-2.ensures.is) (lines_length c.args.input.now) _ _ _
    c.draw-left.ensures.is (draw_length _ _ _ _ _ _ c.draw-left.ensures.is) _ _ c.words-3.ensures.is (ink_length _ _ _ _ _ c.words-3.ensures.is) _ _ c.number.ensures.is (ink_length _ _ _ _ _ c.number.ensures.is) _
    (handed_back _ _ _ _ (search rules) c.words-4.ensures.is)
