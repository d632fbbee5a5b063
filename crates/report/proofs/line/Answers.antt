-- `line` meets its contract: its four texts one after the other.
use Rattle.std.proofs.Common.{◌∙◌, sym, ap, length, arith}
use Rattle.ink.specs.Laws.{same_text, ink_length}
use Rattle.report.specs.Report.{spaced}
use Rattle.report.specs.Laws.{line_none, name_room, value_room, line_some}
use Rattle.report.proofs.line.Goals as goal

pub returns-then-not-is_found-clause-is : goal.returns-then-not-is_found-clause-is
returns-then-not-is_found-clause-is c =
    line_none c.args.a c.args.s.now c.args.page.now.out.now c.args.page.now.at (sym c.is_found.ensures ∙ c.if-not-is_found.true)

pub spaced-requires : goal.spaced-requires
spaced-requires c =
    omega (arith, name_room c.args.a c.args.s.now c.args.page.now.out.now c.args.page.now.at c.requires _ _ c.decimal.ensures.is (ink_length _ _ _ _ _ c.decimal.ensures.is), ap length c.name.ensures)

pub value-requires : goal.value-requires
value-requires c =
    value_room c.args.a c.args.s.now c.args.page.now.out.now c.args.page.now.at c.requires _ _ c.decimal.ensures.is (ink_length _ _ _ _ _ c.decimal.ensures.is) _ _
    (same_text _ _ _ _ _ c.spaced.ensures.is (ap spaced c.name.ensures)) (ink_length _ _ _ _ _ c.spaced.ensures.is) _ c.carried-part.ensures _ c.payload-p.ensures.is

pub returns-clause-is : goal.returns-clause-is
returns-clause-is c =
    line_some c.args.a c.args.s.now c.args.page.now.out.now c.args.page.now.at c.requires _ _ c.decimal.ensures.is (ink_length _ _ _ _ _ c.decimal.ensures.is) _ _
    (same_text _ _ _ _ _ c.spaced.ensures.is (ap spaced c.name.ensures)) (ink_length _ _ _ _ _ c.spaced.ensures.is) _ c.carried-part.ensures _ c.payload-p.ensures.is _ _
    c.value.ensures.is (ink_length _ _ _ _ _ c.value.ensures.is) (sym c.is_found.ensures ∙ c.if-not-is_found.false) _ c.words.ensures.is
