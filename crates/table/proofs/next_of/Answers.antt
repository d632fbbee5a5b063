-- `next_of` meets its contract: what is sought from `at` on is sought from `place` on. Marks are the same where their numbers are.
use mathlib.Core.Path.{◌≡◌, refl, ◌∙◌}
use denote.Enum.Bare.{sameb}
use denote.Enum.Declared.{tag_of}
use Rattle.table.specs.contracts.Mark.{the_type}
use Rattle.table.specs.declared.Mark.{Mark}
use Rattle.table.specs.declared.Mark.TheVariants.{Notice, Success, Error, Prompt}
use Rattle.table.specs.Table.{mark_number, same_mark}
use Rattle.table.specs.Laws.{next_is, next_more}
use Rattle.table.proofs.next_of.Goals as goal

numbered : (m : Mark) → tag_of the_type m ≡ mark_number m
numbered Notice = refl
numbered Success = refl
numbered Error = refl
numbered Prompt = refl

same_is : (a b : Mark) → sameb the_type a b ≡ same_mark a b
same_is a b = rw (numbered a, numbered b)

pub returns-then-eq : goal.returns-then-eq
returns-then-eq c =
    next_is _ _ _ _ c.loop-k.place c.loop-k.k c.loop-k.invariant c.loop-k-test.true _ c.record_at.ensures _ c.in-Is.is _ (c.eq.ensures ∙ same_is _ _) c.if-eq.true

pub loop-k-preserved : goal.loop-k-preserved
loop-k-preserved c =
    next_more _ _ _ _ c.loop-k.place c.loop-k.k c.loop-k.invariant c.loop-k-test.true _ c.record_at.ensures _ c.in-Is.is _ (c.eq.ensures ∙ same_is _ _) c.if-eq.false
