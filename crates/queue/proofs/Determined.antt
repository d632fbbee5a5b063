-- Any two results that a contract of this crate allows are equal, every byte of lent memory too.
use mathlib.Core.Path.{◌≡◌, sym, ◌∙◌}
use denote.RattleType.{RattleType}
use denote.Param.Laws.{Laws}
use mir.Syntax.{Dict}
use Rattle.outcome.specs.One.{Alike, One}
use Rattle.queue.specs.Queue.{outcome}
use Rattle.queue.specs.Laws.{outcome_one, after_one, taking_one}
use Rattle.queue.specs.declared.Form.{Ghosts}
use Rattle.queue.proofs as calls

pub capacity_one : One calls.capacity.Reads.Post
capacity_one κs a r q s t h g = h ∙ sym g

pub new_one : One calls.Queue.new.Reads.Post
new_one κs a r q s t h g = h ∙ sym g

pub is_bounded_one : One calls.Queue.is_bounded.Reads.Post
is_bounded_one κs a r q s t h g = h ∙ sym g

pub write_record_one : Alike calls.write_record.Reads.Post (λ κs r q s t. s.0.now ≡ t.0.now)
write_record_one κs a r q s t h g = h ∙ sym g

pub put_one : Alike calls.Queue.put.Reads.Post (λ κs r q s t. (r ≡ q) × (s.1.0.now ≡ t.1.0.now))
put_one κs a r q s t h g = after_one outcome outcome_one _ r q _ _ h g

pub take_one_lem : One calls.Queue.take.Reads.Post
take_one_lem κs a r q s t h g = taking_one r q (h ∙ sym g)

-- of every form of records
pub capacity_in_one : (F : RattleType) (l : Laws F) (g : Ghosts F.Denot) (d : Dict) → let post = calls.capacity_in.Reads.Post F l g d in One post
capacity_in_one F l g d κs a r q s t h e = h ∙ sym e

pub notice_at_one : (F : RattleType) (l : Laws F) (g : Ghosts F.Denot) (d : Dict) → let post = calls.notice_at.Reads.Post F l g d in One post
notice_at_one F l g d κs a r q s t h e = h ∙ sym e
