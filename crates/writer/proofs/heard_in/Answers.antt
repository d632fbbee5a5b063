-- `heard_in` meets its contract: by what the digest answered.
use Rattle.std.proofs.Common.{◌∙◌, sym, ap}
use Rattle.answers.specs.Answer.{outcome}
use Rattle.writer.specs.Laws.{heard_answered, heard_failed}
use Rattle.writer.proofs.heard_in.Goals as goal

pub returns-in-Ok : goal.returns-in-Ok
returns-in-Ok c =
    heard_answered c.args.kind c.args.number c.args.payload.now c.args.bytes.now _ _ (ap outcome (sym c.in-Ok.is) ∙ c.digest.ensures.is) _ c.heard_as.ensures

pub returns-in-Err : goal.returns-in-Err
returns-in-Err c =
    heard_failed c.args.kind c.args.number c.args.payload.now c.args.bytes.now _ _ (ap outcome (sym c.in-Err.is) ∙ c.digest.ensures.is)
