-- `digest_in` meets its contract: the outermost level answered, or the retry goes on from it.
use Rattle.std.proofs.Common.{ap, ◌∙◌, arith, unwrap_or}
use Rattle.digest.specs.Step.{said, digest_done, next_hands, digest_next}
use Rattle.digest.proofs.digest_in.Goals as goal

pub retry-requires : goal.retry-requires
retry-requires c =
    (omega arith, next_hands _ _ _ _ (said c.args.digester c.args.table.now c.args.s.now c.requires _ c.level_first.ensures) _ _ c.in-Continue.is)

pub returns-in-Break : goal.returns-in-Break
returns-in-Break c = digest_done _ _ _ _ (said c.args.digester c.args.table.now c.args.s.now c.requires _ c.level_first.ensures) _ c.in-Break.is

pub returns-in-Continue : goal.returns-in-Continue
returns-in-Continue c =
    c.unwrap_or.ensures ∙ ap (unwrap_or c.retry.result) c.nothing.ensures
    ∙ digest_next _ _ _ _ (said c.args.digester c.args.table.now c.args.s.now c.requires _ c.level_first.ensures) _ _ c.in-Continue.is _ c.retry.ensures
