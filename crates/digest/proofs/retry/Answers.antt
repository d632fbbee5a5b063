-- `retry` meets its contract: what the digest gives of the suffix that is left, seen from the front, is what it gives of s. The measure is the suffix's length.
use Rattle.std.proofs.Common.{refl, sym, ◌∙◌, arith}
use Rattle.table.specs.Table.{tokens}
use Rattle.digest.specs.Step.{said_below, digest_done, done_within, next_is, next_hands, retry_stop, retry_length, retry_handed, retry_is}
use Rattle.digest.proofs.retry.Goals as goal

pub loop-rest-init : goal.loop-rest-init
loop-rest-init c = (omega arith, c.requires.1, refl)

pub seen_from-requires : goal.seen_from-requires
seen_from-requires c =
    let z = sym c.loop-rest-test.ensures in
    let l = retry_length c.args.digester (tokens c.args.table.now) c.loop-rest.rest.now c.loop-rest.e c.loop-rest.moved z in
    let w = said_below c.args.digester c.args.table.now _ _ (retry_handed c.args.digester (tokens c.args.table.now) c.loop-rest.rest.now c.loop-rest.e c.loop-rest.moved z _ c.loop-rest.invariant.1) _ c.level_below.ensures in
    (omega (arith, l), done_within _ _ _ _ w _ c.in-Break.is (omega (arith, l)))

pub returns-in-Break : goal.returns-in-Break
returns-in-Break c =
    let z = sym c.loop-rest-test.ensures in
    let w = said_below c.args.digester c.args.table.now _ _ (retry_handed c.args.digester (tokens c.args.table.now) c.loop-rest.rest.now c.loop-rest.e c.loop-rest.moved z _ c.loop-rest.invariant.1) _ c.level_below.ensures in
    c.seen_from.ensures
    ∙ retry_is c.args.digester (tokens c.args.table.now) c.loop-rest.rest.now c.loop-rest.e c.loop-rest.moved z _ (omega arith) _ (digest_done _ _ _ _ w _ c.in-Break.is)
    ∙ sym c.loop-rest.invariant.2

pub loop-rest-smaller : goal.loop-rest-smaller
loop-rest-smaller c =
    omega (arith, retry_length c.args.digester (tokens c.args.table.now) c.loop-rest.rest.now c.loop-rest.e c.loop-rest.moved (sym c.loop-rest-test.ensures))

pub loop-rest-preserved : goal.loop-rest-preserved
loop-rest-preserved c =
    let z = sym c.loop-rest-test.ensures in
    let l = retry_length c.args.digester (tokens c.args.table.now) c.loop-rest.rest.now c.loop-rest.e c.loop-rest.moved z in
    let w = said_below c.args.digester c.args.table.now _ _ (retry_handed c.args.digester (tokens c.args.table.now) c.loop-rest.rest.now c.loop-rest.e c.loop-rest.moved z _ c.loop-rest.invariant.1) _ c.level_below.ensures in (
      omega (arith, l),
      next_hands _ _ _ _ w _ _ c.in-Continue.is,
      c.loop-rest.invariant.2
          ∙ sym (retry_is c.args.digester (tokens c.args.table.now) c.loop-rest.rest.now c.loop-rest.e c.loop-rest.moved z _ (omega arith) _ (next_is _ _ _ _ w _ _ c.in-Continue.is)),
    )

pub returns : goal.returns
returns c =
    sym (c.loop-rest.invariant.2 ∙ retry_stop c.args.digester (tokens c.args.table.now) c.loop-rest.rest.now c.loop-rest.e c.loop-rest.moved (sym c.loop-rest-test.ensures))
