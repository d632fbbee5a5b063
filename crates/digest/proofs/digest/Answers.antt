-- `digest` meets its contract: the refusals in their order, then the digester; what it heard by the theorem.
use Rattle.std.proofs.Common.{ℕ, ◌≡◌, sym, ap, ◌∙◌, is_ok, arith}
use borrow.Author.Tests.{eqb-true}
use Rattle.outcome.specs.Outcome.{answered}
use Rattle.table.specs.Table.{ruling}
use Rattle.table.specs.Laws.{ruling_empty}
use Rattle.digest.specs.Calls.{found_good, digest_is, digest_heard}
use Rattle.digest.proofs.digest.Goals as goal
use Rattle.digest.proofs.digest.Goals.{then-not-is_empty+in_ok-map_err, else-not-is_empty}

-- the table is empty, or was found good
pub returns : goal.returns
returns c =
    let said = c.digest_in.ensures in
    let good : (n : ℕ) × (answered n ≡ ruling c.args.table.now) = elim c.if-not-is_empty.branch [
      | then-not-is_empty+in_ok-map_err w ↦ found_good _ _ w.check.ensures (sym w.map_err.ensures.variant ∙ ap is_ok w.in_ok-map_err.was)
      | else-not-is_empty w ↦ (0, ruling_empty c.args.table.now (eqb-true _ _ (sym c.is_empty.ensures ∙ w.if-not-is_empty.false)))
    ] in
    record {
      is = digest_is c.args.digester c.args.table.now c.args.input.now (omega arith) good.0 good.1 _ said;
      heard = digest_heard c.args.digester c.args.table.now c.args.input.now good.0 (sym good.1) _ said;
    }
