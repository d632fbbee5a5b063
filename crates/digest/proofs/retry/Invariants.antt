use Rattle.std.proofs.Common.{◌≡◌, ◌+◌, ◌≤◌, None, length}
use Rattle.table.specs.Table.{tokens}
use Rattle.digest.specs.Digest.{after, digest_in}
use Rattle.digest.specs.Step.{seen_from, Handed}
use Rattle.digest.proofs.retry.Given as goal

abbrev pub invariant-loop-rest : goal.invariant-loop-rest
invariant-loop-rest l =
    (l.moved + length l.rest ≤ 4096)
    × Handed l.fn.digester (tokens l.table) l.rest l.e l.hints
    × (seen_from 0 (after l.fn.s (digest_in l.fn.digester (tokens l.table)) l.fn.e None) ≡ seen_from l.moved (after l.rest (digest_in l.fn.digester (tokens l.table)) l.e None))

abbrev pub decreases-loop-rest : goal.decreases-loop-rest
decreases-loop-rest l = length l.rest
