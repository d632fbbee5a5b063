-- `scan` meets its contract: it carries on what is fresh, and by the theorem its ends are the texts' first.
use Rattle.scan.proofs.Steps.{scan_is}
use Rattle.scan.proofs.scan.Goals as goal

pub returns : goal.returns
returns c =
    let w = scan_is c.args.from c.args.s.now _ c.extend.ensures in
    record { is = w.0; firsts = w.1 }
