-- `judge` meets its contract: what the ingress refuses, and then the findings' length.
use Rattle.feed.specs.Laws.{fits_fails, fits_not, fits_so}
use Rattle.feed.proofs.judge.Goals as goal

pub returns-in_err-judge : goal.returns-in_err-judge
returns-in_err-judge c =
    fits_fails _ c.args.fits _ c.in_err-judge.ensures _ c.from_residual.ensures.1

pub returns-then-not-fits : goal.returns-then-not-fits
returns-then-not-fits c = fits_not _ c.args.fits c.in_ok-judge.ensures c.if-not-fits.true

pub returns : goal.returns
returns c = fits_so _ c.args.fits c.in_ok-judge.ensures c.if-not-fits.false
