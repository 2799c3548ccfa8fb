-- `aca::limits::fits` meets its contract: one comparison of all the lengths. Assumes nothing.
use Rattle.aca.specs.Runs.{fits}
use Rattle.aca.proofs.limits.fits.Goals as goal

pub returns : goal.returns
unfolding fits
returns c = rw (c.eq.ensures, c.listed.ensures, c.min-most.ensures)
