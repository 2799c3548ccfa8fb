-- `coefficients::limits::grid_of` meets its contract: the grid of a call with the lengths that were lent. Assumes nothing.
use Rattle.coefficients.specs.Coefficients.{coefficients_call}
use Rattle.coefficients.proofs.limits.grid_of.Goals as goal

pub returns-clause-number : goal.returns-clause-number
unfolding coefficients_call
returns-clause-number c = c.grid_with.ensures.number
