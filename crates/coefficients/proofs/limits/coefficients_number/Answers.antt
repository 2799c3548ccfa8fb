-- `coefficients::limits::coefficients_number` meets its contract: what the search for a grid answers, without the grid. Assumes nothing.
use mathlib.Core.Path.{◌∙◌}
use Rattle.common.proofs.Numbers.{handed_on}
use Rattle.coefficients.proofs.limits.coefficients_number.Goals as goal

pub returns-in_err-grid_of : goal.returns-in_err-grid_of
returns-in_err-grid_of c = handed_on _ _ c.from_residual.ensures.1 ∙ c.in_err-grid_of.ensures.number

pub returns : goal.returns
returns c = c.in_ok-grid_of.ensures.number
