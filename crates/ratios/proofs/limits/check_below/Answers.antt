-- `ratios::limits::check_below` meets its contract: the lower of two numbers, both of the points as they came. Assumes nothing.
use Rattle.ratios.proofs.Calls.{below_lowest}
use Rattle.ratios.proofs.limits.check_below.Goals as goal

pub returns : goal.returns
returns c =
    let a = c.args in
    below_lowest a.cell.dimension a.cell.order a.cell.rows a.cell.side a.centre.now a.node_polynomials.now
    a.points.now a.values.now a.factors.now _ _ _ c.lower_of.ensures.number c.scaling_number-unscaled.ensures
    c.coefficients_number-unfound.ensures
