-- `ratios::fill_values` meets its contract: both calls below accept, and leave what the one call would. Assumes nothing.
use Rattle.axes.proofs.Accepted.{taken}
use Rattle.ratios.proofs.Calls.{scale_taken, found_taken, values_made}
use Rattle.ratios.proofs.fill_values.Goals as goal

pub unwrap-requires : goal.unwrap-requires
unwrap-requires c =
    let a = c.args in
    taken _ (scale_taken a.cell.dimension a.cell.order a.cell.rows a.cell.side a.centre.now a.node_polynomials.now
    a.points.now a.values.now a.factors.now c.requires _ _ c.scale_points.ensures)

pub unwrap-requires-2 : goal.unwrap-requires-2
unwrap-requires-2 c =
    let a = c.args in
    taken _ (found_taken a.cell.dimension a.cell.order a.cell.rows a.cell.side a.centre.now a.node_polynomials.now
    a.points.now a.values.now a.factors.now c.requires _ _ _ _ c.scale_points.ensures c.get_approximation_coefficients.ensures)

pub returns : goal.returns
returns c =
    let call = c.get_approximation_coefficients in
    let a = c.args in
    values_made a.cell.dimension a.cell.order a.cell.rows a.cell.side a.centre.now a.node_polynomials.now
    a.points.now a.values.now a.factors.now c.requires _ _ _ _ _ _ _ c.scale_points.ensures
    call.auto.gradients call.auto.slopes call.ensures
