-- `coordinates::scaling::scale_points` meets its contract: refused, or scaled. Assumes nothing.
use mathlib.Core.Path.{refl, sym, ◌∙◌}
use native.Mathlib.Omega.{arith}
use Rattle.common.proofs.Numbers.{handed_on, number_above}
use Rattle.coordinates.proofs.Scalings.{scaling_taken, scale_refused, scale_done}
use Rattle.coordinates.proofs.scaling.scale_points.Goals as goal

pub returns-in_err-scaling_number : goal.returns-in_err-scaling_number
returns-in_err-scaling_number c =
    let a = c.args in
    let e = handed_on _ _ c.from_residual.ensures.1 in
    scale_refused a.dimension a.rows a.side a.centre.now a.points.now _ (e ∙ c.in_err-scaling_number.ensures)
    (λ z. omega (arith, number_above c.in_err-scaling_number.field-0.0, e, z))

pub scale_axes-requires : goal.scale_axes-requires
scale_axes-requires c =
    let a = c.args in
    let is = scaling_taken a.dimension a.rows a.side a.centre.now a.points.now (sym c.in_ok-scaling_number.ensures) in
    (is.dimension_most, is.axes, is.long)

pub returns : goal.returns
returns c =
    let a = c.args in
    scale_done a.dimension a.rows a.side a.centre.now a.points.now _ c.in_ok-scaling_number.ensures _ refl c.scale_axes.ensures
