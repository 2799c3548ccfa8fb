-- `coefficients::call::fill_coefficients` meets its contract: one step after the other. Assumes nothing.
use mathlib.Core.Path.{◌∙◌}
use Prim.Native.Nat.{◌*◌, ◌^◌}
use native.Mathlib.Omega.{arith}
use Rattle.common.specs.Matrices.{matrix}
use Rattle.axes.proofs.Stretches.{wanted_fits}
use Rattle.coefficients.proofs.Stretches.{axis_side, nodes_side}
use Rattle.coefficients.proofs.Result.{memory_right}
use Rattle.coefficients.proofs.call.fill_coefficients.Goals as goal

pub fill_axes-requires : goal.fill_axes-requires
fill_axes-requires c =
    let h = c.requires in
    let a = c.args in
    let nodes = nodes_side a.grid.shape.dimension a.grid.shape.order a.grid.rows a.grid.shape.taken.order_least a.grid.shape.taken.dimension_least in
    let room = axis_side a.grid.shape.dimension (a.grid.shape.order ^ a.grid.shape.dimension) a.grid.rows a.grid.shape.taken.dimension_least in
    record {
      points = h.coordinates;
      polynomials = h.polynomials;
      values = omega (arith, nodes, h.values);
      gradients = wanted_fits a.is_derived _ (a.grid.shape.dimension * a.grid.shape.order ^ a.grid.shape.dimension * a.grid.rows) _
          (omega (arith, nodes, room)) h.gradients;
      factors = h.factors;
      slopes = h.slopes;
    }

pub fill_gradients-requires : goal.fill_gradients-requires
fill_gradients-requires c =
    let h = c.requires in
    let kept = c.fill_axes.auto in (
      kept.slopes ∙ h.slopes,
      kept.factors ∙ h.factors,
      kept.gradients ∙ h.gradients,
    )

pub fill_started-requires : goal.fill_started-requires
fill_started-requires c =
    let h = c.requires in
    let factors = c.fill_axes.auto.factors ∙ h.factors in
    (c.args.grid.shape.taken.dimension_least, factors, factors, c.fill_axes.auto.values ∙ h.values)

pub shape_of-gradients : goal.shape_of-gradients
shape_of-gradients c =
    c.fill_gradients.auto.gradients
    ∙ c.fill_axes.auto.gradients

pub returns : goal.returns
returns c =
    let h = c.requires in
    let a = c.args in
    let call = c.fill_axes in
    memory_right a.grid.shape.dimension a.grid.shape.order a.grid.rows a.node_polynomials.now
    (matrix a.grid.rows a.coordinates.now) a.grid.shape.taken.order_least a.grid.side a.is_derived a.grid.shape.taken.dimension_least
    _ _ _ _ a.slopes.now _ call.ensures.0 h.slopes call.ensures.1 (call.auto.gradients ∙ h.gradients)
    c.fill_gradients.ensures c.fill_started.ensures
