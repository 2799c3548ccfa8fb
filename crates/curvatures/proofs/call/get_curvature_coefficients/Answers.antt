-- `curvatures::call::get_curvature_coefficients` meets its contract: refused, or filled. Assumes nothing.
use mathlib.Core.Path.{refl, sym, ◌∙◌}
use native.Mathlib.Omega.{arith}
use Rattle.common.proofs.Numbers.{handed_on, number_above}
use Rattle.curvatures.specs.Curvatures.{Memory}
use Rattle.curvatures.proofs.Calls.{call_admitted, curvature_refused, curvature_done}
use Rattle.curvatures.proofs.call.get_curvature_coefficients.Goals.{Start}
use Rattle.curvatures.proofs.call.get_curvature_coefficients.Goals as goal

abbrev lent : Start → Memory
lent s = let a = s.args in (a.curvatures.now, a.factors.now, a.slopes.now, a.bends.now, a.room.now)

pub returns-in_err-grid : goal.returns-in_err-grid
returns-in_err-grid c =
    let a = c.args in
    let e = handed_on _ _ c.from_residual.ensures.1 in
    curvature_refused a.dimension a.order a.rows a.side a.node_polynomials.now a.coordinates.now
    (lent (goal.at.returns-in_err-grid c).Start) _ (e ∙ c.in_err-grid.ensures.number)
    (λ z. omega (arith, number_above c.in_err-grid.field-0.0, e, z))

pub fill_curvatures-requires : goal.fill_curvatures-requires
fill_curvatures-requires c =
    let a = c.args in
    let is = c.in_ok-grid.ensures.grid in
    rw (is.0, is.1, is.3) (call_admitted a.dimension a.order a.rows a.side a.node_polynomials.now a.coordinates.now
    (lent (goal.at.fill_curvatures-requires c).Start) (sym c.in_ok-grid.ensures.number)).2

pub returns : goal.returns
returns c =
    let a = c.args in
    let is = c.in_ok-grid.ensures.grid in
    curvature_done a.dimension a.order a.rows a.side a.node_polynomials.now a.coordinates.now (lent (goal.at.returns c).Start) _
    c.in_ok-grid.ensures.number _ refl (rw (is.0, is.1, is.2, is.3) at c.fill_curvatures.ensures)
