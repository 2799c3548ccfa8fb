-- `coefficients::call::get_approximation_coefficients` meets its contract: refused, or filled. Assumes nothing.
use mathlib.Core.Path.{refl, sym, ap, ◌∙◌}
use mathlib.Core.Bool.{Bool}
use native.Mathlib.Omega.{arith}
use Rattle.common.specs.Matrices.{matrix}
use Rattle.common.proofs.Numbers.{handed_on, number_above}
use Rattle.coefficients.specs.Working.{side_of, filled}
use Rattle.coefficients.proofs.Calls.{call_admitted, coefficients_refused, coefficients_done}
use Rattle.coefficients.proofs.Result.{wanted_filled}
use Rattle.coefficients.proofs.call.get_approximation_coefficients.Goals as goal

pub returns-in_err-grid : goal.returns-in_err-grid
returns-in_err-grid c =
    let a = c.args in
    let e = handed_on _ _ c.from_residual.ensures.1 in
    coefficients_refused a.dimension a.order a.rows a.wanted a.node_polynomials.now a.coordinates.now a.values.now
    a.gradients.now a.factors.now a.slopes.now _ (e ∙ c.in_err-grid.ensures.number)
    (λ z. omega (arith, number_above c.in_err-grid.field-0.0, e, z))

pub fill_coefficients-requires : goal.fill_coefficients-requires
fill_coefficients-requires c =
    let a = c.args in
    let is = c.in_ok-grid.ensures.grid in
    rw (is.0, is.1, is.3, c.with_gradients.ensures)
    (call_admitted a.dimension a.order a.rows a.wanted a.node_polynomials.now a.coordinates.now a.values.now
    a.gradients.now a.factors.now a.slopes.now (sym c.in_ok-grid.ensures.number))

pub returns : goal.returns
returns c =
    let a = c.args in
    let is = c.in_ok-grid.ensures.grid in
    let x = matrix a.rows a.coordinates.now in
    coefficients_done a.dimension a.order a.rows a.wanted a.node_polynomials.now a.coordinates.now a.values.now
    a.gradients.now a.factors.now a.slopes.now _ c.in_ok-grid.ensures.number _ refl
    (rw (is.0, is.1, is.2, is.3) at c.fill_coefficients.ensures
    ∙ ap (λ (b : Bool). filled a.dimension a.order a.rows (side_of a.wanted) b a.node_polynomials.now x) c.with_gradients.ensures
    ∙ wanted_filled a.dimension a.order a.rows a.wanted a.node_polynomials.now x)
