-- `chebyshev::polynomials::check_polynomials` meets its contract: each return by the tests that led there. Assumes nothing.
use mathlib.Core.Path.{sym, ◌∙◌}
use native.Mathlib.Nat.{mul-le-mul}
use native.Mathlib.Omega.{arith}
use Rattle.common.proofs.Limits.{order_taken}
use Rattle.common.proofs.Numbers.{handed_on, number_above}
use Rattle.chebyshev.proofs.Calls.{polynomials_order, polynomials_count, polynomials_points, polynomials_values, polynomials_slopes}
use Rattle.chebyshev.proofs.Calls.{polynomials_none}
use Rattle.chebyshev.proofs.polynomials.check_polynomials.Goals.{then-points-rows-via-then-points-rows}
use Rattle.chebyshev.proofs.polynomials.check_polynomials.Goals.{then-points-rows-via-else-points-rows+then-tn-order}
use Rattle.chebyshev.proofs.polynomials.check_polynomials.Goals.{then-points-rows-via-else-points-rows+else-tn-order+then-dtn-size_if}
use Rattle.chebyshev.proofs.polynomials.check_polynomials.Goals as goal

pub returns-in_err-check_order : goal.returns-in_err-check_order
returns-in_err-check_order c =
    let a = c.args in
    let e = c.in_err-check_order.ensures in
    handed_on _ _ c.from_residual.ensures.1 ∙ e
    ∙ polynomials_order a.order a.rows a.with_derivatives a.points a.tn a.dtn
    (λ z. omega (arith, number_above c.in_err-check_order.field-0.0, e ∙ z))

pub returns-then-rows-gt-MOST_POINTS : goal.returns-then-rows-gt-MOST_POINTS
returns-then-rows-gt-MOST_POINTS c =
    let a = c.args in
    polynomials_count a.order a.rows a.with_derivatives a.points a.tn a.dtn (sym c.in_ok-check_order.ensures)
    c.if-rows-gt-MOST_POINTS.true

pub overflow_mul-order : goal.overflow_mul-order
overflow_mul-order c =
    let a = c.args in
    let ok = order_taken a.order (sym c.in_ok-check_order.ensures) in
    omega (arith, mul-le-mul {n₁ = a.order} {m₁ = a.rows} {n₂ = 16} {m₂ = 4096} ok.1 c.if-rows-gt-MOST_POINTS.false)

pub returns-then-points-rows : goal.returns-then-points-rows
returns-then-points-rows c =
    let a = c.args in
    let ok = sym c.in_ok-check_order.ensures in
    let few = c.if-rows-gt-MOST_POINTS.false in
    elim c.then-points-rows.branch [
      | then-points-rows-via-then-points-rows w ↦
          polynomials_points a.order a.rows a.with_derivatives a.points a.tn a.dtn ok few w.if-points-rows.true
      | then-points-rows-via-else-points-rows+then-tn-order w ↦
          polynomials_values a.order a.rows a.with_derivatives a.points a.tn a.dtn ok few w.if-points-rows.false w.if-tn-order.true
      | then-points-rows-via-else-points-rows+else-tn-order+then-dtn-size_if w ↦
          polynomials_slopes a.order a.rows a.with_derivatives a.points a.tn a.dtn ok few w.if-points-rows.false w.if-tn-order.false
          (rw w.size_if.ensures at w.if-dtn-size_if.true)
    ]

pub returns : goal.returns
returns c =
    let a = c.args in
    polynomials_none a.order a.rows a.with_derivatives a.points a.tn a.dtn (sym c.in_ok-check_order.ensures)
    c.if-rows-gt-MOST_POINTS.false c.if-points-rows.false c.if-tn-order.false
    (rw c.size_if.ensures at c.if-dtn-size_if.false)
