-- `operators::check_operators` meets its contract: each return by the tests that led there. Assumes nothing.
use mathlib.Core.Path.{sym, ◌∙◌}
use Prim.Native.Nat.{◌+◌}
use native.Mathlib.Nat.{mul-le-mul}
use native.Mathlib.Omega.{arith}
use Rattle.common.proofs.Limits.{order_taken}
use Rattle.common.proofs.Numbers.{handed_on, number_above}
use Rattle.operators.proofs.Calls.{operators_order, operators_nodes, operators_polynomials, operators_length, operators_none}
use Rattle.operators.proofs.check_operators.Goals.{then-nodes-order-via-then-nodes-order}
use Rattle.operators.proofs.check_operators.Goals.{then-nodes-order-via-else-nodes-order+then-polynomials-order}
use Rattle.operators.proofs.check_operators.Goals.{then-nodes-order-via-else-nodes-order+else-polynomials-order+then-operators-order}
use Rattle.operators.proofs.check_operators.Goals as goal

pub returns-in_err-check_order : goal.returns-in_err-check_order
returns-in_err-check_order c =
    let a = c.args in
    let e = c.in_err-check_order.ensures in
    handed_on _ _ c.from_residual.ensures.1 ∙ e
    ∙ operators_order a.order a.nodes a.polynomials a.operators
    (λ z. omega (arith, number_above c.in_err-check_order.field-0.0, e ∙ z))

pub overflow_mul-order : goal.overflow_mul-order
overflow_mul-order c =
    let a = c.args in
    let ok = order_taken a.order (sym c.in_ok-check_order.ensures) in
    omega (arith, mul-le-mul {n₁ = a.order} {m₁ = a.order} {n₂ = 16} {m₂ = 16} ok.1 ok.1)

pub overflow_add-order : goal.overflow_add-order
overflow_add-order c = let ok = order_taken c.args.order (sym c.in_ok-check_order.ensures) in omega arith

pub overflow_mul-order-else-polynomials-order : goal.overflow_mul-order-else-polynomials-order
overflow_mul-order-else-polynomials-order c =
    let a = c.args in
    let ok = order_taken a.order (sym c.in_ok-check_order.ensures) in
    omega (arith, mul-le-mul {n₁ = a.order + a.order} {m₁ = a.order} {n₂ = 32} {m₂ = 16} (omega arith) ok.1)

pub returns-then-nodes-order : goal.returns-then-nodes-order
returns-then-nodes-order c =
    let a = c.args in
    let ok = sym c.in_ok-check_order.ensures in
    elim c.then-nodes-order.branch [
      | then-nodes-order-via-then-nodes-order w ↦ operators_nodes a.order a.nodes a.polynomials a.operators ok w.if-nodes-order.true
      | then-nodes-order-via-else-nodes-order+then-polynomials-order w ↦
          operators_polynomials a.order a.nodes a.polynomials a.operators ok w.if-nodes-order.false w.if-polynomials-order.true
      | then-nodes-order-via-else-nodes-order+else-polynomials-order+then-operators-order w ↦
          operators_length a.order a.nodes a.polynomials a.operators ok w.if-nodes-order.false w.if-polynomials-order.false
          w.if-operators-order.true
    ]

pub returns : goal.returns
returns c =
    let a = c.args in
    operators_none a.order a.nodes a.polynomials a.operators (sym c.in_ok-check_order.ensures) c.if-nodes-order.false
    c.if-polynomials-order.false c.if-operators-order.false
