-- `nodes::check_nodes` meets its contract: each return by the tests that led there. Assumes nothing.
use mathlib.Core.Path.{sym, ◌∙◌}
use native.Mathlib.Omega.{arith}
use Rattle.common.proofs.Numbers.{handed_on, number_above}
use Rattle.nodes.proofs.Calls.{nodes_order, nodes_length, nodes_none}
use Rattle.nodes.proofs.check_nodes.Goals as goal

pub returns-in_err-check_order : goal.returns-in_err-check_order
returns-in_err-check_order c =
    let a = c.args in
    let e = c.in_err-check_order.ensures in
    handed_on _ _ c.from_residual.ensures.1 ∙ e
    ∙ nodes_order a.order a.size (λ z. omega (arith, number_above c.in_err-check_order.field-0.0, e ∙ z))

pub returns-then-size-order : goal.returns-then-size-order
returns-then-size-order c =
    let a = c.args in nodes_length a.order a.size (sym c.in_ok-check_order.ensures) c.if-size-order.true

pub returns : goal.returns
returns c = let a = c.args in nodes_none a.order a.size (sym c.in_ok-check_order.ensures) c.if-size-order.false
