-- `operators::get_m2m_transfer_operators` meets its contract: refused, or filled. Assumes nothing.
use mathlib.Core.Path.{sym, refl, ◌∙◌}
use native.Mathlib.Omega.{arith}
use lib.ListN.{length}
use Rattle.common.proofs.Numbers.{handed_on, number_above}
use Rattle.operators.proofs.Calls.{Lengths, operators_accepted, operators_refused, operators_done}
use Rattle.operators.proofs.get_m2m_transfer_operators.Goals.{In_ok-check_operators}
use Rattle.operators.proofs.get_m2m_transfer_operators.Goals as goal

-- past the tests the lengths are as stated
ok : (c : In_ok-check_operators) →
    let a = c.args in Lengths a.order (length a.nodes.now) (length a.node_polynomials.now) (length a.operators.now)
ok c = operators_accepted c.args.order _ _ _ (sym c.in_ok-check_operators.ensures)

pub returns-in_err-check_operators : goal.returns-in_err-check_operators
returns-in_err-check_operators c =
    let a = c.args in
    let e = handed_on _ _ c.from_residual.ensures.1 in
    operators_refused a.order a.nodes.now a.node_polynomials.now a.operators.now _ (e ∙ c.in_err-check_operators.ensures)
    (λ z. omega (arith, number_above c.in_err-check_operators.field-0.0, e, z))

pub fill_operators-requires : goal.fill_operators-requires
fill_operators-requires c =
    let h = ok (goal.at.fill_operators-requires c).In_ok-check_operators in
    rw h.nodes (h.order_most, h.polynomials, h.operators)

pub returns : goal.returns
returns c =
    let a = c.args in
    let h = ok (goal.at.returns c).In_ok-check_operators in
    operators_done a.order a.nodes.now a.node_polynomials.now a.operators.now _ c.in_ok-check_operators.ensures _ refl
    (rw h.nodes at c.fill_operators.ensures)
