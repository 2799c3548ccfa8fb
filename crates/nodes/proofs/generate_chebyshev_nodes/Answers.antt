-- `nodes::generate_chebyshev_nodes` meets its contract: refused, or filled. Assumes nothing.
use mathlib.Core.Path.{sym, refl, ◌∙◌}
use native.Mathlib.Omega.{arith}
use Rattle.common.proofs.Numbers.{handed_on, number_above}
use Rattle.nodes.proofs.Calls.{nodes_accepted, nodes_refused, nodes_done}
use Rattle.nodes.proofs.generate_chebyshev_nodes.Goals as goal

pub returns-in_err-check_nodes : goal.returns-in_err-check_nodes
returns-in_err-check_nodes c =
    let a = c.args in
    let e = handed_on _ _ c.from_residual.ensures.1 in
    nodes_refused a.order a.nodes.now _ (e ∙ c.in_err-check_nodes.ensures)
    (λ z. omega (arith, number_above c.in_err-check_nodes.field-0.0, e, z))

pub fill_nodes-requires : goal.fill_nodes-requires
fill_nodes-requires c =
    let t = nodes_accepted c.args.order _ (sym c.in_ok-check_nodes.ensures) in rw t.2 (t.0, t.1)

pub returns : goal.returns
returns c =
    let a = c.args in
    let t = nodes_accepted a.order _ (sym c.in_ok-check_nodes.ensures) in
    nodes_done a.order a.nodes.now _ c.in_ok-check_nodes.ensures _ refl (rw t.2 at c.fill_nodes.ensures)
