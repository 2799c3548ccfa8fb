-- `nodes::sets::generate_node_set` meets its contract: an unknown set is refused, and for a known one the call with no set is made, and
-- for the mirror-exact set what it left is mirrored. Assumes nothing.
use mathlib.Core.Bool.{true, false}
use mathlib.Core.Path.{◌≡◌, sym, refl, ap, ◌∙◌}
use native.Mathlib.Omega.{arith}
use lib.ListN.{length}
use Rattle.common.proofs.Fill.{length_tabulate}
use Rattle.common.proofs.Numbers.{handed_on, number_above}
use Rattle.node_rows.specs.Rows.{node}
use Rattle.nodes.specs.NodeSets.{number_of}
use Rattle.nodes.specs.declared.sets.NodeSet.{NodeSet}
use Rattle.nodes.specs.declared.sets.NodeSet.TheVariants.{Rust, MirrorExact}
use Rattle.nodes.specs.contracts.sets.NodeSet.{the_type}
use denote.Enum.Bare.{sameb}
use Rattle.nodes.proofs.SetCalls.{set_refused, set_unknown, default_refused, default_done, set_mirrored, set_plain}
use Rattle.nodes.proofs.sets.generate_node_set.Goals as goal

-- what the test for the mirror-exact set says of its number
exact_one : (s : NodeSet) → true ≡ sameb the_type s MirrorExact → number_of s ≡ 1
exact_one Rust e = cc
exact_one MirrorExact e = refl

rust_zero : (s : NodeSet) → false ≡ sameb the_type s MirrorExact → number_of s ≡ 0
rust_zero Rust e = refl
rust_zero MirrorExact e = cc

pub returns-in_err-check_nodes : goal.returns-in_err-check_nodes
returns-in_err-check_nodes c =
    let a = c.args in
    let e = handed_on _ _ c.from_residual.ensures.1 in
    set_refused a.order a.set a.nodes.now _ (e ∙ c.in_err-check_nodes.ensures)
    (λ z. omega (arith, number_above c.in_err-check_nodes.field-0.0, e, z))

pub returns-in_default : goal.returns-in_default
returns-in_default c =
    let a = c.args in set_unknown a.order a.set a.nodes.now (sym c.in_ok-check_nodes.ensures) c.in_default.ensures.1

pub returns-in_err-generate_chebyshev_nodes : goal.returns-in_err-generate_chebyshev_nodes
returns-in_err-generate_chebyshev_nodes c =
    let a = c.args in
    let made = c.in_err-generate_chebyshev_nodes in
    let e = handed_on _ _ c.from_residual-in_err-generate_chebyshev_nodes.ensures.1 in
    rw e (default_refused a.order a.set a.nodes.now _ _ made.ensures (λ z. omega (arith, number_above made.field-0.0, z)))

pub mirror_nodes-requires : goal.mirror_nodes-requires
mirror_nodes-requires c =
    let a = c.args in
    let t = default_done a.order a.set a.nodes.now _ _ c.in_ok-generate_chebyshev_nodes.ensures refl in
    rw (ap length t.2 ∙ length_tabulate a.order (node a.order)) t.2

pub returns-then-eq : goal.returns-then-eq
returns-then-eq c =
    let a = c.args in
    let made = c.in_ok-generate_chebyshev_nodes.ensures in
    let t = default_done a.order a.set a.nodes.now _ _ made refl in
    let long = ap length t.2 ∙ length_tabulate a.order (node a.order) in
    let one : a.set ≡ 1 = sym c.in-Ok.ensures ∙ exact_one c.in-Ok.set c.if-eq.ensures in
    set_mirrored a.order a.set a.nodes.now _ _ made refl _ one (rw long at c.mirror_nodes.ensures)

pub returns-else-eq : goal.returns-else-eq
returns-else-eq c =
    let a = c.args in
    let none : a.set ≡ 0 = sym c.in-Ok.ensures ∙ rust_zero c.in-Ok.set c.if-eq.ensures in
    set_plain a.order a.set a.nodes.now _ _ c.in_ok-generate_chebyshev_nodes.ensures refl (omega arith) (λ one. omega arith)
