-- `points::sizes::check_sizes` meets its contract: each return by the tests that led there. Assumes nothing.
use mathlib.Core.Path.{sym, ◌∙◌}
use native.Mathlib.Nat.{mul-le-mul}
use native.Mathlib.Omega.{arith}
use Rattle.common.proofs.Limits.{power_most}
use Rattle.points.proofs.Calls.{sizes_nodes, sizes_points, sizes_none, sizes_cell}
use Rattle.points.proofs.sizes.check_sizes.Goals.{then-nodes-shape-via-then-nodes-shape}
use Rattle.points.proofs.sizes.check_sizes.Goals.{then-nodes-shape-via-else-nodes-shape+then-points-shape}
use Rattle.points.proofs.sizes.check_sizes.Goals as goal

pub overflow_mul-shape : goal.overflow_mul-shape
overflow_mul-shape c =
    let s = c.args.shape in
    let t = s.taken in
    let most = power_most s.order s.dimension t.order_most t.dimension_most in
    omega (
      arith,
      mul-le-mul {n₁ = s.dimension} {m₁ = c.nodes.result} {n₂ = 3} {m₂ = 4096} t.dimension_most (omega (arith, c.nodes.ensures)),
    )

pub returns-then-nodes-shape : goal.returns-then-nodes-shape
returns-then-nodes-shape c =
    let a = c.args in
    let s = a.shape in
    elim c.then-nodes-shape.branch [
      | then-nodes-shape-via-then-nodes-shape w ↦ sizes_nodes s.dimension s.order a.side a.nodes a.points w.if-nodes-shape.true
      | then-nodes-shape-via-else-nodes-shape+then-points-shape w ↦
          sizes_points s.dimension s.order a.side a.nodes a.points w.if-nodes-shape.false (rw w.nodes.ensures at w.if-points-shape.true)
    ]

pub returns-then-not-is_cell : goal.returns-then-not-is_cell
returns-then-not-is_cell c =
    let a = c.args in
    sizes_cell a.shape.dimension a.shape.order a.side a.nodes a.points c.if-nodes-shape.false
    (rw c.nodes.ensures at c.if-points-shape.false) (sym c.is_cell.ensures ∙ c.if-not-is_cell.true)

pub returns : goal.returns
returns c =
    let a = c.args in
    sizes_none a.shape.dimension a.shape.order a.side a.nodes a.points c.if-nodes-shape.false
    (rw c.nodes.ensures at c.if-points-shape.false) (sym c.is_cell.ensures ∙ c.if-not-is_cell.false)
