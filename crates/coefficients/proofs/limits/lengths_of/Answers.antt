-- `coefficients::limits::lengths_of` meets its contract: no product of counts in range is too large. Assumes nothing.
use Prim.Native.Nat.{ℕ, ◌*◌, ◌≤◌}
use native.Mathlib.Nat.{mul-le-mul}
use native.Mathlib.Omega.{arith}
use Rattle.common.proofs.Limits.{power_most}
use Rattle.coefficients.proofs.limits.lengths_of.Goals.{After-nodes-nodes}
use Rattle.coefficients.proofs.limits.lengths_of.Goals as goal

-- a product of counts that have their limits has one
small : (a b m n : ℕ) → a ≤ m → b ≤ n → a * b ≤ m * n
small a b m n h h' = mul-le-mul {n₁ = a} {m₁ = b} {n₂ = m} {m₂ = n} h h'

module _ (c : After-nodes-nodes) where
  few : c.args.grid.rows ≤ 4096
  few = c.args.grid.few

  nodes : c.nodes-nodes.result ≤ 4096
  nodes =
      let is = c.args.grid.shape.taken in
      rw c.nodes-nodes.ensures (power_most c.args.grid.shape.order c.args.grid.shape.dimension is.order_most is.dimension_most)

  blocks : c.args.grid.shape.dimension * c.nodes-nodes.result ≤ 3 * 4096
  blocks = small c.args.grid.shape.dimension c.nodes-nodes.result 3 4096 c.args.grid.shape.taken.dimension_most nodes

pub overflow_mul-result-3 : goal.overflow_mul-result-3
overflow_mul-result-3 c =
    let at = (goal.at.overflow_mul-result-3 c).After-nodes-nodes in
    omega (arith, small c.nodes-nodes.result c.args.grid.rows 4096 4096 (nodes at) (few at))

pub overflow_mul-dimension : goal.overflow_mul-dimension
overflow_mul-dimension c = omega (arith, blocks (goal.at.overflow_mul-dimension c).After-nodes-nodes)

pub overflow_mul-dimension-2 : goal.overflow_mul-dimension-2
overflow_mul-dimension-2 c =
    let at = (goal.at.overflow_mul-dimension-2 c).After-nodes-nodes in
    omega (arith, small (c.args.grid.shape.dimension * c.nodes-nodes.result) c.args.grid.rows 12288 4096 (blocks at) (few at))
