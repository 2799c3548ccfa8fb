-- `curvatures::limits::lengths_of` meets its contract: no product of counts in range is too large. Assumes nothing.
use Prim.Native.Nat.{ℕ, ◌*◌, ◌≤◌}
use native.Mathlib.Nat.{mul-le-mul}
use native.Mathlib.Omega.{arith}
use Rattle.common.proofs.Limits.{power_most}
use Rattle.curvatures.proofs.AxisPairs.{count_most}
use Rattle.curvatures.proofs.limits.lengths_of.Goals.{After-pair_count-pairs}
use Rattle.curvatures.proofs.limits.lengths_of.Goals as goal

-- a product of counts that have their limits has one
small : (a b m n : ℕ) → a ≤ m → b ≤ n → a * b ≤ m * n
small a b m n h h' = mul-le-mul {n₁ = a} {m₁ = b} {n₂ = m} {m₂ = n} h h'

module _ (c : After-pair_count-pairs) where
  order_most : c.args.grid.shape.order ≤ 16
  order_most = c.args.grid.shape.taken.order_most

  dimension_most : c.args.grid.shape.dimension ≤ 3
  dimension_most = c.args.grid.shape.taken.dimension_most

  few : c.args.grid.rows ≤ 4096
  few = c.args.grid.few

  columns : c.args.grid.shape.dimension * c.args.grid.shape.order ≤ 3 * 16
  columns = small c.args.grid.shape.dimension c.args.grid.shape.order 3 16 dimension_most order_most

  nodes : c.pair_count-pairs.result * c.nodes-nodes.result ≤ 6 * 4096
  nodes =
      small c.pair_count-pairs.result c.nodes-nodes.result 6 4096
      (rw c.pair_count-pairs.ensures (count_most c.args.grid.shape.dimension dimension_most))
      (rw c.nodes-nodes.ensures (power_most c.args.grid.shape.order c.args.grid.shape.dimension order_most dimension_most))

pub overflow_mul-columns : goal.overflow_mul-columns
overflow_mul-columns c = omega (arith, columns (goal.at.overflow_mul-columns c).After-pair_count-pairs)

pub overflow_mul-columns-2 : goal.overflow_mul-columns-2
overflow_mul-columns-2 c = let a = c.args in omega (arith, small (a.grid.shape.dimension * a.grid.shape.order) a.grid.rows 48 4096 (columns (goal.at.overflow_mul-columns-2 c).After-pair_count-pairs) (few (goal.at.overflow_mul-columns-2 c).After-pair_count-pairs))

pub overflow_mul-result : goal.overflow_mul-result
overflow_mul-result c = let a = c.args in omega (arith, small a.grid.shape.dimension a.grid.rows 3 4096 (dimension_most (goal.at.overflow_mul-result c).After-pair_count-pairs) (few (goal.at.overflow_mul-result c).After-pair_count-pairs))

pub overflow_mul-result-2 : goal.overflow_mul-result-2
overflow_mul-result-2 c = let a = c.args in omega (arith, small a.grid.shape.order a.grid.shape.order 16 16 (order_most (goal.at.overflow_mul-result-2 c).After-pair_count-pairs) (order_most (goal.at.overflow_mul-result-2 c).After-pair_count-pairs))

pub overflow_mul-result-3 : goal.overflow_mul-result-3
overflow_mul-result-3 c = omega (arith, nodes (goal.at.overflow_mul-result-3 c).After-pair_count-pairs)

pub overflow_mul-result-4 : goal.overflow_mul-result-4
overflow_mul-result-4 c = let a = c.args in omega (
  arith,
  small (c.pair_count-pairs.result * c.nodes-nodes.result) a.grid.rows 24576 4096
      (nodes (goal.at.overflow_mul-result-4 c).After-pair_count-pairs) (few (goal.at.overflow_mul-result-4 c).After-pair_count-pairs),
)

pub overflow_mul-result-5 : goal.overflow_mul-result-5
overflow_mul-result-5 c = omega (arith, order_most (goal.at.overflow_mul-result-5 c).After-pair_count-pairs)

pub overflow_mul-result-6 : goal.overflow_mul-result-6
overflow_mul-result-6 c = let a = c.args in omega (arith, small (3 * a.grid.shape.order) a.grid.rows 48 4096 (omega (arith, order_most (goal.at.overflow_mul-result-6 c).After-pair_count-pairs)) (few (goal.at.overflow_mul-result-6 c).After-pair_count-pairs))

pub returns : goal.returns
returns c = rw (c.pair_count-pairs.ensures, c.nodes-nodes.ensures)
