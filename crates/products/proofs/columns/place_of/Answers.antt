-- `products::columns::place_of` meets its contract. Assumes nothing.
use mathlib.Core.Path.{ap}
use Prim.Native.Nat.{ℕ, ◌+◌, ◌*◌, ◌≤◌, ◌<◌}
use native.Mathlib.Nat.{mul-le-mul}
use native.Mathlib.Omega.{arith}
use Rattle.common.proofs.Digits.{digit_below}
use Rattle.products.proofs.columns.place_of.Goals.{After-index_on}
use Rattle.products.proofs.columns.place_of.Goals as goal

-- the column's number is small
fits : (c : After-index_on) → c.args.axis * c.args.grid.shape.order + c.index_on.result ≤ 64
fits c =
    let a = c.args in
    let index : c.index_on.result < a.grid.shape.order = rw c.index_on.ensures
    (digit_below a.grid.shape.order a.grid.shape.dimension a.axis a.node a.grid.shape.taken.order_least) in
    omega (
      arith,
      c.args.grid.shape.taken.order_most,
      mul-le-mul {n₁ = a.axis} {m₁ = a.grid.shape.order} {n₂ = 3} {m₂ = 16}
          (omega (arith, c.args.grid.shape.taken.dimension_most, c.requires)) c.args.grid.shape.taken.order_most,
    )

pub overflow_mul-result : goal.overflow_mul-result
overflow_mul-result c =
    omega (
      arith,
      mul-le-mul {n₁ = c.args.axis} {m₁ = c.args.grid.shape.order} {n₂ = 3} {m₂ = 16}
          (omega (arith, c.args.grid.shape.taken.dimension_most, c.requires)) c.args.grid.shape.taken.order_most,
    )

pub overflow_add-result : goal.overflow_add-result
overflow_add-result c = omega (arith, fits (goal.at.overflow_add-result c).After-index_on)

pub overflow_mul-result-2 : goal.overflow_mul-result-2
overflow_mul-result-2 c =
    let a = c.args in
    omega (
      arith,
      mul-le-mul {n₁ = a.axis * a.grid.shape.order + c.index_on.result} {m₁ = a.grid.rows} {n₂ = 64} {m₂ = 4096} (fits (goal.at.overflow_mul-result-2 c).After-index_on)
          a.grid.few,
    )

pub returns : goal.returns
returns c =
    let a = c.args in
    ap (λ (n : ℕ). (a.axis * a.grid.shape.order + n) * a.grid.rows) c.index_on.ensures
