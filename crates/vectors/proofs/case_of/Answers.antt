-- `vectors::case_of` meets its contract: the sign case and the order fit. Assumes nothing.
use Prim.Native.Nat.{◌*◌, ◌≤◌}
use native.Mathlib.Nat.{mul-le-mul}
use native.Mathlib.Omega.{arith}
use Rattle.common.specs.Threes.{three}
use Rattle.common.proofs.Factorials.{factorial_most}
use Rattle.common.proofs.Threes.{small_more}
use Rattle.vectors.proofs.Orders.{axis_order_below}
use Rattle.vectors.proofs.Held.{signs_small, signs_most}
use Rattle.vectors.proofs.case_of.Goals.{After-factorial_of}
use Rattle.vectors.proofs.case_of.Goals as goal

pub number_of-signs-requires : goal.number_of-signs-requires
number_of-signs-requires c = (
  omega arith,
  rw c.signs_of.ensures (small_more c.args.dimension 7 16 _ (omega arith) (signs_small c.args.dimension c.args.d c.requires.0)),
)

-- the sign case times the factorial is small
product_most : (c : After-factorial_of) → c.number_of-signs.result * c.factorial_of.result ≤ 48
product_most c =
    let signs = signs_most c.args.dimension c.args.d c.requires.0 in
    let few = factorial_most c.args.dimension c.requires.0.dimension_most in
    mul-le-mul {n₁ = c.number_of-signs.result} {m₁ = c.factorial_of.result} {n₂ = 8} {m₂ = 6}
    (rw (c.number_of-signs.ensures, c.signs_of.ensures) signs) (rw c.factorial_of.ensures few)

pub overflow_mul-result : goal.overflow_mul-result
overflow_mul-result c = omega (arith, product_most (goal.at.overflow_mul-result c).After-factorial_of)

pub overflow_add-result : goal.overflow_add-result
overflow_add-result c =
    omega (
      arith,
      product_most (goal.at.overflow_add-result c).After-factorial_of,
      c.axis_order_of.ensures,
      axis_order_below c.args.dimension (three c.args.s),
      factorial_most c.args.dimension c.requires.0.dimension_most,
    )
