-- `common::shapes::Shape::index_on` meets its contract, by how many axes come after. Assumes nothing.
use Prim.Native.Nat.{◌-◌}
use native.Mathlib.Nat.{mul-le-mul, pow-zero, div-one}
use native.Mathlib.Omega.{arith}
use mathlib.Core.Path.{◌≡◌}
use Rattle.common.specs.Digits.{digit}
use Rattle.common.proofs.Limits.{power_one, power_two}
use Rattle.common.proofs.shapes.Shape.index_on.Goals as goal

pub returns-then-after-eq0 : goal.returns-then-after-eq0
unfolding digit
returns-then-after-eq0 c = rw (c.if-after-eq0.true, pow-zero, div-one)

pub returns-then-after-eq1 : goal.returns-then-after-eq1
unfolding digit
returns-then-after-eq1 c = rw (c.if-after-eq1.true, power_one)

pub overflow_mul-result : goal.overflow_mul-result
overflow_mul-result c =
    omega (
      arith,
      mul-le-mul {n₁ = c.args.self.order} {m₁ = c.args.self.order} {n₂ = 16} {m₂ = 16} c.args.self.taken.order_most
          c.args.self.taken.order_most,
    )

pub nonzero_div-result-2 : goal.nonzero_div-result-2
nonzero_div-result-2 c =
    omega (
      arith,
      mul-le-mul {n₁ = 1} {m₁ = 1} {n₂ = c.args.self.order} {m₂ = c.args.self.order} c.args.self.taken.order_least
          c.args.self.taken.order_least,
    )

pub returns : goal.returns
unfolding digit
returns c =
    let two : c.args.self.dimension - 1 - c.args.axis ≡ 2 = omega (arith, c.args.self.taken.dimension_most) in
    rw (two, power_two)
