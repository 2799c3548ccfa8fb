-- `common::number_of` meets its contract: by the dimension. Assumes nothing.
use Prim.Native.Nat.{ℕ, ◌+◌, ◌*◌, ◌<◌, ◌≤◌}
use native.Mathlib.Nat.{mul-le-mul}
use native.Mathlib.Omega.{arith}
use Rattle.common.specs.Threes.{three}
use Rattle.common.proofs.Threes.{from_digits_one, from_digits_two, from_digits_three}
use Rattle.common.proofs.number_of.Goals as goal

-- what the digits number, in a base of at most 16
module _ (b x y : ℕ) (hb : b ≤ 16) (hx : x < 16) (hy : y < 16) where
  one_most : x * b ≤ 240
  one_most = mul-le-mul {n₁ = x} {m₁ = b} {n₂ = 15} {m₂ = 16} (omega arith) hb

  two_most : (x * b + y) * b ≤ 4080
  two_most = mul-le-mul {n₁ = x * b + y} {m₁ = b} {n₂ = 255} {m₂ = 16} (omega (arith, one_most)) hb

pub returns-then-dimension-lt2 : goal.returns-then-dimension-lt2
returns-then-dimension-lt2 c = from_digits_one c.args.base c.args.dimension (three c.args.d)
    (omega (arith, c.requires.1.dimension_least))

pub overflow_mul-two : goal.overflow_mul-two
overflow_mul-two c = omega (
  arith,
  one_most c.args.base c.args.d.0 0 c.requires.0 c.requires.1.first
      (omega arith),
)

pub overflow_add-two : goal.overflow_add-two
overflow_add-two c =
    omega (arith, c.requires.1.second, one_most c.args.base c.args.d.0 0 c.requires.0 c.requires.1.first (omega arith))

pub returns-then-dimension-lt3 : goal.returns-then-dimension-lt3
returns-then-dimension-lt3 c = from_digits_two c.args.base c.args.dimension (three c.args.d)
    (omega arith)

pub overflow_mul-result : goal.overflow_mul-result
overflow_mul-result c =
    omega (arith, two_most c.args.base c.args.d.0 c.args.d.1 c.requires.0 c.requires.1.first c.requires.1.second)

pub overflow_add-result : goal.overflow_add-result
overflow_add-result c =
    omega (
      arith,
      c.requires.1.third,
      two_most c.args.base c.args.d.0 c.args.d.1 c.requires.0 c.requires.1.first
          c.requires.1.second,
    )

pub returns : goal.returns
returns c =
    from_digits_three c.args.base c.args.dimension (three c.args.d) (omega (arith, c.requires.1.dimension_most))
