-- `curvatures::pairs::pair_count` meets its contract. Assumes nothing.
use native.Mathlib.Nat.{mul-le-mul}
use native.Mathlib.Omega.{arith}
use Prim.Native.Nat.{◌+◌}
use Rattle.curvatures.proofs.pairs.pair_count.Goals as goal

pub overflow_mul-result : goal.overflow_mul-result
overflow_mul-result c =
    let d = c.args.dimension in
    omega (arith, mul-le-mul {n₁ = d} {m₁ = d + 1} {n₂ = 3} {m₂ = 4} c.requires (omega (arith, c.requires)))
