-- Loops over axes and nodes fill stretches, one after the other: what each turn adds. Assumes nothing.
use mathlib.Core.Path.{◌≡◌}
use mathlib.Core.List.{List}
use Prim.Native.Nat.{ℕ, ◌+◌, ◌-◌, ◌*◌, ◌^◌, ◌<◌, ◌≤◌}
use native.Mathlib.Nat.{mul_assoc, mul-le-mul, pow-le-pow_right}
use native.Mathlib.Omega.{arith}
use lib.Ieee.{Float}
use lib.ListN.{length}
use borrow.Rule.Slice.PartMut.{put_mid}
use Rattle.common.specs.Matrices.{cell, column_major}
use Rattle.common.proofs.Limits.{power_one}
use Rattle.common.proofs.Steps.{Stepping}
use Rattle.products.specs.Products.{started_of}
use Rattle.products.proofs.Blocks.{block_more}
use Rattle.coefficients.specs.Working.{gradient_of}

-- THE GRADIENT'S BLOCK of an axis: a call that was lent the axis's part has filled it
pub gradient_more : (D p P : ℕ) (slopes factors : List Float) (axis : ℕ) (before now filled : List Float) (N at : ℕ) → N ≡ p ^ D →
    axis < D → length before ≡ D * p ^ D * P →
    Stepping 0 D (N * P) (cell P (gradient_of D p P slopes factors)) before now axis at →
    filled ≡ column_major P (p ^ D) (started_of D p P axis slopes factors) →
    Stepping 0 D (N * P) (cell P (gradient_of D p P slopes factors)) before (put_mid at (at + N * P - at) now filled) (axis + 1) (at + N * P)
gradient_more D p P slopes factors = block_more D (p ^ D) P (λ g. started_of D p P g slopes factors)

-- THE ROOM of an axis, within that of all axes and of all nodes

pub axis_side : (D p P : ℕ) → 1 ≤ D → p * P ≤ D * p * P
axis_side D p P h = rw mul_assoc (omega (arith, mul-le-mul {n₁ = 1} {m₁ = p * P} {n₂ = D} {m₂ = p * P} h (omega arith)))

pub nodes_side : (D p P : ℕ) → 1 ≤ p → 1 ≤ D → p * P ≤ p ^ D * P
nodes_side D p P some h =
    let most : p ≤ p ^ D = rw power_one at (pow-le-pow_right {n = p} some h) in
    mul-le-mul {n₁ = p} {m₁ = P} {n₂ = p ^ D} {m₂ = P} most (omega arith)
