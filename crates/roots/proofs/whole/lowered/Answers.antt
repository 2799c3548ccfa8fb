-- `roots::whole::lowered` meets its contract. The loop keeps that m is below the square of one more than the number, which falls.
-- Assumes nothing.
use Prim.Native.Nat.{◌^◌}
use native.Mathlib.Nat.{le_of_lt}
use native.Mathlib.Omega.{arith}
use Rattle.roots.proofs.Newton.{square_pos, square_le, one_less}
use Rattle.roots.proofs.whole.lowered.Goals as goal

pub loop-root-init : goal.loop-root-init
loop-root-init c = (c.requires.above, c.requires.small)

pub overflow_mul-root : goal.overflow_mul-root
overflow_mul-root c = omega (arith, square_le c.loop-root.root (2 ^ 29) (le_of_lt c.loop-root.invariant.1))

pub overflow_sub-root : goal.overflow_sub-root
overflow_sub-root c = square_pos _ _ c.loop-root-test.true

pub loop-root-smaller : goal.loop-root-smaller
loop-root-smaller c = omega (arith, square_pos _ _ c.loop-root-test.true)

pub loop-root-preserved : goal.loop-root-preserved
loop-root-preserved c = (one_less _ _ c.loop-root-test.true, omega arith)

pub returns : goal.returns
returns c = record { below = c.loop-root-test.false; above = c.loop-root.invariant.0 }
