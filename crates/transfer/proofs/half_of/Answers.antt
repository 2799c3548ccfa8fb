-- `transfer::half_of` meets its contract: the weight is a power of two. Assumes nothing.
use native.Mathlib.Nat.{one-le-pow}
use native.Mathlib.Omega.{arith}
use Rattle.transfer.proofs.half_of.Goals as goal

pub nonzero_div-result : goal.nonzero_div-result
nonzero_div-result c = rw c.power.ensures (one-le-pow _ 2 (omega arith))

pub returns : goal.returns
returns c = rw c.power.ensures
