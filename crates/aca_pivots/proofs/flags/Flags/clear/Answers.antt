-- `aca_pivots::flags::Flags::clear` meets its contract: a one is shifted to the flag's place and taken out of all ones. Assumes nothing.
use Prim.Native.Nat.{◌%◌}
use native.Mathlib.Omega.{arith}
use Rattle.aca_pivots.specs.Flags.{cleared}
use Rattle.aca_pivots.proofs.Bits.{shifted_one}
use Rattle.aca_pivots.proofs.flags.Flags.clear.Goals as goal

pub returns : goal.returns
unfolding cleared
returns c = rw (shifted_one (c.args.k % 64) (omega arith))
