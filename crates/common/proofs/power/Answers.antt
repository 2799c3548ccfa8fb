-- `common::power` meets its contract: the power fits. Assumes nothing.
use native.Mathlib.Omega.{arith}
use Rattle.common.proofs.Limits.{power_most}
use Rattle.common.proofs.power.Goals as goal

pub pow-requires : goal.pow-requires
pow-requires c = omega (arith, power_most c.args.base c.args.exponent c.requires.0 c.requires.1)
