-- `aca_pivots::flags::Flags::is_on` meets its contract: the bit stands at the end of the shifted word. Assumes nothing.
use lib.Bits.{and_mask}
use Rattle.aca_pivots.specs.Flags.{is_on}
use Rattle.aca_pivots.proofs.flags.Flags.is_on.Goals as goal

pub returns : goal.returns
unfolding is_on
returns c = rw (and_mask _ 1)
