-- `aca_pivots::flags::Flags::all_on` meets its contract. Assumes nothing.
use mathlib.Core.Path.{refl}
use Rattle.aca_pivots.specs.Flags.{all_on}
use Rattle.aca_pivots.proofs.flags.Flags.all_on.Goals as goal

pub returns : goal.returns
unfolding all_on
returns c = refl
