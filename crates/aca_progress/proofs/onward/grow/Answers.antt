-- `aca_progress::onward::grow` meets its contract. Assumes nothing.
use mathlib.Core.Path.{refl}
use Rattle.aca_progress.specs.Crosses.{grown}
use Rattle.aca_progress.proofs.onward.grow.Goals as goal

pub returns : goal.returns
unfolding grown
returns c = refl
