-- `vectors::are_entries` meets its contract: the tests are the definition's. Assumes nothing.
use mathlib.Core.Path.{refl}
use Rattle.vectors.specs.Working.{are_entries}
use Rattle.vectors.proofs.are_entries.Goals as goal

pub returns : goal.returns
unfolding are_entries
returns c = refl
