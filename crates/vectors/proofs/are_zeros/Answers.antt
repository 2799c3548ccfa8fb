-- `vectors::are_zeros` meets its contract: the tests are the definition's. Assumes nothing.
use mathlib.Core.Path.{refl}
use Rattle.vectors.specs.Working.{are_zeros}
use Rattle.vectors.proofs.are_zeros.Goals as goal

pub returns : goal.returns
unfolding are_zeros
returns c = refl
