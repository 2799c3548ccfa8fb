-- `coordinates::scale` meets its contract. Assumes nothing.
use mathlib.Core.Path.{refl}
use Rattle.coordinates.specs.Coordinates.{coordinate_in}
use Rattle.coordinates.proofs.scale.Goals as goal

pub returns : goal.returns
unfolding coordinate_in
returns c = refl
