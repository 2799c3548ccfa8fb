-- `coordinates::is_in_cell` meets its contract: at most the border in size is between the two borders. Assumes nothing.
use Rattle.coordinates.proofs.InCell.{between_borders}
use Rattle.coordinates.proofs.is_in_cell.Goals as goal

pub returns : goal.returns
returns c = between_borders c.args.x.0
