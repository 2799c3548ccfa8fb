-- `aca_pivots::flags::pick_on` meets its contract. Assumes nothing.
use Rattle.aca_pivots.specs.Largest.{pivot}
use Rattle.aca_pivots.proofs.flags.pick_on.Goals as goal

pub returns : goal.returns
unfolding pivot
returns c = rw (c.pivot_at.ensures, c.place_on.ensures)
