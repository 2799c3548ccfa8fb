-- `aca_progress::onward::without` meets its contract, by the mode. Assumes nothing.
use Rattle.aca_progress.specs.Crosses.{without}
use Rattle.aca_progress.proofs.onward.without.Goals as goal

pub elsewhere-requires : goal.elsewhere-requires
elsewhere-requires c = c.requires

pub returns-then-reading : goal.returns-then-reading
unfolding without
returns-then-reading c = rw c.if-reading.true c.elsewhere.ensures

pub returns : goal.returns
unfolding without
returns c = rw c.if-reading.false
