-- `common::is_cell` meets its contract, by its two tests. Assumes nothing.
use Rattle.common.specs.Refusals.{is_cell}
use Rattle.common.proofs.is_cell.Goals as goal

pub returns-then-side : goal.returns-then-side
unfolding is_cell
returns-then-side c = rw c.if-side.true

pub returns-else-side : goal.returns-else-side
unfolding is_cell
returns-else-side c = rw c.if-side.false
