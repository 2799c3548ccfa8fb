-- `common::size_of` meets its contract. Assumes nothing.
use Rattle.common.specs.Floats.{size}
use Rattle.common.proofs.size_of.Goals as goal

pub returns-then-x : goal.returns-then-x
unfolding size
returns-then-x c = rw c.if-x.true

pub returns : goal.returns
unfolding size
returns c = rw c.if-x.false
