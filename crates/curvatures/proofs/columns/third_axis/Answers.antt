-- `curvatures::columns::third_axis` meets its contract. Assumes nothing.
use borrow.Author.Tests.{le-leb, lt-leb}
use Rattle.curvatures.proofs.columns.third_axis.Goals as goal

pub returns-then-dimension-le2 : goal.returns-then-dimension-le2
returns-then-dimension-le2 c = rw (le-leb _ 2 c.if-dimension-le2.true)

pub returns : goal.returns
returns c = rw (lt-leb _ 2 c.if-dimension-le2.false)
