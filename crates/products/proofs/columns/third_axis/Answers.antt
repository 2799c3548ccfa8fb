-- `products::columns::third_axis` meets its contract: each return by the tests that led there. Assumes nothing.
use borrow.Author.Tests.{le-leb, lt-leb, eq-eqb, ne_eqb}
use Rattle.products.proofs.columns.third_axis.Goals as goal

pub returns-then-dimension-le2 : goal.returns-then-dimension-le2
returns-then-dimension-le2 c = rw (le-leb _ 2 c.if-dimension-le2.true)

pub returns-then-axis-eq2 : goal.returns-then-axis-eq2
returns-then-axis-eq2 c = rw (lt-leb _ 2 c.if-dimension-le2.false, eq-eqb _ 2 c.if-axis-eq2.true)

pub returns-else-axis-eq2 : goal.returns-else-axis-eq2
returns-else-axis-eq2 c = rw (lt-leb _ 2 c.if-dimension-le2.false, ne_eqb _ 2 c.if-axis-eq2.false)
