-- `products::columns::second_axis` meets its contract: each return by the tests that led there. Assumes nothing.
use borrow.Author.Tests.{le-leb, lt-leb, eq-eqb, ne_eqb}
use Rattle.products.proofs.columns.second_axis.Goals.{then-dimension-le1-via-then-dimension-le1}
use Rattle.products.proofs.columns.second_axis.Goals.{then-dimension-le1-via-else-dimension-le1+then-axis-ne0}
use Rattle.products.proofs.columns.second_axis.Goals as goal

pub returns-then-dimension-le1 : goal.returns-then-dimension-le1
returns-then-dimension-le1 c =
    elim c.then-dimension-le1.branch [
      | then-dimension-le1-via-then-dimension-le1 w ↦ rw (le-leb _ 1 w.if-dimension-le1.true)
      | then-dimension-le1-via-else-dimension-le1+then-axis-ne0 w ↦
          rw (lt-leb _ 1 w.if-dimension-le1.false, ne_eqb _ 0 w.if-axis-ne0.true)
    ]

pub returns : goal.returns
returns c = rw (lt-leb _ 1 c.if-dimension-le1.false, eq-eqb _ 0 c.if-axis-ne0.false)
