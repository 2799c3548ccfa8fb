-- `common::refusals::check_order` meets its contract: each return by the tests that led there. Assumes nothing.
use borrow.Author.Tests.{lt-leb, le-leb}
use Rattle.common.specs.Refusals.{order_number}
use Rattle.common.proofs.Cases.{inside}
use Rattle.common.proofs.refusals.check_order.Goals.{then-order-lt1-via-then-order-lt1}
use Rattle.common.proofs.refusals.check_order.Goals.{then-order-lt1-via-else-order-lt1+then-order-gt16}
use Rattle.common.proofs.refusals.check_order.Goals as goal

pub returns-then-order-lt1 : goal.returns-then-order-lt1
unfolding order_number
returns-then-order-lt1 c =
    let p = c.args.order in
    elim c.then-order-lt1.branch [
      | then-order-lt1-via-then-order-lt1 w ↦ rw (lt-leb 1 p w.if-order-lt1.true)
      | then-order-lt1-via-else-order-lt1+then-order-gt16 w ↦ rw (le-leb 1 p w.if-order-lt1.false, lt-leb p 16 w.if-order-gt16.true)
    ]

pub returns : goal.returns
unfolding order_number
returns c = rw (inside 1 16 c.args.order c.if-order-lt1.false c.if-order-gt16.false)
