-- `turn::follow::check_index` meets its contract: by its test. Assumes nothing.
use borrow.Author.Tests.{lt-ltb, le-ltb}
use Rattle.turn.specs.Working.{index_number}
use Rattle.turn.proofs.follow.check_index.Goals as goal

pub returns-then-index-order : goal.returns-then-index-order
unfolding index_number
returns-then-index-order c = let a = c.args in rw (lt-ltb a.index a.order c.if-index-order.true)

pub returns : goal.returns
unfolding index_number
returns c = let a = c.args in rw (le-ltb a.index a.order c.if-index-order.false)
