-- `operators::child_node` meets its contract: by the half that the child lies in. Assumes nothing.
use lib.ListN.{length}
use Rattle.operators.proofs.Columns.{lower_node, upper_node}
use Rattle.operators.proofs.child_node.Goals as goal

pub returns-then-c-order : goal.returns-then-c-order
returns-then-c-order c = let a = c.args in lower_node (length a.nodes.now) a.c a.nodes.now c.if-c-order.true

pub returns-else-c-order : goal.returns-else-c-order
returns-else-c-order c = let a = c.args in upper_node (length a.nodes.now) a.c a.nodes.now c.if-c-order.false
