-- What the call answers and leaves that gives the Chebyshev nodes of an order; the nodes themselves stand in `node_rows`.
use Rattle.std.specs.Prelude.{List, ℕ, eqb, Float, length}
use Rattle.common.specs.Lists.{tabulate}
use Rattle.common.specs.Refusals.{no_order, wrong_length, unless, is_order, left}
use Rattle.node_rows.specs.Rows.{node}

unfoldable pub nodes_number : (p size : ℕ) → ℕ
nodes_number p n = unless (is_order p) no_order (unless (eqb n p) wrong_length 0)

-- its number, and the buffer after it: the nodes of the order, or as lent
unfoldable pub nodes_call : (p : ℕ) → (nodes : List Float) → ℕ × List Float
nodes_call p nodes = (nodes_number p (length nodes), left (nodes_number p (length nodes)) (tabulate p (node p)) nodes)
