-- Two sets of nodes: the Rust's, and the mirror-exact one, which is made from it; and the call that takes a set.
use Rattle.std.specs.Prelude.{cond, List, ℕ, zero, suc, ◌+◌, ◌*◌, ◌-◌, leb, ltb, eqb, Float, length}
use Rattle.std.specs.Float.Ieee.{neg}
use Rattle.common.specs.Floats.{zero₆₄}
use Rattle.common.specs.Lists.{tabulate}
use Rattle.common.specs.Refusals.{no_order, wrong_length, no_set, unless, is_order, left}
use Rattle.node_rows.specs.Rows.{node}

-- MIRROR-EXACT: the upper half of the Rust's nodes, their exact negations below, and +0.0 in the middle of an odd order
unfoldable pub mirrored : (p i : ℕ) → Float
mirrored p i = cond (ltb p (2 * i + 1)) (node p i) (cond (ltb (2 * i + 1) p) (neg (node p (p - 1 - i))) zero₆₄)

-- node i of order p in a set: 0 is the Rust's, 1 is mirror-exact
abbrev pub node_of : (set p i : ℕ) → Float
node_of zero = node
node_of (suc set) = mirrored

-- THE CALL

unfoldable pub set_number : (p set size : ℕ) → ℕ
set_number p set n = unless (is_order p) no_order (unless (eqb n p) wrong_length (unless (leb set 1) no_set 0))

-- its number, and the buffer after it: the nodes of the order in that set, or as lent
unfoldable pub set_call : (p set : ℕ) → (nodes : List Float) → ℕ × List Float
set_call p set nodes = (
  set_number p set (length nodes),
  left (set_number p set (length nodes)) (tabulate p (node_of set p)) nodes,
)
