-- Where a node of a block lies on an axis, and points laid out: one row a node, the last axis varying fastest, and one column an axis.
use Rattle.std.specs.Prelude.{List, ℕ, ◌^◌, Float, get_or}
use Rattle.std.specs.Float.{nan}
use Rattle.common.specs.Digits.{digit}
use Rattle.common.specs.Floats.{plus, times, half₆₄}
use Rattle.common.specs.Matrices.{column_major}

-- a node x on one axis of a target block: x*(0.5*side)
abbrev pub on_target : (side x : Float) → Float
on_target l x = times x (times half₆₄ l)

-- and of a source block, r blocks away on that axis: (r + x*0.5)*side; r is at most 3, so that no rounding makes it a float
abbrev pub on_source : (side r x : Float) → Float
on_source l r x = times (plus r (times x half₆₄)) l

-- node n of the block on axis a: the lent node with the index that n has there
abbrev pub node_on : (D p a : ℕ) → (nodes : List Float) → (n : ℕ) → Float
node_on D p a nodes n = get_or nodes (digit p D a n) nan

-- a row for each of the p ^ D nodes, a column for each axis
abbrev pub points_of : (D p : ℕ) → (ℕ → ℕ → Float) → List Float
points_of D p f = column_major (p ^ D) D f
