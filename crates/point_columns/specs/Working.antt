-- What the private functions speak of; no public contract cites it.
use Rattle.std.specs.Prelude.{Bool, cond, List, ℕ, ◌/◌, Float, get_or}
use Rattle.std.specs.Float.{nan, binary64}
use Rattle.std.specs.Float.Ieee.{of_int}
use Rattle.vectors.specs.declared.Vector.{Vector}
use Rattle.vectors.specs.LookUps.{entries}
use Rattle.point_columns.specs.Blocks.{node_on, on_target, on_source}

-- place k of a cycle: each value fills a run, one value after the other
abbrev pub cycled : (run : ℕ) → (values : List Float) → ℕ → Float
cycled run values k = get_or values (k / run) nan

-- how many blocks away a block at this vector lies on axis a, as a float
abbrev pub offset : Vector → ℕ → Float
offset v a = of_int binary64 (entries v a)

-- a node x on one axis of a block, source or target
abbrev pub on_axis : (source : Bool) → (side r x : Float) → Float
on_axis source l r x = cond source (on_source l r x) (on_target l x)

-- row n and axis a of the points of a block that lies at this vector; a target's lies nowhere else
abbrev pub block_point : (source : Bool) → (D p : ℕ) → (side : Float) → Vector → (nodes : List Float) → (n a : ℕ) → Float
block_point source D p l v nodes n a = on_axis source l (offset v a) (node_on D p a nodes n)
