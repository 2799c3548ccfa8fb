-- The contract of this crate's function determines the points that it leaves. Assumes nothing.
use mathlib.Core.Path.{◌≡◌}
use mathlib.Core.Bool.{Bool}
use mathlib.Core.List.{List}
use Prim.Native.Nat.{ℕ}
use lib.Ieee.{Float}
use Rattle.common.proofs.Determined.{coincide}
use Rattle.vectors.specs.declared.Vector.{Vector}
use Rattle.point_columns.specs.Blocks.{points_of}
use Rattle.point_columns.specs.Working.{block_point}

module _ (D p : ℕ) (source : Bool) (side : Float) (v : Vector) (nodes exit exit' : List Float) where
  abbrev made : List Float
  made = points_of D p (block_point source D p side v nodes)

  fill_points_determined : exit ≡ made → exit' ≡ made → exit ≡ exit'
  fill_points_determined = coincide exit exit' made
