-- DEMAND 3 FOR FLOATS: the turn keeps the size of every difference of coordinates, bit for bit.
use Rattle.std.specs.Prelude.{ℕ, ◌^◌, ◌<◌, ℤ, Float}
use Rattle.std.specs.Float.Ieee.{of_int}
use Rattle.std.specs.Float.{binary64}
use Rattle.common.specs.Digits.{digit}
use Rattle.common.specs.Floats.{minus}
use Rattle.floats.specs.Sizes.{SameSize}
use Rattle.point_columns.specs.Blocks.{on_target, on_source}
use Rattle.turn.specs.Turns.{matching}

-- an axis's difference in floats: the coordinate of a source node, its block so many blocks away, less that of a target node
unfoldable pub difference : (side : Float) → (entry : ℤ) → (source target : Float) → Float
difference side e s t = minus (on_source side (of_int binary64 e) s) (on_target side t)

-- Block r is turned onto block v by a table; the nodes are x, alike on every axis.
pub record FloatTurns (D p : ℕ) (side : Float) (x : ℕ → Float) (r v : ℕ → ℤ) (table : ℕ → ℕ) : Type 0 where
  -- Between any two nodes s and t of block r, the difference on axis m is finite and has the size, bit for bit, found on the matching
  -- axis of v, between the two nodes that the table names.
  pub differences : (s t m : ℕ) → s < p ^ D → t < p ^ D → m < D →
      SameSize binary64 (difference side (r m) (x (digit p D m s)) (x (digit p D m t)))
      (difference side (v (matching D v m)) (x (digit p D (matching D v m) (table s))) (x (digit p D (matching D v m) (table t))))
