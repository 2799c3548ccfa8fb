-- `distances::blocks::add_square_column` meets its contract. The loop keeps `Filling`: i rows have their sums. Assumes nothing.
use mathlib.Core.List.{List}
use Prim.Native.Nat.{ℕ, ◌+◌}
use lib.Ieee.{Float, nan}
use lib.ListN.{get_or}
use Rattle.common.specs.Floats.{plus}
use Rattle.common.proofs.Fill.{Filling}
use Rattle.distances.specs.Distances.{apart}
use Rattle.distances.proofs.blocks.add_square_column.Given as goal

abbrev pub sum_at : (column sources : List Float) → (from : ℕ) → (coordinate : Float) → ℕ → Float
sum_at column sources from x i = plus (get_or column i nan) (apart (get_or sources (from + i) nan) x)

abbrev pub invariant-loop-i : goal.invariant-loop-i
invariant-loop-i l = Filling 0 l.rows (sum_at l.initial.column l.sources l.from l.coordinate) l.initial.column l.column l.i
