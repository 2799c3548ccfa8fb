-- `coordinates::all_in_cell` meets its contract. The loop keeps: the points are in the cell on the axes before `axis`. Assumes nothing.
use mathlib.Core.Path.{◌≡◌}
use mathlib.Core.Bool.{Bool, true}
use mathlib.Core.List.{List}
use Prim.Native.Nat.{ℕ}
use lib.Ieee.{Float}
use Rattle.common.specs.Tests.{each}
use Rattle.coordinates.specs.Coordinates.{coordinate, in_cell}
use Rattle.coordinates.proofs.all_in_cell.Given as goal

-- the points are in the cell on one axis
abbrev pub on : (rows : ℕ) → (side : Float) → (centre points : List Float) → (axis : ℕ) → Bool
on rows side centre points axis = each rows (λ i. in_cell (coordinate rows side centre points i axis))

abbrev pub invariant-loop-axis : goal.invariant-loop-axis
invariant-loop-axis l =
    each l.axis (on l.rows l.side l.centre l.points) ≡ true
