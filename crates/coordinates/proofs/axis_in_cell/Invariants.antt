-- `coordinates::axis_in_cell` meets its contract. The loop keeps: whether the first i points are in the cell. Assumes nothing.
use mathlib.Core.Path.{◌≡◌}
use Prim.Native.Nat.{◌+◌}
use lib.Ieee.{nan}
use lib.ListN.{get_or}
use Rattle.common.specs.Tests.{each}
use Rattle.coordinates.specs.Coordinates.{coordinate_in, in_cell}
use Rattle.coordinates.proofs.axis_in_cell.Given as goal

abbrev pub invariant-loop-i : goal.invariant-loop-i
invariant-loop-i l =
    l.are_in ≡ each l.i (λ j. in_cell (coordinate_in l.side l.centre (get_or l.points (l.at + j) nan)))
