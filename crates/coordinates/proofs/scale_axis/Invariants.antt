-- `coordinates::scale_axis` meets its contract. The loop keeps `Filling`: i points are scaled. Assumes nothing.
use Prim.Native.Nat.{◌+◌}
use lib.Ieee.{nan}
use lib.ListN.{get_or}
use Rattle.common.proofs.Fill.{Filling}
use Rattle.coordinates.specs.Coordinates.{coordinate_in}
use Rattle.coordinates.proofs.scale_axis.Given as goal

abbrev pub invariant-loop-i : goal.invariant-loop-i
invariant-loop-i l = Filling l.at l.rows
    (λ j. coordinate_in l.side l.centre (get_or l.initial.points (l.at + j) nan)) l.initial.points l.points l.i
