-- `coordinates::scale_axes` meets its contract. The loop keeps `Stepping`: the axes before `axis` are scaled. Assumes
-- nothing.
use Prim.Native.Nat.{◌*◌}
use Rattle.common.specs.Matrices.{cell}
use Rattle.common.proofs.Steps.{Stepping}
use Rattle.coordinates.specs.Coordinates.{coordinate}
use Rattle.coordinates.proofs.scale_axes.Given as goal

abbrev pub invariant-loop-axis : goal.invariant-loop-axis
invariant-loop-axis l = Stepping 0 l.dimension l.rows
    (cell l.rows (coordinate l.rows l.side l.centre l.initial.points)) l.initial.points l.points l.axis (l.axis * l.rows)
