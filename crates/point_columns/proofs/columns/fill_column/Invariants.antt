-- `point_columns::columns::fill_column` meets its contract. The loop keeps `Stepping`: the first k cycles are filled. Assumes nothing.
use Prim.Native.Nat.{◌+◌, ◌*◌}
use Rattle.common.proofs.Steps.{Stepping}
use Rattle.point_columns.specs.Blocks.{node_on}
use Rattle.point_columns.proofs.columns.fill_column.Given as goal

abbrev pub invariant-loop-k : goal.invariant-loop-k
invariant-loop-k l = Stepping l.at l.cycles l.cycle
    (node_on l.shape.dimension l.shape.order l.axis l.values) l.initial.points l.points l.k (l.at + l.k * l.cycle)
