-- `axes::sum_columns` meets its contract. The loop keeps `Stepping`: the columns before `node` are summed. Assumes nothing.
use Prim.Native.Nat.{◌+◌, ◌*◌}
use Rattle.common.specs.Matrices.{cell}
use Rattle.common.proofs.Steps.{Stepping}
use Rattle.axes.specs.Axes.{sum_of}
use Rattle.axes.proofs.sum_columns.Given as goal

abbrev pub invariant-loop-node : goal.invariant-loop-node
invariant-loop-node l = Stepping l.at l.order l.rows
    (cell l.rows (sum_of l.order l.rows l.polynomials l.node_polynomials)) l.initial.out l.out l.node (l.at + l.node * l.rows)
