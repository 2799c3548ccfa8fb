-- `point_columns::blocks::fill_points` meets its contract. The loop keeps `Stepping`: the columns before `axis` are filled; and the
-- values keep their length. Assumes nothing.
use mathlib.Core.Path.{◌≡◌}
use lib.ListN.{length}
use Rattle.common.specs.Matrices.{cell}
use Rattle.common.proofs.Steps.{Stepping}
use Rattle.point_columns.specs.Working.{block_point}
use Rattle.point_columns.proofs.blocks.fill_points.Given as goal

abbrev pub invariant-loop-axis : goal.invariant-loop-axis
invariant-loop-axis l =
    let s = l.shape in
    let entries = cell l.rows (block_point l.is_source s.dimension s.order l.side l.vector l.nodes) in
    (length l.values ≡ 16) × Stepping 0 s.dimension l.rows entries l.initial.points l.points l.axis l.at
