-- `distances::blocks::fill_column` meets its contract. The loop keeps `Summing`: the squares of the first axes are added. Assumes nothing.
use Rattle.distances.proofs.Columns.{Summing}
use Rattle.distances.proofs.blocks.fill_column.Given as goal

abbrev pub invariant-loop-axis : goal.invariant-loop-axis
invariant-loop-axis l =
    Summing l.dimension l.rows l.sources l.targets l.target l.column l.axis l.at
