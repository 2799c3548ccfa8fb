-- `coefficients::columns::fill_axes_columns` meets its contract. The loop keeps `Stepping`: the columns of the axes before `axis` are
-- filled. Assumes nothing.
use Rattle.common.specs.Matrices.{cell}
use Rattle.common.proofs.Steps.{Stepping}
use Rattle.coefficients.specs.Working.{gradient_of}
use Rattle.coefficients.proofs.columns.fill_axes_columns.Given as goal

abbrev pub invariant-loop-axis : goal.invariant-loop-axis
invariant-loop-axis l = Stepping 0 l.grid.shape.dimension l.count
    (cell l.grid.rows (gradient_of l.grid.shape.dimension l.grid.shape.order l.grid.rows l.slopes l.factors))
    l.initial.gradients l.gradients l.axis l.at
