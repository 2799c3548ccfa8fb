-- `curvatures::columns::fill_pairs` meets its contract. The loop keeps `Stepping`: the columns of the pairs before q are filled. Assumes
-- nothing.
use Rattle.common.specs.Matrices.{cell}
use Rattle.common.proofs.Steps.{Stepping}
use Rattle.curvatures.specs.Working.{curvature_of}
use Rattle.curvatures.proofs.columns.fill_pairs.Given as goal

abbrev pub invariant-loop-q : goal.invariant-loop-q
invariant-loop-q l = Stepping 0 l.pairs l.count
    (cell l.grid.rows (curvature_of l.grid.shape.dimension l.grid.shape.order l.grid.rows l.factors l.slopes l.bends))
    l.initial.curvatures l.curvatures l.q l.at
