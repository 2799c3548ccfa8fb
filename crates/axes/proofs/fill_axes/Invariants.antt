-- `axes::fill_axes` meets its contract. The loop keeps: the columns of the axes before `axis` are filled. Assumes nothing.
use mathlib.Core.Path.{◌≡◌}
use mathlib.Core.Bool.{cond}
use Prim.Native.Nat.{◌+◌, ◌*◌}
use lib.ListN.{length}
use Rattle.common.specs.Lists.{stretch}
use Rattle.common.specs.Matrices.{cell}
use Rattle.common.proofs.Steps.{Stepping}
use Rattle.axes.specs.Axes.{S, S'}
use Rattle.axes.proofs.Stretches.{axes_at}
use Rattle.axes.proofs.fill_axes.Given as goal

abbrev pub invariant-loop-axis : goal.invariant-loop-axis
invariant-loop-axis l =
    let p = l.grid.shape.order in
    let P = l.grid.rows in
    record {
      values : length l.values ≡ length l.initial.values;
      gradients : length l.gradients ≡ length l.initial.gradients;
      long : length l.slopes ≡ length l.initial.slopes;
      factors : Stepping 0 l.grid.shape.dimension (p * P) (cell P (axes_at (S p l.node_polynomials) p P l.points))
          l.initial.factors l.factors l.axis (0 + l.axis * (p * P));
      slopes : l.slopes ≡ cond l.with_gradients (stretch 0 (l.axis * (p * P)) (cell P (axes_at (S' p l.grid.side l.node_polynomials) p P
          l.points)) l.initial.slopes) l.initial.slopes;
    }
