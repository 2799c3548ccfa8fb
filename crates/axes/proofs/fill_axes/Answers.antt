-- `axes::fill_axes` meets its contract. The loop keeps: the columns of the axes before `axis` are filled. Assumes nothing.
use borrow.Author.Rules.{rules}
use mathlib.Core.Path.{◌≡◌, refl, ◌∙◌}
use Prim.Native.Nat.{◌+◌, ◌*◌, ◌≤◌}
use native.Mathlib.Nat.{zero-add, zero-mul, mul_assoc}
use native.Mathlib.Omega.{arith}
use Rattle.common.specs.Matrices.{cell}
use Rattle.common.proofs.Matrices.{next_column, column_fits, columns_filled}
use Rattle.common.proofs.Steps.{stepping_more, stepping_done}
use Rattle.axes.specs.Axes.{S, S'}
use Rattle.axes.proofs.Stretches.{stepping_first, stepping_next, axes_at, axis_block}
use Rattle.axes.proofs.Stretches.{wanted_fits, wanted_none, wanted_more, wanted_filled}
use Rattle.axes.proofs.fill_axes.Goals.{In-loop-axis}
use Rattle.axes.proofs.fill_axes.Goals as goal

-- the axis's points, and the room for its columns
axis_room : (c : In-loop-axis) →
    let g = c.args.grid in c.loop-axis.axis * g.rows + g.rows ≤ g.shape.dimension * g.rows
axis_room c =
    let g = c.args.grid in
    column_fits c.loop-axis.axis g.shape.dimension g.rows _ c.loop-axis-test.true refl

room : (c : In-loop-axis) →
    let g = c.args.grid in
    c.loop-axis.axis * (g.shape.order * g.rows) + g.shape.order * g.rows ≤ g.shape.dimension * g.shape.order * g.rows
room c =
    let g = c.args.grid in
    rw mul_assoc (column_fits c.loop-axis.axis g.shape.dimension (g.shape.order * g.rows) _ c.loop-axis-test.true refl)

pub loop-axis-init : goal.loop-axis-init
loop-axis-init c =
    let a = c.args in
    let p = a.grid.shape.order in
    let P = a.grid.rows in
    record {
      values = refl;
      gradients = refl;
      long = refl;
      factors = stepping_first 0 a.grid.shape.dimension _ (cell P (axes_at (S p a.node_polynomials.now) p P a.points.now)) _;
      slopes = rw zero-mul (wanted_none a.with_gradients
          (cell P (axes_at (S' p a.grid.side a.node_polynomials.now) p P a.points.now)) _);
    }

pub loop-axis-preserved : goal.loop-axis-preserved
loop-axis-preserved c =
    let a = c.args in
    let p = a.grid.shape.order in
    let P = a.grid.rows in
    let l = c.loop-axis in
    let m = c.loop-axis-test.true in
    let count = c.on_axis-count.ensures in
    let call = rw count at c.fill_axis.ensures in
    let fits = room (goal.at.loop-axis-preserved c).In-loop-axis in
    record {
      values = search rules;
      gradients = search rules;
      long = search rules;
      factors = stepping_next 0 a.grid.shape.dimension (p * P) (cell P (axes_at (S p a.node_polynomials.now) p P a.points.now)) _ _ _ l.axis
          (stepping_more 0 a.grid.shape.dimension _ (cell P (axes_at (S p a.node_polynomials.now) p P a.points.now)) _ _ _ l.axis _ _
          l.invariant.factors m (rw (c.requires.factors, mul_assoc) (omega arith))
          (axis_block (S p a.node_polynomials.now) p P a.points.now l.axis _ refl) (rw (← zero-add (l.axis * (p * P))) at call.0));
      slopes = rw (next_column l.axis (p * P)) (wanted_more a.with_gradients (l.axis * (p * P)) _ (p * P)
          (cell P (axes_at (S' p a.grid.side a.node_polynomials.now) p P a.points.now)) _ a.slopes.now l.slopes _ refl
          (axis_block (S' p a.grid.side a.node_polynomials.now) p P a.points.now l.axis _ refl)
          (wanted_fits a.with_gradients _ (a.grid.shape.dimension * p * P) _ fits c.requires.slopes) l.invariant.slopes call.1);
    }

pub returns : goal.returns
returns c =
    let a = c.args in
    let p = a.grid.shape.order in
    let P = a.grid.rows in
    let l = c.loop-axis in
    let all : l.axis ≡ a.grid.shape.dimension = omega arith in
    let done = stepping_done 0 a.grid.shape.dimension _ (cell P (axes_at (S p a.node_polynomials.now) p P a.points.now)) _ _ _ _
    l.invariant.factors c.loop-axis-test.false in (
      rw (← mul_assoc) at done
          ∙ columns_filled P (axes_at (S p a.node_polynomials.now) p P a.points.now) (a.grid.shape.dimension * p) _ c.requires.factors,
      wanted_filled a.with_gradients P (a.grid.shape.dimension * p)
          (axes_at (S' p a.grid.side a.node_polynomials.now) p P a.points.now) _ _ c.requires.slopes
          (rw (all, ← mul_assoc) at l.invariant.slopes),
    )
