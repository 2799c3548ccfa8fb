-- `axes::fill_axis` meets its contract: what is made of sums of the polynomials; and of the derivatives if they are wanted. Assumes
-- nothing.
use mathlib.Core.Path.{◌≡◌, ap, ◌∙◌}
use mathlib.Core.Bool.{cond}
use mathlib.Core.List.{[]}
use lib.ListN.{length}
use Rattle.common.proofs.Matrices.{column_length}
use Rattle.polynomial_columns.specs.Recurrence.{T, T'}
use Rattle.chebyshev.specs.Polynomials.{at_points}
use Rattle.chebyshev.proofs.Calls.{polynomials_filled}
use Rattle.axes.specs.Axes.{factor_of, slope_of, S, S'}
use Rattle.axes.proofs.Accepted.{polynomials_taken}
use Rattle.axes.proofs.Stretches.{axis_finished, wanted_yes, wanted_no}
use Rattle.axes.proofs.fill_axis.Goals.{After-evaluate_chebyshev_polynomials}
use Rattle.axes.proofs.fill_axis.Goals as goal

-- the columns of T, and of T' if they are wanted
columns : (c : After-evaluate_chebyshev_polynomials) →
    let a = c.args in
    let g = a.grid in
    (c.evaluate_chebyshev_polynomials.new.tn ≡ at_points T g.shape.order g.rows a.points.now) ×
    (c.evaluate_chebyshev_polynomials.new.dtn ≡ cond a.with_gradients (at_points T' g.shape.order g.rows a.points.now) [])
columns c =
    let a = c.args in
    let is = a.grid.shape.taken in
    polynomials_filled a.grid.shape.order a.grid.rows a.with_gradients a.points.now a.tn.now a.dtn.now _ _ _ is.order_least is.order_most
    a.grid.few c.requires.points c.requires.values c.requires.derivatives c.evaluate_chebyshev_polynomials.ensures

pub unwrap-requires : goal.unwrap-requires
unwrap-requires c =
    let a = c.args in
    let is = a.grid.shape.taken in
    polynomials_taken a.grid.shape.order a.grid.rows a.with_gradients a.points.now a.tn.now a.dtn.now _ _ _ is.order_least is.order_most
    a.grid.few c.requires.points c.requires.values c.requires.derivatives c.evaluate_chebyshev_polynomials.ensures

pub fill_factors-requires : goal.fill_factors-requires
fill_factors-requires c =
    let t = columns (goal.at.fill_factors-requires c).After-evaluate_chebyshev_polynomials in
    let a = c.args in
    record {
      columns = ap length t.0 ∙ column_length a.grid.rows _ a.grid.shape.order;
      polynomials = c.requires.polynomials;
      room = c.requires.factors;
    }

pub fill_slopes-requires : goal.fill_slopes-requires
fill_slopes-requires c =
    let t = columns (goal.at.fill_slopes-requires c).After-evaluate_chebyshev_polynomials in
    let a = c.args in
    let w = c.if-with_gradients.true in
    record {
      columns = ap length (rw w at t.1) ∙ column_length a.grid.rows _ a.grid.shape.order;
      polynomials = c.requires.polynomials;
      room = rw w at c.requires.slopes;
    }

pub returns-then-with_gradients : goal.returns-then-with_gradients
unfolding S S'
returns-then-with_gradients c =
    let a = c.args in
    let p = a.grid.shape.order in
    let t = columns (goal.at.returns-then-with_gradients c).After-evaluate_chebyshev_polynomials in
    let w = c.if-with_gradients.true in (
      axis_finished T (factor_of p) p a.grid.rows a.points.now a.node_polynomials.now _ _ _ _ t.0 c.fill_factors.ensures,
      wanted_yes a.with_gradients _ _ _ w (axis_finished T' (slope_of p a.grid.side) p a.grid.rows a.points.now a.node_polynomials.now
          _ _ _ _ (rw w at t.1) c.fill_slopes.ensures),
    )

pub returns-else-with_gradients : goal.returns-else-with_gradients
unfolding S S'
returns-else-with_gradients c =
    let a = c.args in
    let p = a.grid.shape.order in
    let t = columns (goal.at.returns-else-with_gradients c).After-evaluate_chebyshev_polynomials in (
      axis_finished T (factor_of p) p a.grid.rows a.points.now a.node_polynomials.now _ _ _ _ t.0 c.fill_factors.ensures,
      wanted_no a.with_gradients _ _ c.if-with_gradients.false,
    )
