-- `axes::grids::Grid::new` meets its contract: each return by the tests that led there. Assumes nothing.
use mathlib.Core.Path.{◌≡◌, sym, ◌∙◌}
use mathlib.Core.Bool.{true}
use native.Mathlib.Omega.{arith}
use borrow.Author.Tests.{lt-leb, le-leb}
use Rattle.common.specs.Refusals.{is_dimension, is_order}
use Rattle.common.proofs.Limits.{shape_in, shape_out}
use Rattle.common.proofs.Numbers.{handed_on, number_above}
use Rattle.axes.specs.Axes.{grid_number}
use Rattle.axes.proofs.grids.Grid.new.Goals.{In_ok-shape}
use Rattle.axes.proofs.grids.Grid.new.Goals as goal

both : (c : In_ok-shape) → (is_dimension c.args.dimension ≡ true) × (is_order c.args.order ≡ true)
both c = shape_in _ _ (sym c.in_ok-shape.ensures.number)

pub returns-in_err-shape-clause-number : goal.returns-in_err-shape-clause-number
unfolding grid_number
returns-in_err-shape-clause-number c =
    let e = c.in_err-shape.ensures.number in
    handed_on _ _ c.from_residual.ensures.1 ∙ e
    ∙ shape_out c.args.dimension c.args.order _ (λ z. omega (arith, number_above c.in_err-shape.field-0.0, e, z))

pub returns-then-rows-gt-MOST_POINTS-clause-number : goal.returns-then-rows-gt-MOST_POINTS-clause-number
unfolding grid_number
returns-then-rows-gt-MOST_POINTS-clause-number c =
    let is = both (goal.at.returns-then-rows-gt-MOST_POINTS-clause-number c).In_ok-shape in
    rw (is.0, is.1, lt-leb c.args.rows 4096 c.if-rows-gt-MOST_POINTS.true)

pub returns-clause-number : goal.returns-clause-number
unfolding grid_number
returns-clause-number c =
    let is = both (goal.at.returns-clause-number c).In_ok-shape in
    rw (is.0, is.1, le-leb c.args.rows 4096 c.if-rows-gt-MOST_POINTS.false)
