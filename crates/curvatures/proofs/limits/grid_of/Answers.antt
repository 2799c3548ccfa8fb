-- `curvatures::limits::grid_of` meets its contract: each return by the tests that led there. Assumes nothing.
-- WHAT HOLDS past each test
use mathlib.Core.Path.{◌≡◌, sym, ◌∙◌}
use mathlib.Core.Bool.{true, false, not}
use native.Mathlib.Omega.{arith}
use Prim.Native.Nat.{◌≤◌}
use Rattle.common.specs.Refusals.{Shape, is_cell, most_points}
use Rattle.common.proofs.Cases.{of_not}
use Rattle.common.proofs.Numbers.{handed_on, number_above}
use Rattle.curvatures.specs.Curvatures.{lengths_of, alike}
use Rattle.curvatures.proofs.Calls.{number_grid, number_length, number_side, number_finite, number_none}
use Rattle.curvatures.proofs.limits.grid_of.Goals.{In_ok-grid, After-ne, Else-not-is_cell}
use Rattle.curvatures.proofs.limits.grid_of.Goals as goal

shape : (c : In_ok-grid) → Shape c.args.dimension c.args.order
shape c = let is = c.in_ok-grid.ensures.grid in rw (is.0, is.1) at c.in_ok-grid.grid.shape.taken

few : (c : In_ok-grid) → c.args.rows ≤ most_points
few c = rw c.in_ok-grid.ensures.grid.3 at c.in_ok-grid.grid.few

-- `!=` says whether the lengths are alike
different : (c : After-ne) →
    let a = c.args in c.ne.result ≡ not (alike a.lent (lengths_of a.dimension a.order a.rows))
unfolding alike
different c =
    let is = c.in_ok-grid.ensures.grid in
    let wanted = rw (is.0, is.1, is.3) at c.lengths_of-wanted.ensures in
    rw wanted at c.ne.ensures

fit : (c : After-ne) → c.ne.result ≡ false →
    let a = c.args in alike a.lent (lengths_of a.dimension a.order a.rows) ≡ true
fit c h =
    let a = c.args in
    of_not (alike a.lent (lengths_of a.dimension a.order a.rows)) _ (sym (different c) ∙ h)

cell : (c : Else-not-is_cell) → is_cell c.args.side ≡ true
cell c = sym c.is_cell.ensures ∙ c.if-not-is_cell.false

-- THE RETURNS

pub returns-in_err-grid-clause-number : goal.returns-in_err-grid-clause-number
returns-in_err-grid-clause-number c =
    let e = c.in_err-grid.ensures.number in
    handed_on _ _ c.from_residual.ensures.1 ∙ e
    ∙ number_grid _ _ _ _ _ _ (λ z. omega (arith, number_above c.in_err-grid.field-0.0, e, z))

pub returns-then-ne-clause-number : goal.returns-then-ne-clause-number
returns-then-ne-clause-number c =
    let a = c.args in
    let at = goal.at.returns-then-ne-clause-number c in
    number_length _ _ _ _ _ _ (shape at.In_ok-grid) (few at.In_ok-grid)
    (of_not (alike a.lent (lengths_of a.dimension a.order a.rows)) _ (sym (different at.After-ne) ∙ c.if-ne.true))

pub returns-then-not-is_cell-clause-number : goal.returns-then-not-is_cell-clause-number
returns-then-not-is_cell-clause-number c =
    let at = goal.at.returns-then-not-is_cell-clause-number c in
    number_side _ _ _ _ _ _ (shape at.In_ok-grid) (few at.In_ok-grid) (fit at.After-ne c.if-ne.false) (sym c.is_cell.ensures ∙ c.if-not-is_cell.true)

pub returns-then-not-all_finite-clause-number : goal.returns-then-not-all_finite-clause-number
returns-then-not-all_finite-clause-number c =
    let at = goal.at.returns-then-not-all_finite-clause-number c in
    number_finite _ _ _ _ _ _ (shape at.In_ok-grid) (few at.In_ok-grid) (fit at.After-ne c.if-ne.false) (cell at.Else-not-is_cell)
    (sym c.all_finite.ensures ∙ c.if-not-all_finite.true)

pub returns-clause-number : goal.returns-clause-number
returns-clause-number c =
    let at = goal.at.returns-clause-number c in
    number_none _ _ _ _ _ _ (shape at.In_ok-grid) (few at.In_ok-grid) (fit at.After-ne c.if-ne.false) (cell at.Else-not-is_cell)
    (sym c.all_finite.ensures ∙ c.if-not-all_finite.false)
