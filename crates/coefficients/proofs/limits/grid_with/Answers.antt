-- `coefficients::limits::grid_with` meets its contract: each return by the tests that led there. Assumes nothing.
-- WHAT HOLDS past each test
use mathlib.Core.Path.{◌≡◌, sym, ◌∙◌}
use mathlib.Core.Bool.{true, false, not}
use native.Mathlib.Omega.{arith}
use Prim.Native.Nat.{◌≤◌}
use Rattle.common.specs.Refusals.{Shape, most_points}
use Rattle.common.proofs.Cases.{of_not}
use Rattle.common.proofs.Numbers.{handed_on, number_above}
use Rattle.coefficients.specs.Coefficients.{with_gradients, takes_side, lengths_fit}
use Rattle.coefficients.proofs.Calls.{number_grid, number_length, number_side, number_finite, number_none}
use Rattle.coefficients.proofs.limits.grid_with.Goals.{In_ok-grid, After-ne, Else-not-takes_side}
use Rattle.coefficients.proofs.limits.grid_with.Goals as goal

shape : (c : In_ok-grid) → Shape c.args.dimension c.args.order
shape c = let is = c.in_ok-grid.ensures.grid in rw (is.0, is.1) at c.in_ok-grid.grid.shape.taken

few : (c : In_ok-grid) → c.args.rows ≤ most_points
few c = rw c.in_ok-grid.ensures.grid.3 at c.in_ok-grid.grid.few

-- `!=` says whether the lengths fit
different : (c : After-ne) →
    let a = c.args in c.ne.result ≡ not (lengths_fit a.dimension a.order a.rows (with_gradients a.wanted) a.lent)
unfolding lengths_fit
different c =
    let is = c.in_ok-grid.ensures.grid in
    let needed = rw (is.0, is.1, is.3, c.with_gradients.ensures) at c.lengths_of-needed.ensures in
    rw needed at c.ne.ensures

fit : (c : After-ne) → c.ne.result ≡ false →
    let a = c.args in lengths_fit a.dimension a.order a.rows (with_gradients a.wanted) a.lent ≡ true
fit c h =
    let a = c.args in
    of_not (lengths_fit a.dimension a.order a.rows (with_gradients a.wanted) a.lent) _ (sym (different c) ∙ h)

side : (c : Else-not-takes_side) → takes_side c.args.wanted ≡ true
side c = sym c.takes_side.ensures ∙ c.if-not-takes_side.false

-- THE RETURNS

pub returns-in_err-grid-clause-number : goal.returns-in_err-grid-clause-number
returns-in_err-grid-clause-number c =
    let e = c.in_err-grid.ensures.number in
    handed_on _ _ c.from_residual.ensures.1 ∙ e
    ∙ number_grid _ _ _ _ _ _ (λ z. omega (arith, number_above c.in_err-grid.field-0.0, e, z))

pub returns-then-ne-clause-number : goal.returns-then-ne-clause-number
returns-then-ne-clause-number c =
    let a = c.args in
    let at = goal.at.returns-then-ne-clause-number c in
    number_length _ _ _ _ _ _ (shape at.In_ok-grid) (few at.In_ok-grid)
    (of_not (lengths_fit a.dimension a.order a.rows (with_gradients a.wanted) a.lent) _ (sym (different at.After-ne) ∙ c.if-ne.true))

pub returns-then-not-takes_side-clause-number : goal.returns-then-not-takes_side-clause-number
returns-then-not-takes_side-clause-number c =
    let at = goal.at.returns-then-not-takes_side-clause-number c in
    number_side _ _ _ _ _ _ (shape at.In_ok-grid) (few at.In_ok-grid) (fit at.After-ne c.if-ne.false)
    (sym c.takes_side.ensures ∙ c.if-not-takes_side.true)

pub returns-then-not-all_finite-clause-number : goal.returns-then-not-all_finite-clause-number
returns-then-not-all_finite-clause-number c =
    let at = goal.at.returns-then-not-all_finite-clause-number c in
    number_finite _ _ _ _ _ _ (shape at.In_ok-grid) (few at.In_ok-grid) (fit at.After-ne c.if-ne.false) (side at.Else-not-takes_side)
    (sym c.all_finite.ensures ∙ c.if-not-all_finite.true)

pub returns-clause-number : goal.returns-clause-number
returns-clause-number c =
    let at = goal.at.returns-clause-number c in
    number_none _ _ _ _ _ _ (shape at.In_ok-grid) (few at.In_ok-grid) (fit at.After-ne c.if-ne.false) (side at.Else-not-takes_side)
    (sym c.all_finite.ensures ∙ c.if-not-all_finite.false)
