-- `coordinates::check_points` meets its contract: each return by the tests that led there. Assumes nothing.
use mathlib.Core.Path.{◌≡◌, sym, ◌∙◌}
use mathlib.Core.Bool.{true}
use Rattle.common.specs.Refusals.{is_cell}
use Rattle.coordinates.specs.Coordinates.{all_finite}
use Rattle.coordinates.proofs.Numbers.{number_cell, number_points, number_centre, number_outside, number_none}
use Rattle.coordinates.proofs.check_points.Goals.{Else-not-all_finite, Else-not-all_finite-2, Else-not-is_cell}
use Rattle.coordinates.proofs.check_points.Goals.{then-not-all_finite-via-then-not-all_finite}
use Rattle.coordinates.proofs.check_points.Goals.{then-not-all_finite-via-else-not-all_finite+then-not-all_finite-2}
use Rattle.coordinates.proofs.check_points.Goals as goal

-- WHAT HOLDS past each test

cell : (c : Else-not-is_cell) → is_cell c.args.side ≡ true
cell c = sym c.is_cell.ensures ∙ c.if-not-is_cell.false

finite_points : (c : Else-not-all_finite) → all_finite c.args.points.now ≡ true
finite_points c = sym c.all_finite.ensures ∙ c.if-not-all_finite.false

finite_centre : (c : Else-not-all_finite-2) → all_finite c.args.centre.now ≡ true
finite_centre c = sym c.all_finite-else-not-all_finite.ensures ∙ c.if-not-all_finite-2.false

-- THE RETURNS

pub returns-then-not-is_cell : goal.returns-then-not-is_cell
returns-then-not-is_cell c = number_cell _ _ _ _ _ (sym c.is_cell.ensures ∙ c.if-not-is_cell.true)

pub returns-then-not-all_finite : goal.returns-then-not-all_finite
returns-then-not-all_finite c =
    let is-cell = cell (goal.at.returns-then-not-all_finite c).Else-not-is_cell in
    elim c.then-not-all_finite.branch [
      | then-not-all_finite-via-then-not-all_finite w ↦
          number_points _ _ _ _ _ is-cell (sym c.all_finite.ensures ∙ w.if-not-all_finite.true)
      | then-not-all_finite-via-else-not-all_finite+then-not-all_finite-2 w ↦
          number_centre _ _ _ _ _ is-cell (sym c.all_finite.ensures ∙ w.if-not-all_finite.false)
          (sym w.all_finite-else-not-all_finite.ensures ∙ w.if-not-all_finite-2.true)
    ]

pub returns-then-not-all_in_cell : goal.returns-then-not-all_in_cell
returns-then-not-all_in_cell c =
    let at = goal.at.returns-then-not-all_in_cell c in
    number_outside _ _ _ _ _ (cell at.Else-not-is_cell) (finite_points at.Else-not-all_finite) (finite_centre at.Else-not-all_finite-2)
    (sym c.all_in_cell.ensures ∙ c.if-not-all_in_cell.true)

pub returns : goal.returns
returns c =
    let at = goal.at.returns c in
    number_none _ _ _ _ _ (cell at.Else-not-is_cell) (finite_points at.Else-not-all_finite) (finite_centre at.Else-not-all_finite-2)
    (sym c.all_in_cell.ensures ∙ c.if-not-all_in_cell.false)
