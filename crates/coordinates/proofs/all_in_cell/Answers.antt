-- `coordinates::all_in_cell` meets its contract. The loop keeps: the points are in the cell on the axes before `axis`. Assumes nothing.
use mathlib.Core.Path.{◌≡◌, refl, sym, ◌∙◌}
use Prim.Native.Nat.{◌+◌, ◌*◌, ◌≤◌}
use native.Mathlib.Omega.{arith}
use lib.ListN.{length}
use Rattle.common.specs.Tests.{each}
use Rattle.common.proofs.Matrices.{column_fits}
use Rattle.common.proofs.Tests.{each_not, each_more}
use Rattle.coordinates.specs.Coordinates.{all_in_cell}
use Rattle.coordinates.proofs.all_in_cell.Goals.{In-loop-axis}
use Rattle.coordinates.proofs.all_in_cell.Invariants.{on}
use Rattle.coordinates.proofs.all_in_cell.Goals as goal

-- there is a column for the axis
room : (c : In-loop-axis) → c.loop-axis.axis * c.args.rows + c.args.rows ≤ length c.args.points.now
room c = omega (arith, column_fits c.loop-axis.axis c.args.dimension c.args.rows _ c.loop-axis-test.true refl, c.requires.2)

pub loop-axis-init : goal.loop-axis-init
unfolding each
loop-axis-init c = refl

pub bounds-centre-axis : goal.bounds-centre-axis
bounds-centre-axis c = omega (arith, c.requires.1, c.loop-axis-test.true)

pub overflow_mul-axis : goal.overflow_mul-axis
overflow_mul-axis c = omega (arith, room (goal.at.overflow_mul-axis c).In-loop-axis, c.well_formed)

pub axis_in_cell-requires : goal.axis_in_cell-requires
axis_in_cell-requires c = room (goal.at.axis_in_cell-requires c).In-loop-axis

pub returns-then-not-axis_in_cell : goal.returns-then-not-axis_in_cell
unfolding all_in_cell
returns-then-not-axis_in_cell c =
    let a = c.args in
    sym (each_not a.dimension (on a.rows a.side a.centre.now a.points.now) c.loop-axis.axis c.loop-axis-test.true
    (sym c.axis_in_cell.ensures ∙ c.if-not-axis_in_cell.true))

pub loop-axis-preserved : goal.loop-axis-preserved
loop-axis-preserved c =
    let a = c.args in
    each_more c.loop-axis.axis (on a.rows a.side a.centre.now a.points.now) c.loop-axis.invariant
    (sym c.axis_in_cell.ensures ∙ c.if-not-axis_in_cell.false)

pub returns : goal.returns
unfolding all_in_cell
returns c = let all : c.loop-axis.axis ≡ c.args.dimension = omega arith in sym (rw all at c.loop-axis.invariant)
