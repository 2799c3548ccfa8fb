-- `coordinates::scale_axes` meets its contract. The loop keeps `Stepping`: the axes before `axis` are scaled. Assumes
-- nothing.
use mathlib.Core.Path.{◌∙◌}
use Prim.Native.Nat.{◌+◌, ◌*◌, ◌≤◌}
use native.Mathlib.Nat.{zero-mul}
use native.Mathlib.Omega.{arith}
use lib.ListN.{length}
use Rattle.common.specs.Matrices.{cell}
use Rattle.common.proofs.Steps.{stepping_none, stepping_fits, stepping_done}
use Rattle.common.proofs.Matrices.{next_column, columns_filled}
use Rattle.coordinates.specs.Coordinates.{coordinate}
use Rattle.coordinates.proofs.Steps.{axis_more}
use Rattle.coordinates.proofs.scale_axes.Goals.{In-loop-axis}
use Rattle.coordinates.proofs.scale_axes.Goals as goal

-- there is room for the axis
room : (c : In-loop-axis) → c.loop-axis.axis * c.args.rows + c.args.rows ≤ length c.loop-axis.points
room c =
    let a = c.args in
    let fits = stepping_fits 0 a.dimension a.rows (cell a.rows
    (coordinate a.rows a.side a.centre.now a.points.now)) _ _ _ _ c.loop-axis.invariant c.loop-axis-test.true in
    omega (arith, fits, c.loop-axis.invariant.long, c.requires.2)

pub loop-axis-init : goal.loop-axis-init
loop-axis-init c =
    let a = c.args in
    rw (zero-mul a.rows) (stepping_none 0 a.dimension a.rows (cell a.rows (coordinate a.rows a.side a.centre.now a.points.now)) _)

pub bounds-centre-axis : goal.bounds-centre-axis
bounds-centre-axis c = omega (arith, c.requires.1, c.loop-axis-test.true)

pub overflow_mul-axis : goal.overflow_mul-axis
overflow_mul-axis c = omega (arith, room (goal.at.overflow_mul-axis c).In-loop-axis, c.loop-axis.invariant.long, c.well_formed)

pub scale_axis-requires : goal.scale_axis-requires
scale_axis-requires c = room (goal.at.scale_axis-requires c).In-loop-axis

pub loop-axis-preserved : goal.loop-axis-preserved
loop-axis-preserved c =
    let a = c.args in
    rw (next_column c.loop-axis.axis a.rows) (axis_more a.dimension a.rows a.side a.centre.now a.points.now c.requires.2 _ _ _ _
    c.loop-axis.invariant c.loop-axis-test.true c.scale_axis.ensures)

pub shape_of-points : goal.shape_of-points
shape_of-points c = c.loop-axis.invariant.long

pub returns : goal.returns
returns c =
    let a = c.args in
    stepping_done 0 a.dimension a.rows (cell a.rows (coordinate a.rows a.side a.centre.now a.points.now)) _ _ _ _
    c.loop-axis.invariant c.loop-axis-test.false
    ∙ columns_filled a.rows (coordinate a.rows a.side a.centre.now a.points.now) a.dimension _ c.requires.2
