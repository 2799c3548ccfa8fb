-- `point_columns::blocks::fill_points` meets its contract. The loop keeps `Stepping`: the columns before `axis` are filled; and the
-- values keep their length. Assumes nothing.
use mathlib.Core.Path.{refl, ap, ◌∙◌}
use Prim.Native.Nat.{◌+◌, ◌^◌, ◌≤◌}
use native.Mathlib.Omega.{arith}
use lib.Ieee.{Float, nan}
use lib.ListN.{length, get_or}
use Rattle.common.specs.Matrices.{cell}
use Rattle.common.proofs.Fill.{stretch_length}
use Rattle.common.proofs.Steps.{stepping_none, stepping_fits, stepping_done}
use Rattle.point_columns.specs.Blocks.{node_on}
use Rattle.point_columns.specs.Working.{on_axis, block_point}
use Rattle.point_columns.proofs.Places.{column_room, column_more, points_done}
use Rattle.point_columns.proofs.blocks.fill_points.Goals.{In-loop-axis}
use Rattle.point_columns.proofs.blocks.fill_points.Goals as goal

-- there is room for the column
room : (c : In-loop-axis) →
    let l = c.loop-axis in
    let a = c.args in
    l.at + a.shape.order ^ a.shape.dimension ≤ length l.points
room c =
    let l = c.loop-axis in
    let a = c.args in
    column_room a.shape.dimension a.shape.order _ _ _ c.nodes-rows.ensures (l.invariant.1.long ∙ c.requires.1)
    (stepping_fits 0 a.shape.dimension _ (cell _ (block_point a.is_source a.shape.dimension a.shape.order a.side a.vector a.nodes.now))
    _ _ _ _ l.invariant.1 c.loop-axis-test.true)

pub loop-axis-init : goal.loop-axis-init
loop-axis-init c =
    let a = c.args in (
      refl,
      stepping_none 0 a.shape.dimension _ (cell _ (block_point a.is_source a.shape.dimension a.shape.order a.side a.vector
          a.nodes.now)) _,
    )

pub offset_on-away-requires : goal.offset_on-away-requires
offset_on-away-requires c = omega (arith, c.args.shape.taken.dimension_most)

pub fill_values-requires : goal.fill_values-requires
fill_values-requires c =
    rw c.requires.0 c.args.shape.taken.order_most

pub fill_column-requires : goal.fill_column-requires
fill_column-requires c =
    (c.loop-axis-test.true, room (goal.at.fill_column-requires c).In-loop-axis)

pub overflow_add-at : goal.overflow_add-at
overflow_add-at c =
    let l = c.loop-axis in
    omega (arith, room (goal.at.overflow_add-at c).In-loop-axis, c.nodes-rows.ensures, l.invariant.1.long, c.well_formed)

pub loop-axis-preserved : goal.loop-axis-preserved
loop-axis-preserved c =
    let l = c.loop-axis in
    let a = c.args in
    let e = c.nodes-rows.ensures in
    let made = rw c.requires.0 at c.fill_values.ensures in (
      ap length c.fill_values.ensures
          ∙ stretch_length 0 (λ j. on_axis a.is_source a.side _ (get_or a.nodes.now j nan)) _ (length a.nodes.now)
          (omega (arith, l.invariant.0, c.requires.0, c.args.shape.taken.order_most)) ∙ l.invariant.0,
      column_more a.shape.dimension a.shape.order _ (block_point a.is_source a.shape.dimension a.shape.order a.side a.vector a.nodes.now)
          _ _ _
          l.axis l.at _ _ _ e c.requires.1 c.args.shape.taken.order_least l.invariant.1 c.loop-axis-test.true made
          (λ n. ap (λ (r : Float). on_axis a.is_source a.side r (node_on a.shape.dimension a.shape.order l.axis a.nodes.now n))
          c.offset_on-away.ensures)
          c.fill_column.ensures,
    )

pub shape_of-points : goal.shape_of-points
shape_of-points c = c.loop-axis.invariant.1.long

pub returns : goal.returns
returns c =
    let l = c.loop-axis in
    let a = c.args in
    stepping_done 0 a.shape.dimension _ (cell _ (block_point a.is_source a.shape.dimension a.shape.order a.side a.vector a.nodes.now))
    _ _ _ _
    l.invariant.1 c.loop-axis-test.false
    ∙ points_done a.shape.dimension a.shape.order _ (block_point a.is_source a.shape.dimension a.shape.order a.side a.vector a.nodes.now) _
    c.nodes-rows.ensures c.requires.1
