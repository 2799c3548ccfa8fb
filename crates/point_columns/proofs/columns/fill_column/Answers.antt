-- `point_columns::columns::fill_column` meets its contract. The loop keeps `Stepping`: the first k cycles are filled. Assumes nothing.
use mathlib.Core.Path.{◌≡◌, ap, ◌∙◌}
use Prim.Native.Nat.{ℕ, ◌+◌, ◌-◌, ◌*◌, ◌≤◌}
use native.Mathlib.Nat.{zero-mul, add-zero}
use native.Mathlib.Omega.{arith}
use lib.ListN.{length}
use Rattle.common.specs.Lists.{stretch}
use Rattle.common.proofs.Matrices.{next_column}
use Rattle.common.proofs.Steps.{stepping_none, stepping_fits, stepping_more, stepping_done}
use Rattle.point_columns.specs.Blocks.{node_on}
use Rattle.point_columns.proofs.Places.{cycle_value, cycle_most, column_whole}
use Rattle.point_columns.proofs.columns.fill_column.Goals.{In-loop-k}
use Rattle.point_columns.proofs.columns.fill_column.Goals as goal

-- there is room for the cycle
room : (c : In-loop-k) →
    let cycle = c.args.shape.order * c.power-run.result in c.args.at + c.loop-k.k * cycle + cycle ≤ length c.loop-k.points
room c =
    let l = c.loop-k in
    let a = c.args in
    omega (
      arith,
      stepping_fits a.at _ _ (node_on a.shape.dimension a.shape.order a.axis a.values.now) _ _ _ _ l.invariant
          c.loop-k-test.true,
      column_whole a.shape.dimension a.shape.order a.axis _ _ c.requires.0 c.power-cycles.ensures c.power-run.ensures,
      l.invariant.long,
      c.requires.1,
    )

pub power-cycles-requires : goal.power-cycles-requires
power-cycles-requires c = (c.args.shape.taken.order_most, omega (arith, c.args.shape.taken.dimension_most, c.requires.0))

pub overflow_sub-shape : goal.overflow_sub-shape
overflow_sub-shape c = omega (arith, c.requires.0)

pub overflow_sub-shape-2 : goal.overflow_sub-shape-2
overflow_sub-shape-2 c = omega (arith, c.requires.0)

pub power-run-requires : goal.power-run-requires
power-run-requires c = (c.args.shape.taken.order_most, omega (arith, c.args.shape.taken.dimension_most, c.requires.0))

pub overflow_mul-cycle : goal.overflow_mul-cycle
overflow_mul-cycle c =
    let s = c.args.shape in
    let most : s.dimension - 1 - c.args.axis ≤ 3 = omega (arith, s.taken.dimension_most) in
    omega (arith, cycle_most s.order (s.dimension - 1 - c.args.axis) _ s.taken.order_most most c.power-run.ensures)

pub loop-k-init : goal.loop-k-init
loop-k-init c =
    let a = c.args in
    rw (zero-mul, add-zero) (stepping_none a.at _ _ (node_on a.shape.dimension a.shape.order a.axis a.values.now) _)

pub overflow_mul-to : goal.overflow_mul-to
overflow_mul-to c = omega (arith, room (goal.at.overflow_mul-to c).In-loop-k, c.loop-k.invariant.long, c.well_formed)

pub overflow_add-to : goal.overflow_add-to
overflow_add-to c = omega (arith, room (goal.at.overflow_add-to c).In-loop-k, c.loop-k.invariant.long, c.well_formed)

pub fill_cycle-requires : goal.fill_cycle-requires
fill_cycle-requires c = (c.args.shape.taken.order_most, room (goal.at.fill_cycle-requires c).In-loop-k)

pub loop-k-preserved : goal.loop-k-preserved
loop-k-preserved c =
    let l = c.loop-k in
    let a = c.args in
    let cycle = a.shape.order * c.power-run.result in
    let next : a.at + (l.k + 1) * cycle ≡ a.at + l.k * cycle + cycle = omega (arith, next_column l.k cycle) in
    rw next
    (stepping_more a.at _ _ (node_on a.shape.dimension a.shape.order a.axis a.values.now) _ _ _ _ _ _ l.invariant
    c.loop-k-test.true
    (rw (column_whole a.shape.dimension a.shape.order a.axis _ _ c.requires.0 c.power-cycles.ensures c.power-run.ensures) c.requires.1)
    (λ j h. cycle_value a.shape.dimension a.shape.order a.axis a.values.now _ l.k j c.power-run.ensures h)
    c.fill_cycle.ensures)

pub returns : goal.returns
returns c =
    let l = c.loop-k in
    let a = c.args in
    let whole = column_whole a.shape.dimension a.shape.order a.axis _ _ c.requires.0 c.power-cycles.ensures c.power-run.ensures in
    let f = node_on a.shape.dimension a.shape.order a.axis a.values.now in
    stepping_done a.at _ _ f _ _ _ _ l.invariant c.loop-k-test.false ∙ ap (λ (m : ℕ). stretch a.at m f a.points.now) whole
