-- `coefficients::columns::fill_axes_columns` meets its contract. The loop keeps `Stepping`: the columns of the axes before `axis` are
-- filled. Assumes nothing.
use mathlib.Core.Path.{ap, ◌∙◌}
use Prim.Native.Nat.{ℕ, ◌+◌, ◌*◌, ◌^◌, ◌≤◌}
use native.Mathlib.Nat.{mul_assoc, mul-le-mul}
use native.Mathlib.Omega.{arith}
use lib.ListN.{length}
use Rattle.common.specs.Matrices.{cell}
use Rattle.common.proofs.Fill.{part_length}
use Rattle.common.proofs.Limits.{power_most}
use Rattle.common.proofs.Matrices.{columns_filled}
use Rattle.common.proofs.Steps.{stepping_none, stepping_fits, stepping_done}
use Rattle.coefficients.specs.Working.{gradient_of}
use Rattle.coefficients.proofs.Stretches.{gradient_more}
use Rattle.coefficients.proofs.columns.fill_axes_columns.Goals.{In-loop-axis}
use Rattle.coefficients.proofs.columns.fill_axes_columns.Goals as goal

-- the axis's columns have their place
room : (c : In-loop-axis) →
    let a = c.args in
    c.loop-axis.at + c.nodes.result * a.grid.rows ≤ length c.loop-axis.gradients
room c =
    let a = c.args in
    let l = c.loop-axis in
    let whole : a.grid.shape.dimension * (c.nodes.result * a.grid.rows) ≤ length a.gradients.now =
    rw (c.nodes.ensures, ← mul_assoc) (omega (arith, c.requires.2)) in
    omega (
      arith,
      stepping_fits 0 a.grid.shape.dimension _ (cell a.grid.rows
          (gradient_of a.grid.shape.dimension a.grid.shape.order a.grid.rows a.slopes.now a.factors.now)) _ _ _ _ l.invariant
          c.loop-axis-test.true,
      l.invariant.long,
    )

pub overflow_mul-count : goal.overflow_mul-count
overflow_mul-count c =
    let a = c.args in
    let most = power_most a.grid.shape.order a.grid.shape.dimension a.grid.shape.taken.order_most a.grid.shape.taken.dimension_most in
    omega (
      arith,
      mul-le-mul {n₁ = c.nodes.result} {m₁ = a.grid.rows} {n₂ = 4096} {m₂ = 4096}
          (rw c.nodes.ensures most) a.grid.few,
    )

pub loop-axis-init : goal.loop-axis-init
loop-axis-init c = let a = c.args in stepping_none 0 a.grid.shape.dimension _
    (cell a.grid.rows (gradient_of a.grid.shape.dimension a.grid.shape.order a.grid.rows a.slopes.now a.factors.now)) _

pub overflow_add-end : goal.overflow_add-end
overflow_add-end c = omega (arith, room (goal.at.overflow_add-end c).In-loop-axis, c.loop-axis.invariant.long, c.well_formed)

pub offset_bounds-gradients-at : goal.offset_bounds-gradients-at
offset_bounds-gradients-at c = omega (arith, room (goal.at.offset_bounds-gradients-at c).In-loop-axis, c.loop-axis.invariant.long, c.well_formed)

pub slice_bounds-fill_started-end : goal.slice_bounds-fill_started-end
slice_bounds-fill_started-end c = omega (arith, room (goal.at.slice_bounds-fill_started-end c).In-loop-axis)

pub fill_started-requires : goal.fill_started-requires
fill_started-requires c =
    let a = c.args in
    let n = c.nodes.ensures in (
      c.loop-axis-test.true,
      c.requires.0,
      c.requires.1,
      part_length _ _ (a.grid.shape.order ^ a.grid.shape.dimension * a.grid.rows) _ (ap (λ (k : ℕ). c.loop-axis.at + k * a.grid.rows) n)
          (rw n at (room (goal.at.fill_started-requires c).In-loop-axis)),
    )

pub loop-axis-preserved : goal.loop-axis-preserved
loop-axis-preserved c =
    let a = c.args in
    let l = c.loop-axis in
    gradient_more a.grid.shape.dimension a.grid.shape.order a.grid.rows a.slopes.now a.factors.now l.axis a.gradients.now
    l.gradients _ _ l.at
    c.nodes.ensures c.loop-axis-test.true c.requires.2 l.invariant c.fill_started.ensures

pub shape_of-gradients : goal.shape_of-gradients
shape_of-gradients c = c.loop-axis.invariant.long

pub returns : goal.returns
returns c =
    let a = c.args in
    let done = stepping_done 0 a.grid.shape.dimension _ (cell a.grid.rows
    (gradient_of a.grid.shape.dimension a.grid.shape.order a.grid.rows a.slopes.now a.factors.now)) _ _ _ _
    c.loop-axis.invariant c.loop-axis-test.false in
    rw (c.nodes.ensures, ← mul_assoc) at done
    ∙ columns_filled a.grid.rows _ (a.grid.shape.dimension * a.grid.shape.order ^ a.grid.shape.dimension) a.gradients.now c.requires.2
