-- `turn_tables::step_of` meets its contract: the weight of the axis, up or down. Assumes nothing.
use Rattle.std.proofs.Common.{◌<◌, ◌≤◌, mod-lt, arith}
use native.Mathlib.Nat.{one-le-pow}
use Rattle.common.proofs.Limits.{power_most}
use Rattle.common.proofs.Factorials.{factorial_pos}
use Rattle.turn_tables.proofs.Walks.{no_step, step_axis_below, step_up, step_down}
use Rattle.turn_tables.proofs.step_of.Goals.{After-axis_of-axis, After-power-weight}
use Rattle.turn_tables.proofs.step_of.Goals as goal

pub returns-then-dimension-e : goal.returns-then-dimension-e
returns-then-dimension-e c = let a = c.args in no_step a.shape.dimension a.shape.order a.case a.e c.if-dimension-e.true

pub nonzero_rem-case : goal.nonzero_rem-case
nonzero_rem-case c = rw c.factorial_of.ensures (factorial_pos c.args.shape.dimension)

pub axis_of-axis-requires : goal.axis_of-axis-requires
axis_of-axis-requires c =
    (c.args.shape.taken.dimension_most, rw c.factorial_of.ensures (mod-lt c.args.case (factorial_pos c.args.shape.dimension)), omega arith)

-- the axis is one of the dimension's
below : (c : After-axis_of-axis) → c.axis_of-axis.result < c.args.shape.dimension
below c =
    let a = c.args in
    step_axis_below a.shape.dimension a.case a.e c.factorial_of.result c.axis_of-axis.result
    c.factorial_of.ensures c.axis_of-axis.ensures c.if-dimension-e.false

-- its weight is from 1 to 4096
weight_least : (c : After-power-weight) → 1 ≤ c.power-weight.result
weight_least c =
    rw c.power-weight.ensures (one-le-pow _ c.args.shape.order
    c.args.shape.taken.order_least)

weight_most : (c : After-power-weight) → c.power-weight.result ≤ 4096
weight_most c = rw c.power-weight.ensures
    (power_most c.args.shape.order _ c.args.shape.taken.order_most (omega arith))

pub overflow_sub-dimension-2 : goal.overflow_sub-dimension-2
overflow_sub-dimension-2 c = omega (arith, below (goal.at.overflow_sub-dimension-2 c).After-axis_of-axis)

pub is_negative-requires : goal.is_negative-requires
is_negative-requires c = omega (arith, below (goal.at.is_negative-requires c).After-axis_of-axis)

pub overflow_sub-result : goal.overflow_sub-result
overflow_sub-result c = weight_least (goal.at.overflow_sub-result c).After-power-weight

pub overflow_sub-result-then-is_negative : goal.overflow_sub-result-then-is_negative
overflow_sub-result-then-is_negative c = omega (arith, weight_most (goal.at.overflow_sub-result-then-is_negative c).After-power-weight)

pub returns-then-is_negative : goal.returns-then-is_negative
returns-then-is_negative c =
    let a = c.args in
    step_down a.shape.dimension a.shape.order a.case a.e c.factorial_of.result c.axis_of-axis.result c.power-weight.result
    c.factorial_of.ensures c.axis_of-axis.ensures c.power-weight.ensures c.if-dimension-e.false
    c.is_negative.result c.is_negative.ensures c.if-is_negative.true (weight_least (goal.at.returns-then-is_negative c).After-power-weight)

pub returns : goal.returns
returns c =
    let a = c.args in
    step_up a.shape.dimension a.shape.order a.case a.e c.factorial_of.result c.axis_of-axis.result c.power-weight.result
    c.factorial_of.ensures c.axis_of-axis.ensures c.power-weight.ensures c.if-dimension-e.false
    c.is_negative.result c.is_negative.ensures c.if-is_negative.false
