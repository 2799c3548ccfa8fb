-- `axes::sum_columns` meets its contract. The loop keeps `Stepping`: the columns before `node` are summed. Assumes nothing.
use mathlib.Core.Path.{sym}
use Prim.Native.Nat.{◌+◌, ◌*◌, ◌≤◌}
use native.Mathlib.Omega.{arith}
use lib.ListN.{length}
use Rattle.common.specs.Matrices.{cell}
use Rattle.common.proofs.Steps.{stepping_fits, stepping_more, stepping_done}
use Rattle.common.proofs.Matrices.{cell_at}
use Rattle.axes.specs.Axes.{sum_of}
use Rattle.axes.proofs.Stretches.{stepping_first, stepping_next}
use Rattle.axes.proofs.sum_columns.Goals.{In-loop-node}
use Rattle.axes.proofs.sum_columns.Goals as goal

-- there is room for the column
room : (c : In-loop-node) → c.args.at + c.loop-node.node * c.args.rows + c.args.rows ≤ length c.loop-node.out
room c =
    let a = c.args in
    let fits = stepping_fits a.at a.order a.rows (cell a.rows
    (sum_of a.order a.rows a.polynomials.now a.node_polynomials.now)) _ _ _ _ c.loop-node.invariant
    c.loop-node-test.true in
    omega (arith, fits, c.loop-node.invariant.long, c.requires.2)

pub loop-node-init : goal.loop-node-init
loop-node-init c =
    let a = c.args in
    stepping_first a.at a.order a.rows (cell a.rows (sum_of a.order a.rows a.polynomials.now a.node_polynomials.now)) _

pub overflow_mul-to : goal.overflow_mul-to
overflow_mul-to c = omega (arith, room (goal.at.overflow_mul-to c).In-loop-node, c.loop-node.invariant.long, c.well_formed)

pub overflow_add-to : goal.overflow_add-to
overflow_add-to c = omega (arith, room (goal.at.overflow_add-to c).In-loop-node, c.loop-node.invariant.long, c.well_formed)

pub sum_column-requires : goal.sum_column-requires
sum_column-requires c = (c.requires.0, c.loop-node-test.true, c.requires.1, room (goal.at.sum_column-requires c).In-loop-node)

pub loop-node-preserved : goal.loop-node-preserved
loop-node-preserved c =
    let a = c.args in
    let l = c.loop-node in
    stepping_next a.at a.order a.rows (cell a.rows (sum_of a.order a.rows a.polynomials.now a.node_polynomials.now)) _ _ _ l.node
    (stepping_more a.at a.order a.rows (cell a.rows (sum_of a.order a.rows a.polynomials.now
    a.node_polynomials.now)) _ _ _ l.node _ _ l.invariant c.loop-node-test.true c.requires.2
    (λ i b. sym (cell_at a.rows (sum_of a.order a.rows a.polynomials.now a.node_polynomials.now) i l.node b))
    c.sum_column.ensures)

pub shape_of-out : goal.shape_of-out
shape_of-out c = c.loop-node.invariant.long

pub returns : goal.returns
returns c =
    let a = c.args in
    stepping_done a.at a.order a.rows (cell a.rows (sum_of a.order a.rows a.polynomials.now
    a.node_polynomials.now)) _ _ _ _ c.loop-node.invariant c.loop-node-test.false
