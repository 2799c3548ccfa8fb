-- `distances::blocks::fill_column` meets its contract. The loop keeps `Summing`: the squares of the first axes are added. Assumes nothing.
use mathlib.Core.Path.{refl, sym, ap, ◌∙◌}
use Prim.Native.Nat.{◌+◌, ◌*◌, ◌≤◌}
use native.Mathlib.Omega.{arith}
use lib.ListN.{length}
use Rattle.common.proofs.Fill.{length_tabulate}
use Rattle.common.proofs.Matrices.{column_fits}
use Rattle.distances.proofs.Columns.{summing_long, summing_first, summing_more, summing_done}
use Rattle.distances.proofs.blocks.fill_column.Goals.{In-loop-axis, Start}
use Rattle.distances.proofs.blocks.fill_column.Goals as goal

-- THE PLACES: the start, from the first call and from the loop

-- the first axis has its rows
first_room : (s : Start) →
    (s.args.rows ≤ length s.args.sources.now) × (s.args.rows ≤ length s.args.targets.now)
first_room s =
    let p = s.requires.0 in
    let a = s.args in
    let room = column_fits 0 a.dimension a.rows (0 * a.rows) p.some refl in
    (omega arith, omega arith)

-- and so has the axis of a turn
room : (c : In-loop-axis) → let a = c.args in c.loop-axis.at + a.rows ≤ a.dimension * a.rows
room c =
    let l = c.loop-axis in
    let a = c.args in
    column_fits l.axis a.dimension a.rows l.at c.loop-axis-test.true l.invariant.place

pub bounds-targets-target : goal.bounds-targets-target
bounds-targets-target c =
    omega (arith, (first_room (goal.at.bounds-targets-target c).Start).1, c.requires.1)

pub square_column-requires : goal.square_column-requires
square_column-requires c =
    ((first_room (goal.at.square_column-requires c).Start).0, c.requires.2)

pub loop-axis-init : goal.loop-axis-init
loop-axis-init c =
    let a = c.args in
    summing_first a.dimension a.rows a.sources.now a.targets.now a.target _ c.requires.0.some
    c.square_column.ensures

pub overflow_add-at : goal.overflow_add-at
overflow_add-at c = omega (arith, room (goal.at.overflow_add-at c).In-loop-axis, c.requires)

pub offset_bounds-targets-at : goal.offset_bounds-targets-at
offset_bounds-targets-at c = omega (arith, room (goal.at.offset_bounds-targets-at c).In-loop-axis, c.requires)

pub bounds-targets-at : goal.bounds-targets-at
bounds-targets-at c = omega (arith, room (goal.at.bounds-targets-at c).In-loop-axis, c.requires)

pub add_square_column-requires : goal.add_square_column-requires
add_square_column-requires c =
    (omega (arith, room (goal.at.add_square_column-requires c).In-loop-axis, c.requires.0.sources_long), summing_long _ _ _ _ _ _ _ _ c.loop-axis.invariant)

pub overflow_add-at-in-loop-axis : goal.overflow_add-at-in-loop-axis
overflow_add-at-in-loop-axis c =
    omega (arith, room (goal.at.overflow_add-at-in-loop-axis c).In-loop-axis, c.requires)

pub loop-axis-preserved : goal.loop-axis-preserved
loop-axis-preserved c =
    let a = c.args in
    let l = c.loop-axis in
    summing_more a.dimension a.rows a.sources.now a.targets.now a.target l.column _ l.axis l.at l.invariant
    c.loop-axis-test.true c.add_square_column.ensures

pub root_column-requires : goal.root_column-requires
root_column-requires c = summing_long _ _ _ _ _ _ _ _ c.loop-axis.invariant

pub shape_of-column : goal.shape_of-column
shape_of-column c =
    ap length c.root_column.ensures ∙ length_tabulate c.args.rows _ ∙ sym c.requires.2

pub returns : goal.returns
returns c =
    let a = c.args in
    let l = c.loop-axis in
    summing_done a.dimension a.rows a.sources.now a.targets.now a.target l.column _ l.axis l.at l.invariant
    c.loop-axis-test.false c.root_column.ensures
