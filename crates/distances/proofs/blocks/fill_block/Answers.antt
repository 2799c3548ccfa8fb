-- `distances::blocks::fill_block` meets its contract. The loop keeps `Stepping`: the columns of the first targets are filled. Assumes
-- nothing.
use mathlib.Core.Path.{refl, ◌∙◌}
use Prim.Native.Nat.{◌+◌, ◌≤◌}
use native.Mathlib.Omega.{arith}
use lib.ListN.{length}
use Rattle.common.specs.Matrices.{cell}
use Rattle.common.proofs.Fill.{part_length}
use Rattle.common.proofs.Matrices.{columns_filled}
use Rattle.common.proofs.Steps.{stepping_none, stepping_fits, stepping_done, column_lent}
use Rattle.distances.specs.Working.{between}
use Rattle.distances.proofs.blocks.fill_block.Goals.{In-loop-target}
use Rattle.distances.proofs.blocks.fill_block.Goals as goal

-- the column has its place
room : (c : In-loop-target) → c.loop-target.at + c.args.rows ≤ length c.loop-target.block
room c =
    let a = c.args in
    let l = c.loop-target in
    let of = cell a.rows (between a.dimension a.rows a.sources.now a.targets.now) in
    omega (arith, stepping_fits 0 a.rows a.rows of _ _ _ _ l.invariant c.loop-target-test.true, l.invariant.long, c.requires.1)

pub loop-target-init : goal.loop-target-init
loop-target-init c =
    let a = c.args in
    let of = cell a.rows (between a.dimension a.rows a.sources.now a.targets.now) in
    stepping_none 0 a.rows a.rows of a.block.now

pub overflow_add-end : goal.overflow_add-end
overflow_add-end c = omega (arith, room (goal.at.overflow_add-end c).In-loop-target, c.loop-target.invariant.long, c.well_formed)

pub offset_bounds-block-at : goal.offset_bounds-block-at
offset_bounds-block-at c = omega (arith, room (goal.at.offset_bounds-block-at c).In-loop-target, c.loop-target.invariant.long, c.well_formed)

pub slice_bounds-fill_column-end : goal.slice_bounds-fill_column-end
slice_bounds-fill_column-end c = omega (arith, room (goal.at.slice_bounds-fill_column-end c).In-loop-target)

pub fill_column-requires : goal.fill_column-requires
fill_column-requires c =
    (c.requires.0, c.loop-target-test.true, part_length _ _ c.args.rows _ refl (room (goal.at.fill_column-requires c).In-loop-target))

pub loop-target-preserved : goal.loop-target-preserved
loop-target-preserved c =
    let a = c.args in
    let l = c.loop-target in
    column_lent a.rows a.rows (between a.dimension a.rows a.sources.now a.targets.now) a.block.now l.block _
    l.target l.at _ c.requires.1 l.invariant c.loop-target-test.true c.fill_column.ensures (λ i _. refl)

pub shape_of-block : goal.shape_of-block
shape_of-block c = c.loop-target.invariant.long

pub returns : goal.returns
returns c =
    let a = c.args in
    let of = between a.dimension a.rows a.sources.now a.targets.now in
    stepping_done 0 a.rows a.rows (cell a.rows of) _ _ _ _ c.loop-target.invariant c.loop-target-test.false
    ∙ columns_filled a.rows of a.rows a.block.now c.requires.1
