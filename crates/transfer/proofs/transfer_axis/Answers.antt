-- `transfer::transfer_axis` meets its contract: the block that the child's bit asks for is handed on. Assumes nothing.
use mathlib.Core.Path.{refl, ◌∙◌}
use Prim.Native.Nat.{◌+◌, ◌*◌, ◌<◌, ◌≤◌}
use native.Mathlib.Nat.{mod-lt}
use native.Mathlib.Omega.{arith}
use lib.ListN.{length}
use Rattle.transfer.proofs.Axes.{block_fits, along_block}
use Rattle.transfer.proofs.transfer_axis.Goals.{After-half_of}
use Rattle.transfer.proofs.transfer_axis.Goals as goal

-- the block has its place: the side is 0 or 1
fits : (c : After-half_of) →
    let a = c.args in c.half_of.result * (a.order * a.order) + a.order * a.order ≤ length
    a.operators.now
fits c =
    let two : c.half_of.result < 2 = rw c.half_of.ensures (mod-lt _ (omega arith)) in
    block_fits c.args.order c.half_of.result c.args.operators.now two c.requires.2

pub overflow_mul-start-2 : goal.overflow_mul-start-2
overflow_mul-start-2 c = omega (arith, fits (goal.at.overflow_mul-start-2 c).After-half_of, c.well_formed)

pub overflow_add-end : goal.overflow_add-end
overflow_add-end c = omega (arith, fits (goal.at.overflow_add-end c).After-half_of, c.well_formed)

pub offset_bounds-operators-start : goal.offset_bounds-operators-start
offset_bounds-operators-start c = omega (arith, fits (goal.at.offset_bounds-operators-start c).After-half_of, c.well_formed)

pub slice_bounds-pass-end : goal.slice_bounds-pass-end
slice_bounds-pass-end c = omega (arith, fits (goal.at.slice_bounds-pass-end c).After-half_of)

pub returns : goal.returns
returns c =
    let a = c.args in
    c.pass.ensures ∙ along_block a.order a.width a.child a.axis c.half_of.result _ a.transpose
    a.operators.now a.values.now
    c.half_of.ensures refl c.requires.2
