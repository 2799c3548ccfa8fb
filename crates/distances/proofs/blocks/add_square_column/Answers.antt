-- `distances::blocks::add_square_column` meets its contract. The loop keeps `Filling`: i rows have their sums. Assumes nothing.
use mathlib.Core.Path.{refl}
use Prim.Native.Nat.{◌+◌}
use lib.Ieee.{Float, nan}
use lib.ListN.{get_or}
use Rattle.common.specs.Floats.{plus}
use Rattle.common.proofs.Fill.{filling_none, changing_front, filling_whole}
use Rattle.distances.specs.Distances.{apart}
use Rattle.distances.proofs.blocks.add_square_column.Invariants.{sum_at}
use Rattle.distances.proofs.blocks.add_square_column.Goals as goal

pub loop-i-init : goal.loop-i-init
loop-i-init c = let a = c.args in filling_none 0 a.rows (sum_at a.column.now a.sources.now a.from a.coordinate) _

pub loop-i-preserved : goal.loop-i-preserved
loop-i-preserved c =
    let a = c.args in
    let l = c.loop-i in
    let square : Float = apart (get_or a.sources.now (a.from + l.i) nan) a.coordinate in
    changing_front a.rows (sum_at a.column.now a.sources.now a.from a.coordinate) (λ x. plus x square) _ _ _ nan _
    l.invariant c.loop-i-test.true c.requires.1 refl refl

pub shape_of-column : goal.shape_of-column
shape_of-column c = c.loop-i.invariant.long

pub returns : goal.returns
returns c =
    let a = c.args in
    filling_whole a.rows (sum_at a.column.now a.sources.now a.from a.coordinate) _ _ _
    c.loop-i.invariant c.loop-i-test.false c.requires.1
