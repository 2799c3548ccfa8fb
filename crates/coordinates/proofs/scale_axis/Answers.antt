-- `coordinates::scale_axis` meets its contract. The loop keeps `Filling`: i points are scaled. Assumes nothing.
use mathlib.Core.Path.{refl}
use Prim.Native.Nat.{◌+◌}
use lib.Ieee.{nan}
use lib.ListN.{get_or}
use Rattle.common.proofs.Fill.{filling_none, changing_more, filling_done}
use Rattle.coordinates.specs.Coordinates.{coordinate_in}
use Rattle.coordinates.proofs.scale_axis.Goals as goal

pub loop-i-init : goal.loop-i-init
loop-i-init c = let a = c.args in filling_none a.at a.rows
    (λ j. coordinate_in a.side a.centre (get_or a.points.now (a.at + j) nan)) _

pub loop-i-preserved : goal.loop-i-preserved
loop-i-preserved c =
    let a = c.args in
    changing_more a.at a.rows (λ j. coordinate_in a.side a.centre (get_or a.points.now (a.at + j) nan)) _
    (coordinate_in a.side a.centre) _ _ _ nan _ c.loop-i.invariant c.loop-i-test.true
    c.requires refl refl c.scale-scaled.ensures

pub shape_of-points : goal.shape_of-points
shape_of-points c = c.loop-i.invariant.long

pub returns : goal.returns
returns c =
    let a = c.args in
    filling_done a.at a.rows (λ j. coordinate_in a.side a.centre (get_or a.points.now (a.at + j) nan)) _ _ _
    c.loop-i.invariant c.loop-i-test.false
