-- `distances::blocks::root_column` meets its contract. The loop keeps `Filling`: i rows have their roots. Assumes nothing.
use mathlib.Core.Path.{refl}
use lib.Ieee.{nan}
use lib.ListN.{get_or}
use Rattle.common.proofs.Fill.{filling_none, changing_front, filling_whole}
use Rattle.roots.specs.Values.{root}
use Rattle.distances.proofs.blocks.root_column.Goals as goal

pub loop-i-init : goal.loop-i-init
loop-i-init c = let a = c.args in filling_none 0 a.rows (λ j. root (get_or a.column.now j nan)) _

pub loop-i-preserved : goal.loop-i-preserved
loop-i-preserved c =
    let l = c.loop-i in
    changing_front c.args.rows (λ j. root (get_or c.args.column.now j nan)) root _ _ _ nan _
    l.invariant c.loop-i-test.true c.requires refl c.square_root.ensures.value

pub shape_of-column : goal.shape_of-column
shape_of-column c = c.loop-i.invariant.long

pub returns : goal.returns
returns c =
    filling_whole c.args.rows (λ j. root (get_or c.args.column.now j nan)) _ _ _ c.loop-i.invariant c.loop-i-test.false c.requires
