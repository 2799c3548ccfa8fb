-- `common::copy_column` meets its contract. The loop keeps `Filling`: i rows are copied. Assumes nothing.
use mathlib.Core.Path.{refl}
use lib.Ieee.{nan}
use lib.ListN.{get_or}
use Rattle.common.proofs.Fill.{filling_none, filling_more, filling_done}
use Rattle.common.proofs.copy_column.Goals as goal

pub loop-i-init : goal.loop-i-init
loop-i-init c = let a = c.args in filling_none a.at a.rows (λ j. get_or a.source.now j nan) _

pub loop-i-preserved : goal.loop-i-preserved
loop-i-preserved c =
    let a = c.args in
    filling_more a.at a.rows (λ j. get_or a.source.now j nan) _ _ _ _ nan _ c.loop-i.invariant c.loop-i-test.true
    c.requires.1 refl refl

pub shape_of-column : goal.shape_of-column
shape_of-column c = c.loop-i.invariant.long

pub returns : goal.returns
returns c =
    let a = c.args in
    filling_done a.at a.rows (λ j. get_or a.source.now j nan) _ _ _ c.loop-i.invariant c.loop-i-test.false
