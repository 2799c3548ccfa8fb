-- `common::fill_with` meets its contract. The loop keeps `Filling`: i rows hold the value. Assumes nothing.
use mathlib.Core.Path.{refl}
use lib.Ieee.{nan}
use Rattle.common.proofs.Fill.{filling_none, filling_more, filling_done}
use Rattle.common.proofs.fill_with.Goals as goal

pub loop-i-init : goal.loop-i-init
loop-i-init c = let a = c.args in filling_none a.at a.rows (λ j. a.value) _

pub loop-i-preserved : goal.loop-i-preserved
loop-i-preserved c =
    let a = c.args in
    filling_more a.at a.rows (λ j. a.value) _ _ _ _ nan _ c.loop-i.invariant c.loop-i-test.true
    c.requires refl refl

pub shape_of-column : goal.shape_of-column
shape_of-column c = c.loop-i.invariant.long

pub returns : goal.returns
returns c = let a = c.args in filling_done a.at a.rows (λ j. a.value) _ _ _ c.loop-i.invariant
    c.loop-i-test.false
