-- `operators::scale_column` meets its contract. The loop keeps `Filling`: i rows are scaled. Assumes nothing.
use mathlib.Core.Path.{refl}
use Prim.Native.Nat.{◌+◌}
use lib.Ieee.{nan}
use lib.ListN.{get_or}
use Rattle.common.specs.Floats.{minus, times}
use Rattle.common.proofs.Fill.{filling_none, changing_more, filling_done}
use Rattle.operators.proofs.scale_column.Goals as goal

pub loop-i-init : goal.loop-i-init
loop-i-init c =
    let a = c.args in
    filling_none a.at a.rows (λ j. minus (times (get_or a.operators.now (a.at + j) nan) a.factor) a.offset) _

pub loop-i-preserved : goal.loop-i-preserved
loop-i-preserved c =
    let a = c.args in
    changing_more a.at a.rows (λ j. minus (times (get_or a.operators.now (a.at + j) nan) a.factor) a.offset) _
    (λ x. minus (times x a.factor) a.offset) _ _ _ nan _ c.loop-i.invariant c.loop-i-test.true c.requires refl refl refl

pub shape_of-operators : goal.shape_of-operators
shape_of-operators c = c.loop-i.invariant.long

pub returns : goal.returns
returns c =
    let a = c.args in
    filling_done a.at a.rows (λ j. minus (times (get_or a.operators.now (a.at + j) nan) a.factor) a.offset) _ _ _
    c.loop-i.invariant c.loop-i-test.false
