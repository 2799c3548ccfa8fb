-- `common::add_scaled` meets its contract. The loop keeps `Filling`: i rows have their sums. Assumes nothing.
use mathlib.Core.Path.{◌≡◌, refl}
use Prim.Native.Nat.{◌+◌}
use lib.Ieee.{nan}
use lib.ListN.{get_or}
use Rattle.common.specs.Floats.{plus, times}
use Rattle.common.proofs.Fill.{filling_none, filling_more, filling_here, filling_done}
use Rattle.common.proofs.add_scaled.Goals as goal

pub loop-i-init : goal.loop-i-init
loop-i-init c =
    let a = c.args in
    filling_none a.at a.rows (λ j. plus (get_or a.column.now (a.at + j) nan)
    (times (get_or a.source.now (a.from + j) nan) a.factor)) _

pub loop-i-preserved : goal.loop-i-preserved
loop-i-preserved c =
    let a = c.args in
    let l = c.loop-i in
    let here : get_or l.column (a.at + l.i) nan ≡ get_or a.column.now (a.at + l.i) nan = filling_here a.at a.rows
    (λ j. plus (get_or a.column.now (a.at + j) nan) (times (get_or a.source.now (a.from + j) nan) a.factor)) _ _ _ nan
    l.invariant c.requires.1 in
    filling_more a.at a.rows
    (λ j. plus (get_or a.column.now (a.at + j) nan) (times (get_or a.source.now (a.from + j) nan) a.factor)) _ _ _ _ nan _
    l.invariant c.loop-i-test.true c.requires.1 refl (rw here)

pub shape_of-column : goal.shape_of-column
shape_of-column c = c.loop-i.invariant.long

pub returns : goal.returns
returns c =
    let a = c.args in
    filling_done a.at a.rows
    (λ j. plus (get_or a.column.now (a.at + j) nan) (times (get_or a.source.now (a.from + j) nan) a.factor)) _ _ _
    c.loop-i.invariant c.loop-i-test.false
