-- `polynomial_columns::next_polynomials` meets its contract. The loop keeps `Filling`: i rows hold the next value, and the columns
-- before are as they were. Assumes nothing.
use mathlib.Core.Path.{refl}
use lib.Ieee.{nan}
use lib.ListN.{length}
use Rattle.common.proofs.Fill.{filling_none, filling_more, filling_done}
use Rattle.polynomial_columns.specs.Working.{later_T}
use Rattle.polynomial_columns.proofs.Numbers.{both_before}
use Rattle.polynomial_columns.proofs.next_polynomials.Goals as goal

pub loop-i-init : goal.loop-i-init
loop-i-init c =
    let a = c.args in
    let rows = length a.points.now in
    filling_none a.at rows (later_T rows a.points.now a.tn.now a.at) _

pub loop-i-preserved : goal.loop-i-preserved
loop-i-preserved c =
    let a = c.args in
    let l = c.loop-i in
    let rows = length a.points.now in
    let f = later_T rows a.points.now a.tn.now a.at in
    let t = both_before a.at rows f _ _ _ l.invariant c.requires.0 c.requires.1 c.loop-i-test.true in
    filling_more a.at rows f _ _ _ _ nan _ l.invariant c.loop-i-test.true c.requires.1 refl (rw (t.0, t.1))

pub shape_of-tn : goal.shape_of-tn
shape_of-tn c = c.loop-i.invariant.long

pub returns : goal.returns
returns c =
    let a = c.args in
    let rows = length a.points.now in
    filling_done a.at rows (later_T rows a.points.now a.tn.now a.at) _ _ _ c.loop-i.invariant c.loop-i-test.false
