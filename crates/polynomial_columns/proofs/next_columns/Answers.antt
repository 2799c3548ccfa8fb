-- `polynomial_columns::next_columns` meets its contract. The loop keeps `Filling` of both buffers: i rows hold the next values, and
-- the columns before are as they were. Assumes nothing.
use mathlib.Core.Path.{refl}
use lib.Ieee.{nan}
use lib.ListN.{length}
use Rattle.common.proofs.Fill.{filling_none, filling_more, filling_done}
use Rattle.polynomial_columns.specs.Working.{later_T, later_T'}
use Rattle.polynomial_columns.proofs.Numbers.{both_before}
use Rattle.polynomial_columns.proofs.next_columns.Goals as goal

pub loop-i-init : goal.loop-i-init
loop-i-init c =
    let a = c.args in
    let rows = length a.points.now in (
      filling_none a.at rows (later_T rows a.points.now a.tn.now a.at) _,
      filling_none a.at rows (later_T' rows a.points.now a.tn.now a.dtn.now a.at) _,
    )

pub loop-i-preserved : goal.loop-i-preserved
loop-i-preserved c =
    let a = c.args in
    let l = c.loop-i in
    let r = c.requires in
    let rows = length a.points.now in
    let f = later_T rows a.points.now a.tn.now a.at in
    let g = later_T' rows a.points.now a.tn.now a.dtn.now a.at in
    let t = both_before a.at rows f _ _ _ l.invariant.0 r.0 r.1 c.loop-i-test.true in
    let d = both_before a.at rows g _ _ _ l.invariant.1 r.0 r.2 c.loop-i-test.true in (
      filling_more a.at rows f _ _ _ _ nan _ l.invariant.0 c.loop-i-test.true r.1 refl (rw (t.0, t.1)),
      filling_more a.at rows g _ _ _ _ nan _ l.invariant.1 c.loop-i-test.true r.2 refl (rw (t.0, d.0, d.1)),
    )

pub returns : goal.returns
returns c =
    let a = c.args in
    let i = c.loop-i.invariant in
    let rows = length a.points.now in
    let done = c.loop-i-test.false in (
      filling_done a.at rows (later_T rows a.points.now a.tn.now a.at) _ _ _ i.0 done,
      filling_done a.at rows (later_T' rows a.points.now a.tn.now a.dtn.now a.at) _ _ _ i.1 done,
    )
