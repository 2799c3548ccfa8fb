-- `point_columns::columns::fill_runs` meets its contract. The loop keeps `Stepping`: the runs of the first i values are filled. Assumes
-- nothing.
use Prim.Native.Nat.{◌+◌, ◌≤◌}
use native.Mathlib.Omega.{arith}
use lib.ListN.{length}
use Rattle.common.proofs.Steps.{stepping_none, stepping_fits, stepping_more, stepping_done}
use Rattle.point_columns.specs.Working.{cycled}
use Rattle.point_columns.proofs.Places.{run_value}
use Rattle.point_columns.proofs.columns.fill_runs.Goals.{In-loop-i}
use Rattle.point_columns.proofs.columns.fill_runs.Goals as goal

-- there is room for the run
room : (c : In-loop-i) → c.loop-i.to + c.args.run ≤ length c.loop-i.points
room c =
    let l = c.loop-i in
    let a = c.args in
    omega (
      arith,
      stepping_fits a.at a.order a.run (cycled a.run a.values.now) _ _ _ _ l.invariant
          c.loop-i-test.true,
      l.invariant.long,
      c.requires.1,
    )

pub loop-i-init : goal.loop-i-init
loop-i-init c = let a = c.args in stepping_none a.at a.order a.run (cycled a.run a.values.now) _

pub fill_with-requires : goal.fill_with-requires
fill_with-requires c = room (goal.at.fill_with-requires c).In-loop-i

pub overflow_add-to : goal.overflow_add-to
overflow_add-to c = omega (
  arith,
  room (goal.at.overflow_add-to c).In-loop-i,
  c.loop-i.invariant.long,
  c.well_formed,
)

pub loop-i-preserved : goal.loop-i-preserved
loop-i-preserved c =
    let l = c.loop-i in
    let a = c.args in
    stepping_more a.at a.order a.run (cycled a.run a.values.now) _ _ _ _ _ _ l.invariant c.loop-i-test.true c.requires.1
    (λ j h. run_value a.run a.values.now l.i j h) c.fill_with.ensures

pub shape_of-points : goal.shape_of-points
shape_of-points c = c.loop-i.invariant.long

pub returns : goal.returns
returns c =
    let a = c.args in
    stepping_done a.at a.order a.run (cycled a.run a.values.now) _ _ _ _ c.loop-i.invariant c.loop-i-test.false
