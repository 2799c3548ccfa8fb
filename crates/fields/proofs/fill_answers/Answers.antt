-- `fields::fill_answers` meets its contract. The loop keeps: the air has been told at the first points. Assumes nothing.
use mathlib.Core.Path.{sym, ◌∙◌}
use Prim.Native.Nat.{◌+◌, ◌<◌, ◌≤◌}
use native.Mathlib.Omega.{arith}
use Rattle.fields.proofs.Points.{told_none, told_more, told_done, run_fits}
use Rattle.fields.proofs.fill_answers.Goals.{After-min-count}
use Rattle.fields.proofs.fill_answers.Goals as goal

-- what is left makes a run
run : (c : After-min-count) →
    let rows = c.args.rows in
    let point = c.loop-point.point in
    (c.min-count.result ≤ 32) × (point + c.min-count.result ≤ rows) × (0 < c.min-count.result)
run c = run_fits _ _ _ c.min-count.ensures c.loop-point-test.true

pub loop-point-init : goal.loop-point-init
loop-point-init c =
    told_none _ _ _ _ c.requires.1 c.requires.2

pub fill_run-requires : goal.fill_run-requires
fill_run-requires c =
    let is = run (goal.at.fill_run-requires c).After-min-count in
    (c.requires.0, is.0, is.1, c.loop-point.invariant.as_long, c.loop-point.invariant.as_wide)

pub overflow_add-point : goal.overflow_add-point
overflow_add-point c = omega (arith, (run (goal.at.overflow_add-point c).After-min-count).1)

pub loop-point-smaller : goal.loop-point-smaller
loop-point-smaller c = let is = run (goal.at.loop-point-smaller c).After-min-count in omega (arith, is.1, is.2)

pub loop-point-preserved : goal.loop-point-preserved
loop-point-preserved c =
    told_more _ _ _ _ c.requires.1 c.requires.2 _ _ _ c.loop-point.invariant _ (run (goal.at.loop-point-preserved c).After-min-count).1 _ _
    c.fill_run.auto.answers c.fill_run.auto.ratios c.fill_run.ensures

pub shape_of-answers : goal.shape_of-answers
shape_of-answers c = c.loop-point.invariant.as_long ∙ sym c.requires.1

pub shape_of-ratios : goal.shape_of-ratios
shape_of-ratios c = c.loop-point.invariant.as_wide ∙ sym c.requires.2

pub returns : goal.returns
returns c =
    told_done _ _ _ _ c.requires.1 c.requires.2 _ _ _ c.loop-point.invariant c.loop-point-test.false
