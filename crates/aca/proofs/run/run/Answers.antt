-- `aca::run::run` meets its contract. The loop keeps: what is left of the run, from where the memory stands, is the
-- whole run. Assumes nothing.
use mathlib.Core.Path.{◌≡◌, refl, ap}
use Rattle.aca_progress.specs.Steps.{step_of}
use mathlib.Core.Bool.{Bool}
use mathlib.Core.List.{List}
use Prim.Native.Nat.{◌<◌}
use native.Mathlib.Omega.{arith}
use lib.Ieee.{Float}
use lib.ListN.{length}
use Rattle.common.specs.Refusals.{most_entries}
use Rattle.aca_steps.specs.Memories.{Memory, memory}
use Rattle.aca.proofs.Repeated.{Alike, alike_both, steps_left, Going, going_none, ends, ready, known_after, stops, goes}
use Rattle.aca.specs.Runs.{steps_of}
use Rattle.aca.proofs.run.run.Goals.{After-advance-made, At-loop-read, In-loop-read}
use Rattle.aca.proofs.run.run.Goals as goal

-- THE PLACES, each from the one after it

-- where the loop is entered again, and where it is left
module _ (c : At-loop-read) where
  abbrev samples : List Float
  samples = c.args.samples.now

  abbrev tolerance : Float
  tolerance = c.args.tolerance

  abbrev restart : Bool
  restart = c.args.restart

  abbrev lent : Memory
  lent =
      let a = c.args in
      memory a.u.now a.v.now a.row_list.now a.column_list.now a.row.now a.column.now

  abbrev held : Memory
  held = memory c.loop-read.u c.loop-read.v c.loop-read.row_list c.loop-read.column_list c.loop-read.row c.loop-read.column

  going :
      let l = c.loop-read in
      Going samples tolerance restart lent held l.row_flags.words l.column_flags.words l.s l.read l.low
  going = c.loop-read.invariant.2

-- inside the loop a step is left
module _ (c : In-loop-read) where
  remains :
      let a = c.args in
      c.loop-read.read < steps_of (length a.row_list.now) (length a.column_list.now)
  remains = rw c.loop-read.invariant.1 at c.loop-read-test.true

  few : c.loop-read.read < most_entries
  few =
      let place = steps_left (length c.args.row_list.now) (length c.args.column_list.now) c.loop-read.read remains in
      omega (arith, place.0, c.requires.short, c.requires.sizes.tall)

-- after the step: the lengths stay
module _ (c : After-advance-made) where
  abbrev after : Memory
  after =
      memory
      c.advance-made.new.u
      c.advance-made.new.v
      c.advance-made.new.row_list
      c.advance-made.new.column_list
      c.advance-made.new.row
      c.advance-made.new.column

  same : Alike (memory c.loop-read.u c.loop-read.v c.loop-read.row_list c.loop-read.column_list c.loop-read.row c.loop-read.column) after
  same =
      let k = c.advance-made.auto in
      record {
        us_same = k.u;
        vs_same = k.v;
        rows_same = k.row_list;
        columns_same = k.column_list;
        row_same = k.row;
        column_same = k.column;
      }

  all_same :
      let a = c.args in
      Alike (memory a.u.now a.v.now a.row_list.now a.column_list.now a.row.now a.column.now) after
  all_same = alike_both _ _ _ c.loop-read.invariant.2.alike same

pub loop-read-init : goal.loop-read-init
loop-read-init c =
    (refl, c.steps_of-most.ensures, going_none c.args.samples.now c.args.tolerance c.args.restart _ _ _ c.requires)

pub advance-made-requires : goal.advance-made-requires
advance-made-requires c =
    let p = (goal.at.advance-made-requires c).At-loop-read in
    let q = (goal.at.advance-made-requires c).In-loop-read in
    ready (samples p) (tolerance p) (restart p) (lent p) _ _ c.requires (held p)
    _ _ _ _ _ (going p) (remains q)

pub overflow_add-read : goal.overflow_add-read
overflow_add-read c = omega (arith, few (goal.at.overflow_add-read c).In-loop-read)

pub shape_of-u-in-Break : goal.shape_of-u-in-Break
shape_of-u-in-Break c = (all_same (goal.at.shape_of-u-in-Break c).After-advance-made).us_same

pub shape_of-v-in-Break : goal.shape_of-v-in-Break
shape_of-v-in-Break c = (all_same (goal.at.shape_of-v-in-Break c).After-advance-made).vs_same

pub shape_of-row_list-in-Break : goal.shape_of-row_list-in-Break
shape_of-row_list-in-Break c = (all_same (goal.at.shape_of-row_list-in-Break c).After-advance-made).rows_same

pub shape_of-column_list-in-Break : goal.shape_of-column_list-in-Break
shape_of-column_list-in-Break c = (all_same (goal.at.shape_of-column_list-in-Break c).After-advance-made).columns_same

pub shape_of-row-in-Break : goal.shape_of-row-in-Break
shape_of-row-in-Break c = (all_same (goal.at.shape_of-row-in-Break c).After-advance-made).row_same

pub shape_of-column-in-Break : goal.shape_of-column-in-Break
shape_of-column-in-Break c = (all_same (goal.at.shape_of-column-in-Break c).After-advance-made).column_same

pub returns-in-Break : goal.returns-in-Break
returns-in-Break c =
    let p = (goal.at.returns-in-Break c).At-loop-read in
    let q = (goal.at.returns-in-Break c).In-loop-read in
    rw c.report.ensures
    (stops (samples p) (tolerance p) (restart p) (lent p) _ _ c.requires (held p)
    _ _ _ _ _ (going p) (remains q)
    _ (after (goal.at.returns-in-Break c).After-advance-made) _ _ c.advance-made.ensures _ _ (ap step_of c.in-Break.is))

pub risen-low-requires : goal.risen-low-requires
risen-low-requires c =
    let p = (goal.at.risen-low-requires c).At-loop-read in
    let q = (goal.at.risen-low-requires c).In-loop-read in
    rw c.loop-read.invariant.0
    (known_after (samples p) (tolerance p) (restart p) (lent p) _ _ c.requires (held p)
    _ _ _ _ _ (going p) (remains q)
    _ (after (goal.at.risen-low-requires c).After-advance-made) _ _ c.advance-made.ensures)

pub loop-read-preserved : goal.loop-read-preserved
loop-read-preserved c =
    let p = (goal.at.loop-read-preserved c).At-loop-read in
    let q = (goal.at.loop-read-preserved c).In-loop-read in
    let made = (goal.at.loop-read-preserved c).After-advance-made in
    let on =
    goes (samples p) (tolerance p) (restart p) (lent p) _ _ c.requires (held p)
    _ _ _ _ _ (going p) (remains q)
    _ (after made) _ _ c.advance-made.ensures in
    let v = c.loop-read.invariant in
    (v.0, v.1, on _ _ (ap step_of c.in-Continue.is) (rw v.0 at c.risen-low.ensures) (same made))

pub shape_of-u : goal.shape_of-u
shape_of-u c = (going (goal.at.shape_of-u c).At-loop-read).alike.us_same

pub shape_of-v : goal.shape_of-v
shape_of-v c = (going (goal.at.shape_of-v c).At-loop-read).alike.vs_same

pub shape_of-row_list : goal.shape_of-row_list
shape_of-row_list c = (going (goal.at.shape_of-row_list c).At-loop-read).alike.rows_same

pub shape_of-column_list : goal.shape_of-column_list
shape_of-column_list c = (going (goal.at.shape_of-column_list c).At-loop-read).alike.columns_same

pub shape_of-row : goal.shape_of-row
shape_of-row c = (going (goal.at.shape_of-row c).At-loop-read).alike.row_same

pub shape_of-column : goal.shape_of-column
shape_of-column c = (going (goal.at.shape_of-column c).At-loop-read).alike.column_same

pub returns : goal.returns
returns c =
    let p = (goal.at.returns c).At-loop-read in
    let over = rw c.loop-read.invariant.1 at c.loop-read-test.false in
    let all : c.loop-read.read ≡ c.steps_of-most.result = omega arith in
    rw (c.report-2.ensures, ← all) (ends (samples p) (tolerance p) (restart p) (lent p) _ _ c.requires (held p)
    _ _ _ _ _ (going p) over)
