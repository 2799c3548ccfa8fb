-- `aca_steps::accept` meets its contract. Assumes nothing.
use mathlib.Core.Path.{◌≡◌, sym, subst}
use Prim.Native.Nat.{ℕ, ◌<◌}
use native.Mathlib.Omega.{arith}
use lib.ListN.{length}
use Rattle.aca_pivots.specs.Flags.{is_on}
use Rattle.aca_pivots.proofs.Largest.{argmax_in}
use Rattle.aca_progress.specs.Crosses.{grown}
use Rattle.aca_progress.specs.Steps.{step_of}
use Rattle.aca_steps.specs.Working.{judged_here}
use Rattle.aca_steps.proofs.Terms.{judged_so}
use Rattle.aca_steps.proofs.accept.Goals.{After-take_column-next}
use Rattle.aca_steps.proofs.accept.Goals as goal

-- the lengths of the row and the column stay
module _ (c : After-take_column-next) where
  row_same : length c.take_column-next.new.row ≡ length c.args.row.now
  row_same = c.take_column-next.auto.row

  column_same : length c.take_column-next.new.column ≡ length c.args.column.now
  column_same = c.take_column-next.auto.column

  list_same : length c.take_column-next.new.column_list ≡ length c.args.column_list.now
  list_same = c.take_column-next.auto.column_list

  -- the row to read next is one of the block's
  next_inside : c.take_column-next.result < length c.args.column.now
  next_inside =
      subst (λ (n : ℕ). n < length c.args.column.now) (sym c.take_column-next.ensures.value)
      (rw column_same at
      (argmax_in c.take_column-next.new.column (is_on c.args.row_flags.now.words)
      (rw column_same c.requires.1.some)))

pub cross-shared-requires : goal.cross-shared-requires
cross-shared-requires c =
    let p = (goal.at.cross-shared-requires c).After-take_column-next in
    let f = c.requires.0 in
    rw (column_same p, row_same p) (omega (arith, f.u_room), omega (arith, f.v_room))

pub store-requires : goal.store-requires
store-requires c =
    let p = (goal.at.store-requires c).After-take_column-next in
    let f = c.requires.0 in
    rw (column_same p, row_same p) (record { column_in_bounds = f.u_room; row_in_bounds = f.v_room })

pub grow-requires : goal.grow-requires
grow-requires c = c.requires.0.few

pub judge-requires : goal.judge-requires
unfolding grown
judge-requires c =
    let p = (goal.at.judge-requires c).After-take_column-next in
    let known = c.requires.1 in
    rw (column_same p)
    (known, rw c.grow.ensures (next_inside p))

pub shape_of-column_list : goal.shape_of-column_list
shape_of-column_list c = list_same (goal.at.shape_of-column_list c).After-take_column-next

pub returns : goal.returns
returns c =
    record {
      taken = c.take_column-next.ensures.column_taken;
      answer_is =
          let a = c.args in
          let x = c.take_column-next.new.column in
          let w = c.take_column-next.new.row in
          subst
          (λ (k : ℕ). step_of c.judge.result
          ≡ judged_here a.reading.restart k a.tolerance a.s a.u.now a.v.now x w a.row_flags.now.words)
          (list_same (goal.at.returns c).After-take_column-next)
          (judged_so c.args.reading.restart _ _ c.args.tolerance _ c.args.s c.judge.ensures
          c.grow.ensures
          c.norm-weight.ensures c.cross-shared.ensures c.take_column-next.ensures.value);
      us_are = c.store.ensures.u_after;
      vs_are = c.store.ensures.v_after;
    }
