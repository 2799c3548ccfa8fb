-- `aca_told::aca_partial_pivoting_told` meets its contract: slices that do not fit, or what the run answers, in numbers. Assumes
-- nothing.
use mathlib.Core.Path.{◌≡◌}
use mathlib.Core.Bool.{false}
use mathlib.Core.List.{List}
use Prim.Native.Nat.{ℕ}
use lib.Ieee.{Float}
use Rattle.aca_steps.specs.Memories.{Memory, memory}
use Rattle.aca_told.specs.Told.{report_fits}
use Rattle.aca_told.proofs.Reports.{fit_both, unfit_counts, unfit_numbers, cross_unfit, cross_fit}
use Rattle.aca_told.proofs.aca_partial_pivoting_told.Goals.{After-aca_partial_pivoting-made, Start}
use Rattle.aca_told.proofs.aca_partial_pivoting_told.Goals.{then-counts-ne3-via-then-counts-ne3}
use Rattle.aca_told.proofs.aca_partial_pivoting_told.Goals.{then-counts-ne3-via-else-counts-ne3+then-numbers-ne2}
use Rattle.aca_told.proofs.aca_partial_pivoting_told.Goals as goal

-- what was lent, and what the call leaves
module _ (s : Start) where
  abbrev lent : Memory
  lent =
      let a = s.args in
      memory a.u.now a.v.now a.row_list.now a.column_list.now a.row.now a.column.now

  abbrev counts : List ℕ
  counts = s.args.counts.now

  abbrev numbers : List Float
  numbers = s.args.numbers.now

abbrev after : After-aca_partial_pivoting-made → Memory
after c =
    memory
    c.aca_partial_pivoting-made.new.u
    c.aca_partial_pivoting-made.new.v
    c.aca_partial_pivoting-made.new.row_list
    c.aca_partial_pivoting-made.new.column_list
    c.aca_partial_pivoting-made.new.row
    c.aca_partial_pivoting-made.new.column

pub returns-then-counts-ne3 : goal.returns-then-counts-ne3
returns-then-counts-ne3 c =
    let a = c.args in
    let s = (goal.at.returns-then-counts-ne3 c).Start in
    let unfit : report_fits (counts s) (numbers s) ≡ false = elim c.then-counts-ne3.branch [
      | then-counts-ne3-via-then-counts-ne3 w ↦ unfit_counts (counts s) (numbers s) w.if-counts-ne3.true
      | then-counts-ne3-via-else-counts-ne3+then-numbers-ne2 w ↦
          unfit_numbers (counts s) (numbers s) w.if-counts-ne3.false w.if-numbers-ne2.true
    ] in
    cross_unfit a.rows a.columns a.samples.now a.epsilon a.restart (lent s) (counts s) (numbers s) _ c.unfit.ensures unfit

pub returns : goal.returns
returns c =
    let a = c.args in
    let t = c.tell_report in
    let s = (goal.at.returns c).Start in
    let fit = fit_both (counts s) (numbers s) c.if-counts-ne3.false c.if-numbers-ne2.false in
    let left = after (goal.at.returns c).After-aca_partial_pivoting-made in
    cross_fit a.rows a.columns a.samples.now a.epsilon a.restart (lent s) (counts s) (numbers s)
    c.aca_partial_pivoting-made.result left _ t.new.counts t.new.numbers fit c.aca_partial_pivoting-made.ensures t.ensures
