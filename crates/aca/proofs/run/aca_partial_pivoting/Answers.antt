-- `aca::run::aca_partial_pivoting` meets its contract. Assumes nothing.
use mathlib.Core.Path.{sym}
use Rattle.aca_steps.specs.Memories.{Memory, memory}
use Rattle.aca.proofs.Answers.{refused, begun, finished}
use Rattle.aca.proofs.run.aca_partial_pivoting.Goals.{After-check_aca, After-run}
use Rattle.aca.proofs.run.aca_partial_pivoting.Goals as goal

-- the memory as it was lent, and after the run
abbrev lent : After-check_aca → Memory
lent c =
    let a = c.args in
    memory a.u.now a.v.now a.row_list.now a.column_list.now a.row.now a.column.now

abbrev after : After-run → Memory
after c =
    memory
    c.run.new.u
    c.run.new.v
    c.run.new.row_list
    c.run.new.column_list
    c.run.new.row
    c.run.new.column

pub returns-in_err-check_aca : goal.returns-in_err-check_aca
returns-in_err-check_aca c =
    let a = c.args in
    let t = lent (goal.at.returns-in_err-check_aca c).After-check_aca in
    refused a.rows a.columns a.samples.now a.epsilon a.restart t _ _ c.from_residual.ensures.1 c.in_err-check_aca.ensures

pub run-requires : goal.run-requires
run-requires c =
    let a = c.args in
    begun a.rows a.columns a.samples.now a.epsilon a.restart (lent (goal.at.run-requires c).After-check_aca)
    (sym c.in_ok-check_aca.ensures) _ _ c.all_on-row_flags.ensures c.all_on-column_flags.ensures

pub returns : goal.returns
returns c =
    let a = c.args in
    finished a.rows a.columns a.samples.now a.epsilon a.restart (lent (goal.at.returns c).After-check_aca)
    (sym c.in_ok-check_aca.ensures) c.run.result (after (goal.at.returns c).After-run) c.run.ensures
