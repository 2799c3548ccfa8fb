-- `aca_told::tell_report` meets its contract: a refusal is handed on, and a report is stored. Assumes nothing.
use native.Mathlib.Omega.{arith}
use lib.ListN.{length-set}
use Rattle.common.proofs.Numbers.{handed_on}
use Rattle.aca_told.specs.Working.{report_told}
use Rattle.answers.proofs.Lengths.{stored_two, stored_three}
use Rattle.aca_told.proofs.tell_report.Goals as goal

pub bounds-counts-0 : goal.bounds-counts-0
bounds-counts-0 c = omega (arith, c.requires.0)

pub bounds-counts-1 : goal.bounds-counts-1
bounds-counts-1 c = simp length-set (omega (arith, c.requires.0))

pub bounds-counts-2 : goal.bounds-counts-2
bounds-counts-2 c = simp length-set (omega (arith, c.requires.0))

pub bounds-numbers-0 : goal.bounds-numbers-0
bounds-numbers-0 c = omega (arith, c.requires.1)

pub bounds-numbers-1 : goal.bounds-numbers-1
bounds-numbers-1 c = simp length-set (omega (arith, c.requires.1))

pub returns-in_err-report : goal.returns-in_err-report
unfolding report_told
returns-in_err-report c = rw (handed_on _ _ c.from_residual.ensures.1, c.in_err-report.was)

pub shape_of-counts : goal.shape_of-counts
shape_of-counts c = simp length-set

pub shape_of-numbers : goal.shape_of-numbers
shape_of-numbers c = simp length-set

pub returns : goal.returns
unfolding report_told
returns c =
    rw (
      c.in_ok-report.was,
      stored_three c.args.counts.now _ _ _ c.requires.0,
      stored_two c.args.numbers.now _ _ c.requires.1,
      c.number.ensures,
    )
