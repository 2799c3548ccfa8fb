-- `records::answer` meets its contract: refused where the text does not fit, and otherwise put. Assumes nothing.
use mathlib.Core.Path.{sym, ◌∙◌}
use Rattle.records.proofs.Answers.{answer_refused, answer_written}
use Rattle.records.proofs.answer.Goals as goal

pub returns-then-not-fits : goal.returns-then-not-fits
returns-then-not-fits c =
    let a = c.args in
    answer_refused a.input.now a.output.now (sym (c.if-not-fits.true) ∙ c.fits.ensures)

pub returns : goal.returns
returns c =
    let a = c.args in
    answer_written a.input.now a.output.now _ _ (sym (c.if-not-fits.false) ∙ c.fits.ensures) c.put_text.ensures
