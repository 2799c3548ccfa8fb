-- `answers::with_length` meets its contract: each return by its test. Assumes nothing.
use mathlib.Core.Path.{sym}
use Rattle.answers.specs.Answers.{with_length}
use Rattle.answers.proofs.Lengths.{with_fit}
use Rattle.answers.proofs.with_length.Goals as goal

pub returns-then-is_fit-clause-number : goal.returns-then-is_fit-clause-number
returns-then-is_fit-clause-number g c = rw c.if-is_fit.true (sym (with_fit _))

pub returns-clause-number : goal.returns-clause-number
unfolding with_length
returns-clause-number g c = rw c.if-is_fit.false c.lower_of.ensures.number
