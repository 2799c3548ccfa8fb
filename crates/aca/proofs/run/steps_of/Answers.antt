-- `aca::run::steps_of` meets its contract. Assumes nothing.
use borrow.Author.Tests.{eq-eqb, ne_eqb}
use Rattle.aca.proofs.run.steps_of.Goals as goal

pub returns-then-terms-eq0 : goal.returns-then-terms-eq0
returns-then-terms-eq0 c = rw (eq-eqb _ _ c.if-terms-eq0.true)

pub returns : goal.returns
returns c = rw (ne_eqb _ _ c.if-terms-eq0.false)
