-- `aca_progress::onward::judge` meets its contract: each return by the tests that led there. Assumes nothing.
use borrow.Author.Tests.{eq-eqb, ne_eqb}
use Rattle.aca_progress.specs.Crosses.{judged}
use Rattle.aca_progress.proofs.onward.judge.Goals as goal

pub returns-then-norm-tolerance : goal.returns-then-norm-tolerance
unfolding judged
returns-then-norm-tolerance c = rw c.if-norm-tolerance.true

pub returns-then-s-most : goal.returns-then-s-most
unfolding judged
returns-then-s-most c = rw (c.if-norm-tolerance.false, eq-eqb _ _ c.if-s-most.true)

pub returns : goal.returns
unfolding judged
returns c =
    rw (c.if-norm-tolerance.false, ne_eqb _ _ c.if-s-most.false) c.onward.ensures
