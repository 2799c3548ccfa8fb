-- `aca_progress::onward::lesser` meets its contract: each return by the tests that led there. Assumes nothing.
use mathlib.Core.Path.{sym, ◌∙◌}
use Rattle.aca_progress.specs.Crosses.{lesser}
use Rattle.aca_progress.proofs.onward.lesser.Goals as goal

pub returns-then-size-smallest : goal.returns-then-size-smallest
unfolding lesser
returns-then-size-smallest c = rw c.if-size-smallest.true

pub returns-then-smallest : goal.returns-then-smallest
unfolding lesser
returns-then-smallest c = rw (c.if-size-smallest.false, c.if-smallest.true)

pub returns-then-not-is_nan : goal.returns-then-not-is_nan
unfolding lesser
returns-then-not-is_nan c = rw (c.if-size-smallest.false, c.if-smallest.false, sym c.is_nan.ensures.value ∙ c.if-not-is_nan.true)

pub returns : goal.returns
unfolding lesser
returns c = rw (c.if-size-smallest.false, c.if-smallest.false, sym c.is_nan.ensures.value ∙ c.if-not-is_nan.false)
