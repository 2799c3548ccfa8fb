-- `aca_progress::onward::elsewhere` meets its contract. Assumes nothing.
use mathlib.Core.Path.{sym, ◌∙◌}
use borrow.Author.Tests.{eq-eqb, ne_eqb}
use Rattle.aca_progress.specs.Crosses.{elsewhere}
use Rattle.aca_progress.proofs.onward.elsewhere.Goals as goal

pub lowest_on-next-requires : goal.lowest_on-next-requires
lowest_on-next-requires c = (c.requires.low_most, c.requires.tall, c.requires.below)

pub returns-then-next-rows : goal.returns-then-next-rows
unfolding elsewhere
returns-then-next-rows c = let e = c.lowest_on-next.ensures in rw (eq-eqb _ _ (sym e ∙ c.if-next-rows.true))

pub returns : goal.returns
unfolding elsewhere
returns c = let e = c.lowest_on-next.ensures in rw (← e, ne_eqb _ _ c.if-next-rows.false)
