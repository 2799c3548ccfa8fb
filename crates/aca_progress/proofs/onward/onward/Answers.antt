-- `aca_progress::onward::onward` meets its contract, by the mode and by whether the row was read. Assumes nothing.
use mathlib.Core.Path.{sym, ◌∙◌}
use native.Mathlib.Omega.{arith}
use Rattle.aca_progress.specs.Crosses.{onward}
use Rattle.aca_progress.proofs.onward.onward.Goals.{else-reading-via-then-reading+else-not-is_on, else-reading-via-else-reading}
use Rattle.aca_progress.proofs.onward.onward.Goals as goal

pub is_on-requires : goal.is_on-requires
is_on-requires c = let s = c.requires in omega (arith, s.1, s.0.tall)

pub elsewhere-requires : goal.elsewhere-requires
elsewhere-requires c = c.requires.0

pub returns-then-not-is_on : goal.returns-then-not-is_on
unfolding onward
returns-then-not-is_on c = rw (c.if-reading.true, sym c.is_on.ensures ∙ c.if-not-is_on.true) c.elsewhere.ensures

pub returns : goal.returns
unfolding onward
returns c =
    elim c.else-reading.branch [
      | else-reading-via-then-reading+else-not-is_on w ↦ rw (w.if-reading.true, sym w.is_on.ensures ∙ w.if-not-is_on.false)
      | else-reading-via-else-reading w ↦ rw w.if-reading.false
    ]
