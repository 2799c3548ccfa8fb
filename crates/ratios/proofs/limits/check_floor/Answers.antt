-- `ratios::limits::check_floor` meets its contract: each return by the tests that led there. Assumes nothing.
use mathlib.Core.Path.{sym, ◌∙◌}
use Rattle.ratios.proofs.Calls.{floor_taken, floor_endless, floor_low}
use Rattle.ratios.proofs.limits.check_floor.Goals.{else-floor-via-then-floor+else-is_finite, else-floor-via-else-floor}
use Rattle.ratios.proofs.limits.check_floor.Goals as goal

pub returns-then-is_finite : goal.returns-then-is_finite
returns-then-is_finite c = floor_taken _ c.if-floor.true (sym c.is_finite.ensures ∙ c.if-is_finite.true)

pub returns : goal.returns
returns c =
    elim c.else-floor.branch [
      | else-floor-via-then-floor+else-is_finite w ↦
          floor_endless _ w.if-floor.true (sym w.is_finite.ensures ∙ w.if-is_finite.false)
      | else-floor-via-else-floor w ↦ floor_low _ w.if-floor.false
    ]
