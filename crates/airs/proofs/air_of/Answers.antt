-- `airs::air_of` meets its contract: each return by the tests that led there. Assumes nothing.
use mathlib.Core.Path.{sym, ◌∙◌}
use Rattle.airs.specs.Airs.{deficiency, ratio}
use Rattle.airs.proofs.Airs.{no_deficiency, below_floor, no_ratio, has_ratio}
use Rattle.airs.proofs.air_of.Goals as goal

pub returns-then-not-is_finite : goal.returns-then-not-is_finite
unfolding deficiency
returns-then-not-is_finite c = no_deficiency _ _ _ _ (sym c.is_finite.ensures ∙ c.if-not-is_finite.true)

pub returns-then-deficiency-floor : goal.returns-then-deficiency-floor
unfolding deficiency
returns-then-deficiency-floor c =
    below_floor _ _ _ _ (sym c.is_finite.ensures ∙ c.if-not-is_finite.false) c.if-deficiency-floor.true

pub returns-then-is_finite : goal.returns-then-is_finite
unfolding deficiency ratio
returns-then-is_finite c =
    has_ratio _ _ _ _ (sym c.is_finite.ensures ∙ c.if-not-is_finite.false) c.if-deficiency-floor.false
    (sym c.is_finite-2.ensures ∙ c.if-is_finite.true)

pub returns : goal.returns
unfolding deficiency ratio
returns c =
    no_ratio _ _ _ _ (sym c.is_finite.ensures ∙ c.if-not-is_finite.false) c.if-deficiency-floor.false
    (sym c.is_finite-2.ensures ∙ c.if-is_finite.false)
