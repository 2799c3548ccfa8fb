-- `ratios::limits::shape_of` meets its contract: a refused shape, or the lower of two refusals, or the last. Assumes nothing.
use mathlib.Core.Path.{refl, sym, ◌∙◌}
use native.Mathlib.Omega.{arith}
use Rattle.common.proofs.Numbers.{handed_on, number_above}
use Rattle.ratios.proofs.Calls.{shape_first, lowest, or_refused, or_done}
use Rattle.ratios.proofs.limits.shape_of.Goals as goal

pub returns-in_err-shape-clause-number : goal.returns-in_err-shape-clause-number
returns-in_err-shape-clause-number c =
    let e = c.in_err-shape.ensures.number in
    handed_on _ _ c.from_residual.ensures.1 ∙ e
    ∙ shape_first _ _ _ _ _ _ _ _ _ _ _ _ _ _ _ (λ z. omega (arith, number_above c.in_err-shape.field-0.0, e, z))

pub returns-in_err-lower_of-clause-number : goal.returns-in_err-lower_of-clause-number
returns-in_err-lower_of-clause-number c =
    let r = c.in_err-lower_of.field-0.0 in
    let lengths = rw (c.in_ok-shape.ensures.shape.0, c.in_ok-shape.ensures.shape.1) at c.check_lengths-lengths.ensures in
    handed_on _ _ c.from_residual-in_err-lower_of.ensures.1
    ∙ lowest _ _ _ _ _ _ _ _ _ _ _ _ _ _ _ _ _ _ _ _ (sym (or_refused _ _ (λ z. omega (arith, number_above r, z))))
    c.in_err-lower_of.ensures.number c.check_below-below.ensures lengths refl

pub returns-in_err-check_floor-clause-number : goal.returns-in_err-check_floor-clause-number
returns-in_err-check_floor-clause-number c =
    let lengths = rw (c.in_ok-shape.ensures.shape.0, c.in_ok-shape.ensures.shape.1) at c.check_lengths-lengths.ensures in
    handed_on _ _ c.from_residual-in_err-check_floor.ensures.1 ∙ c.in_err-check_floor.ensures
    ∙ lowest _ _ _ _ _ _ _ _ _ _ _ _ _ _ _ _ _ _ _ _ (or_done _)
    c.in_ok-lower_of.ensures.number c.check_below-below.ensures lengths refl

pub returns-clause-number : goal.returns-clause-number
returns-clause-number c =
    let lengths = rw (c.in_ok-shape.ensures.shape.0, c.in_ok-shape.ensures.shape.1) at c.check_lengths-lengths.ensures in
    lowest _ _ _ _ _ _ _ _ _ _ _ _ _ _ _ _ _ _ _ _ (or_done _)
    c.in_ok-lower_of.ensures.number c.check_below-below.ensures lengths c.in_ok-check_floor.ensures
