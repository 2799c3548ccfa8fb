-- `coordinates::scaling::scaling_number` meets its contract: each return by the tests that led there. Assumes nothing.
use mathlib.Core.Path.{◌≡◌, sym, ◌∙◌}
use Prim.Native.Nat.{◌≤◌}
use native.Mathlib.Nat.{mul-le-mul}
use native.Mathlib.Omega.{arith}
use Rattle.common.specs.Refusals.{shape_number}
use Rattle.common.proofs.Limits.{shape_taken}
use Rattle.common.proofs.Numbers.{handed_on, number_above}
use Rattle.coordinates.proofs.Scalings.{scaling_shape, scaling_count, scaling_centre, scaling_points, scaling_rest}
use Rattle.coordinates.proofs.scaling.scaling_number.Goals.{In_ok-new}
use Rattle.coordinates.proofs.scaling.scaling_number.Goals.{then-centre-dimension-via-then-centre-dimension}
use Rattle.coordinates.proofs.scaling.scaling_number.Goals.{then-centre-dimension-via-else-centre-dimension+then-points-size}
use Rattle.coordinates.proofs.scaling.scaling_number.Goals as goal

-- past the first test the dimension is one
dimension : (c : In_ok-new) → shape_number c.args.dimension 1 ≡ 0
dimension c = sym c.in_ok-new.ensures.number

most : (c : In_ok-new) → c.args.dimension ≤ 3
most c = (shape_taken _ 1 (dimension c)).dimension_most

pub returns-in_err-new : goal.returns-in_err-new
returns-in_err-new c =
    let e = c.in_err-new.ensures.number in
    handed_on _ _ c.from_residual.ensures.1 ∙ e
    ∙ scaling_shape _ _ _ _ _ (λ z. omega (arith, number_above c.in_err-new.field-0.0, e, z))

pub returns-then-rows-gt-MOST_POINTS : goal.returns-then-rows-gt-MOST_POINTS
returns-then-rows-gt-MOST_POINTS c =
    scaling_count _ _ _ _ _ (dimension (goal.at.returns-then-rows-gt-MOST_POINTS c).In_ok-new) c.if-rows-gt-MOST_POINTS.true

pub overflow_mul-size : goal.overflow_mul-size
overflow_mul-size c =
    let a = c.args in
    let few = mul-le-mul {n₁ = a.dimension} {m₁ = a.rows} {n₂ = 3} {m₂ = 4096} (most (goal.at.overflow_mul-size c).In_ok-new)
    c.if-rows-gt-MOST_POINTS.false in
    omega (arith, few)

pub returns-then-centre-dimension : goal.returns-then-centre-dimension
returns-then-centre-dimension c =
    let is = dimension (goal.at.returns-then-centre-dimension c).In_ok-new in
    elim c.then-centre-dimension.branch [
      | then-centre-dimension-via-then-centre-dimension w ↦
          scaling_centre _ _ _ _ _ is c.if-rows-gt-MOST_POINTS.false w.if-centre-dimension.true
      | then-centre-dimension-via-else-centre-dimension+then-points-size w ↦
          scaling_points _ _ _ _ _ is c.if-rows-gt-MOST_POINTS.false w.if-centre-dimension.false w.if-points-size.true
    ]

pub check_points-requires : goal.check_points-requires
check_points-requires c =
    (most (goal.at.check_points-requires c).In_ok-new, c.if-centre-dimension.false, c.if-points-size.false)

pub returns : goal.returns
returns c =
    c.check_points.ensures
    ∙ scaling_rest _ _ _ _ _ (dimension (goal.at.returns c).In_ok-new) c.if-rows-gt-MOST_POINTS.false c.if-centre-dimension.false
    c.if-points-size.false
