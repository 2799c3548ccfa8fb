-- `points::targets::generate_chebyshev_target_points` meets its contract: refused by its shape or its sizes, or filled. Assumes nothing.
use mathlib.Core.Path.{sym, refl, ◌∙◌}
use native.Mathlib.Omega.{arith}
use Rattle.common.proofs.Numbers.{handed_on, number_above}
use Rattle.points.proofs.Calls.{sizes_taken, target_shape, target_sizes, target_refused, target_done}
use Rattle.points.proofs.targets.generate_chebyshev_target_points.Goals as goal

pub returns-in_err-shape : goal.returns-in_err-shape
returns-in_err-shape c =
    let a = c.args in
    let e = c.in_err-shape.ensures.number in
    let told = handed_on _ _ c.from_residual.ensures.1 in
    target_refused a.dimension a.order a.side a.nodes.now a.points.now _
    (told ∙ e ∙ target_shape _ _ _ _ _ (λ z. omega (arith, number_above c.in_err-shape.field-0.0, e ∙ z)))
    (λ z. omega (arith, number_above c.in_err-shape.field-0.0, told, z))

pub returns-in_err-check_sizes : goal.returns-in_err-check_sizes
returns-in_err-check_sizes c =
    let a = c.args in
    let s = c.in_ok-shape.ensures.shape in
    let told = handed_on _ _ c.from_residual-in_err-check_sizes.ensures.1 in
    target_refused a.dimension a.order a.side a.nodes.now a.points.now _
    (told ∙ rw (s.0, s.1) at (c.in_err-check_sizes.ensures ∙ target_sizes _ _ _ _ _ c.in_ok-shape.shape.taken))
    (λ z. omega (arith, number_above c.in_err-check_sizes.field-0.0, told, z))

pub fill_points-requires : goal.fill_points-requires
fill_points-requires c = sizes_taken _ _ _ _ _ (sym c.in_ok-check_sizes.ensures)

pub returns : goal.returns
returns c =
    let a = c.args in
    let s = c.in_ok-shape.ensures.shape in
    target_done a.dimension a.order a.side a.nodes.now a.points.now _
    (rw (s.0, s.1) at (c.in_ok-check_sizes.ensures ∙ target_sizes _ _ _ _ _ c.in_ok-shape.shape.taken))
    _ refl (rw (s.0, s.1) at c.fill_points.ensures)
