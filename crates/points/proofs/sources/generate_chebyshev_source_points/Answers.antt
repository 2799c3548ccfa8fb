-- `points::sources::generate_chebyshev_source_points` meets its contract: refused by its shape, its reference or its sizes, or filled.
-- Assumes nothing.
use mathlib.Core.Path.{sym, refl, ◌∙◌}
use native.Mathlib.Omega.{arith}
use Rattle.common.specs.Refusals.{Shape}
use Rattle.common.proofs.Numbers.{handed_on, number_above}
use Rattle.points.proofs.Calls.{sizes_taken, source_shape, source_case, source_sizes, source_refused, source_done}
use Rattle.points.proofs.sources.generate_chebyshev_source_points.Goals.{In_ok-shape}
use Rattle.points.proofs.sources.generate_chebyshev_source_points.Goals as goal

-- past the first test the shape is right
taken : (c : In_ok-shape) → let a = c.args in Shape a.dimension a.order
taken c = let s = c.in_ok-shape.ensures.shape in rw (s.0, s.1) at c.in_ok-shape.shape.taken

pub returns-in_err-shape : goal.returns-in_err-shape
returns-in_err-shape c =
    let a = c.args in
    let e = c.in_err-shape.ensures.number in
    let told = handed_on _ _ c.from_residual.ensures.1 in
    source_refused a.dimension a.order a.side a.reference a.nodes.now a.points.now _
    (told ∙ e ∙ source_shape _ _ _ _ _ _ (λ z. omega (arith, number_above c.in_err-shape.field-0.0, e ∙ z)))
    (λ z. omega (arith, number_above c.in_err-shape.field-0.0, told, z))

pub returns-in_err-vector : goal.returns-in_err-vector
returns-in_err-vector c =
    let a = c.args in
    let t = taken (goal.at.returns-in_err-vector c).In_ok-shape in
    let told = handed_on _ _ c.from_residual-in_err-vector.ensures.1 in
    source_refused a.dimension a.order a.side a.reference a.nodes.now a.points.now _
    (told ∙ source_case _ _ _ _ _ _ t _ c.reference_vector.ensures _ c.in_err-vector.was)
    (λ z. omega (arith, number_above c.in_err-vector.field-0.0, told, z))

pub returns-in_err-check_sizes : goal.returns-in_err-check_sizes
returns-in_err-check_sizes c =
    let a = c.args in
    let s = c.in_ok-shape.ensures.shape in
    let t = taken (goal.at.returns-in_err-check_sizes c).In_ok-shape in
    let told = handed_on _ _ c.from_residual-in_err-check_sizes.ensures.1 in
    source_refused a.dimension a.order a.side a.reference a.nodes.now a.points.now _
    (told ∙ rw (s.0, s.1) at c.in_err-check_sizes.ensures
    ∙ source_sizes _ _ _ _ _ _ t _ c.reference_vector.ensures _ c.in_ok-vector.was)
    (λ z. omega (arith, number_above c.in_err-check_sizes.field-0.0, told, z))

pub fill_points-requires : goal.fill_points-requires
fill_points-requires c = sizes_taken _ _ _ _ _ (sym c.in_ok-check_sizes.ensures)

pub returns : goal.returns
returns c =
    let a = c.args in
    let s = c.in_ok-shape.ensures.shape in
    let t = taken (goal.at.returns c).In_ok-shape in
    let by = c.reference_vector.ensures in
    source_done a.dimension a.order a.side a.reference a.nodes.now a.points.now _
    (rw (s.0, s.1) at c.in_ok-check_sizes.ensures ∙ source_sizes _ _ _ _ _ _ t _ by _ c.in_ok-vector.was)
    _ _ _ t by c.in_ok-vector.was refl (rw (s.0, s.1) at c.fill_points.ensures)
