-- `distances::sample_distances` meets its contract: refused, or both lists of points filled by their calls, which do not refuse, and then
-- the block. Assumes nothing.
use mathlib.Core.Path.{◌≡◌, sym, refl, ap, ◌∙◌}
use native.Mathlib.Omega.{arith}
use Rattle.common.specs.Numbers.{told_number}
use Rattle.common.proofs.Numbers.{handed_on, number_above}
use Rattle.point_columns.specs.Blocks.{points_of}
use Rattle.points.specs.Points.{source_point, target_point}
use Rattle.distances.specs.Distances.{lengths}
use Rattle.distances.proofs.Calls.{Taken, number_shape, number_taken, block_fits, sources_filled, targets_filled}
use Rattle.distances.proofs.Calls.{sample_refused, sample_done}
use Rattle.distances.proofs.sample_distances.Goals.{In_ok-check_sample}
use Rattle.distances.proofs.sample_distances.Goals.{After-generate_chebyshev_source_points, After-generate_chebyshev_target_points}
use Rattle.distances.proofs.sample_distances.Goals as goal

-- past the tests nothing refuses
taken : (c : In_ok-check_sample) →
    let a = c.args in
    Taken a.dimension a.order a.side a.reference (lengths a.nodes.now (a.sources.now, a.targets.now, a.block.now))
taken c =
    let a = c.args in
    let s = c.in_ok-shape.ensures.shape in
    number_taken a.dimension a.order a.side a.reference _ (sym (rw (s.0, s.1) at c.in_ok-check_sample.ensures))

-- so both lists are filled
sources_there : (c : After-generate_chebyshev_source_points) →
    let a = c.args in
    Taken a.dimension a.order a.side a.reference (lengths a.nodes.now (a.sources.now, a.targets.now, a.block.now)) →
    (told_number c.generate_chebyshev_source_points.result ≡ 0)
    × (c.generate_chebyshev_source_points.new.points
    ≡ points_of a.dimension a.order (source_point a.dimension a.order a.side a.reference a.nodes.now))
sources_there c t =
    let a = c.args in
    sources_filled a.dimension a.order a.side a.reference _ a.nodes.now a.sources.now _ _ t t.nodes t.sources
    c.generate_chebyshev_source_points.ensures

targets_there : (c : After-generate_chebyshev_target_points) →
    let a = c.args in
    Taken a.dimension a.order a.side a.reference (lengths a.nodes.now (a.sources.now, a.targets.now, a.block.now)) →
    (told_number c.generate_chebyshev_target_points.result ≡ 0)
    × (c.generate_chebyshev_target_points.new.points
    ≡ points_of a.dimension a.order (target_point a.dimension a.order a.side a.nodes.now))
targets_there c t =
    let a = c.args in
    targets_filled a.dimension a.order a.side a.reference _ a.nodes.now a.targets.now _ _ t t.nodes t.targets
    c.generate_chebyshev_target_points.ensures

pub returns-in_err-shape : goal.returns-in_err-shape
returns-in_err-shape c =
    let a = c.args in
    let e = c.in_err-shape.ensures.number in
    let told = handed_on _ _ c.from_residual.ensures.1 in
    sample_refused a.dimension a.order a.side a.reference a.nodes.now (a.sources.now, a.targets.now, a.block.now) _
    (told ∙ e ∙ number_shape _ _ _ _ _ (λ z. omega (arith, number_above c.in_err-shape.field-0.0, e ∙ z)))
    (λ z. omega (arith, number_above c.in_err-shape.field-0.0, told, z))

pub returns-in_err-check_sample : goal.returns-in_err-check_sample
returns-in_err-check_sample c =
    let a = c.args in
    let s = c.in_ok-shape.ensures.shape in
    let told = handed_on _ _ c.from_residual-in_err-check_sample.ensures.1 in
    sample_refused a.dimension a.order a.side a.reference a.nodes.now (a.sources.now, a.targets.now, a.block.now) _
    (told ∙ rw (s.0, s.1) at c.in_err-check_sample.ensures)
    (λ z. omega (arith, number_above c.in_err-check_sample.field-0.0, told, z))

pub returns-in_err-generate_chebyshev_source_points : goal.returns-in_err-generate_chebyshev_source_points
returns-in_err-generate_chebyshev_source_points c =
    let at = goal.at.returns-in_err-generate_chebyshev_source_points c in
    let none = (sources_there at.After-generate_chebyshev_source_points (taken at.In_ok-check_sample)).0 in
    let some = ap told_number c.in_err-generate_chebyshev_source_points.was in
    absurd (omega (arith, number_above c.in_err-generate_chebyshev_source_points.field-0.0, some, none))

pub returns-in_err-generate_chebyshev_target_points : goal.returns-in_err-generate_chebyshev_target_points
returns-in_err-generate_chebyshev_target_points c =
    let at = goal.at.returns-in_err-generate_chebyshev_target_points c in
    let none = (targets_there at.After-generate_chebyshev_target_points (taken at.In_ok-check_sample)).0 in
    let some = ap told_number c.in_err-generate_chebyshev_target_points.was in
    absurd (omega (arith, number_above c.in_err-generate_chebyshev_target_points.field-0.0, some, none))

pub fill_block-requires : goal.fill_block-requires
fill_block-requires c =
    let a = c.args in
    let s = c.in_ok-shape.ensures.shape in
    let at = goal.at.fill_block-requires c in
    let t = taken at.In_ok-check_sample in
    block_fits a.dimension a.order a.side a.reference _ t _ _ _ _ _ (rw (s.0, s.1) at c.nodes.ensures)
    (sources_there at.After-generate_chebyshev_source_points t).1 (targets_there at.After-generate_chebyshev_target_points t).1

pub returns : goal.returns
returns c =
    let a = c.args in
    let s = c.in_ok-shape.ensures.shape in
    let at = goal.at.returns c in
    let t = taken at.In_ok-check_sample in
    sample_done a.dimension a.order a.side a.reference a.nodes.now (a.sources.now, a.targets.now, a.block.now) _
    (rw (s.0, s.1) at c.in_ok-check_sample.ensures) _ _ _ _ refl t.shape.dimension_least (rw (s.0, s.1) at c.nodes.ensures)
    (sources_there at.After-generate_chebyshev_source_points t).1 (targets_there at.After-generate_chebyshev_target_points t).1
    c.fill_block.ensures
