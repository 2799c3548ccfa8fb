-- `bbfmm::coefficients_calls::bbfmm_get_approximation_coefficients` meets its contract: what is wanted is told by two arguments. Assumes
-- nothing.
use mathlib.Core.Path.{ap, ◌∙◌}
use Rattle.coefficients.specs.Coefficients.{coefficients_call}
use Rattle.coefficients.specs.declared.wanted.Wanted.{Wanted}
use Rattle.bbfmm.proofs.coefficients_calls.bbfmm_get_approximation_coefficients.Goals as goal

pub returns : goal.returns
returns c =
    let a = c.args in
    rw c.told_number.ensures
    (c.get_approximation_coefficients.ensures
    ∙ ap (λ (x : Wanted). coefficients_call a.dimension a.order a.rows x a.node_polynomials.now a.coordinates.now
    (a.values.now, a.gradients.now, a.factors.now, a.slopes.now)) c.wanted_of.ensures)
