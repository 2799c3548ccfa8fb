-- `chebyshev::second::evaluate_second_derivatives` meets its contract: refused, or three matrices filled. Assumes nothing.
use mathlib.Core.Path.{sym, refl, ◌∙◌}
use native.Mathlib.Omega.{arith}
use Rattle.common.proofs.Numbers.{handed_on, number_above}
use Rattle.chebyshev.proofs.Seconds.{second_accepted, second_refused, second_done}
use Rattle.chebyshev.proofs.second.evaluate_second_derivatives.Goals as goal

pub returns-in_err-check_second : goal.returns-in_err-check_second
returns-in_err-check_second c =
    let a = c.args in
    let e = handed_on _ _ c.from_residual.ensures.1 in
    second_refused a.order a.rows a.points.now a.tn.now a.dtn.now a.ddtn.now _ (e ∙ c.in_err-check_second.ensures)
    (λ z. omega (arith, number_above c.in_err-check_second.field-0.0, e, z))

pub fill_three-requires : goal.fill_three-requires
fill_three-requires c =
    let a = c.args in
    let h = second_accepted a.order a.rows _ _ _ _ (sym c.in_ok-check_second.ensures) in
    rw h.0.points (h.0.values, h.0.slopes, h.1)

pub returns : goal.returns
returns c =
    let a = c.args in
    let h = second_accepted a.order a.rows _ _ _ _ (sym c.in_ok-check_second.ensures) in
    let filled = rw h.0.points at c.fill_three.ensures in
    second_done a.order a.rows a.points.now a.tn.now a.dtn.now a.ddtn.now _ c.in_ok-check_second.ensures _ _ _ refl filled.0 filled.1
    filled.2
