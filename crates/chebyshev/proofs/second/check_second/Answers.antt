-- `chebyshev::second::check_second` meets its contract: each return by the tests that led there. Assumes nothing.
use mathlib.Core.Path.{sym, ◌∙◌}
use native.Mathlib.Omega.{arith}
use Rattle.common.proofs.Numbers.{handed_on, number_above}
use Rattle.chebyshev.proofs.Seconds.{second_first, second_short, second_none}
use Rattle.chebyshev.proofs.second.check_second.Goals as goal

pub returns-in_err-check_polynomials : goal.returns-in_err-check_polynomials
returns-in_err-check_polynomials c =
    let a = c.args in
    let e = c.in_err-check_polynomials.ensures in
    handed_on _ _ c.from_residual.ensures.1 ∙ e
    ∙ second_first a.order a.rows a.points a.tn a.dtn a.ddtn (λ z. omega (arith, number_above c.in_err-check_polynomials.field-0.0, e ∙ z))

pub returns-then-ddtn-tn : goal.returns-then-ddtn-tn
returns-then-ddtn-tn c =
    let a = c.args in
    second_short a.order a.rows a.points a.tn a.dtn a.ddtn (sym c.in_ok-check_polynomials.ensures) c.if-ddtn-tn.true

pub returns : goal.returns
returns c =
    let a = c.args in
    second_none a.order a.rows a.points a.tn a.dtn a.ddtn (sym c.in_ok-check_polynomials.ensures) c.if-ddtn-tn.false
