-- `ratios::graham_ratios` meets its contract: refused, or told from the coefficients. Assumes nothing.
use mathlib.Core.Path.{refl, sym, ◌∙◌}
use native.Mathlib.Omega.{arith}
use Rattle.common.proofs.Numbers.{handed_on, number_above}
use Rattle.ratios.proofs.Calls.{none, evaluated, ratios_refused, ratios_done}
use Rattle.ratios.proofs.graham_ratios.Goals as goal

pub returns-in_err-shape : goal.returns-in_err-shape
returns-in_err-shape c =
    let a = c.args in
    let e = handed_on _ _ c.from_residual.ensures.1 in
    ratios_refused a.cell.dimension a.cell.order a.cell.rows a.cell.side a.floor a.centre.now
    a.node_polynomials.now a.carbon_monoxide.now a.nitrogen.now a.oxygen.now a.points.now a.values.now
    a.factors.now a.answers.now a.ratios.now _ (e ∙ c.in_err-shape.ensures.number)
    (λ z. omega (arith, number_above c.in_err-shape.field-0.0, e, z))

pub fill_values-requires : goal.fill_values-requires
fill_values-requires c =
    let a = c.args in
    (none a.cell.dimension a.cell.order a.cell.rows a.cell.side a.floor a.centre.now a.node_polynomials.now
    a.carbon_monoxide.now a.nitrogen.now a.oxygen.now a.points.now a.values.now a.factors.now a.answers.now
    a.ratios.now (sym c.in_ok-shape.ensures.number)).0

pub fill_answers-requires : goal.fill_answers-requires
fill_answers-requires c =
    let values = c.fill_values in
    let a = c.args in
    evaluated a.cell.dimension a.cell.order a.cell.rows a.cell.side a.floor a.centre.now
    a.node_polynomials.now a.carbon_monoxide.now a.nitrogen.now a.oxygen.now a.points.now a.values.now
    a.factors.now a.answers.now a.ratios.now _ c.in_ok-shape.ensures.number refl _ _
    (rw (c.in_ok-shape.ensures.shape.0, c.in_ok-shape.ensures.shape.1) at c.nodes.ensures) values.auto.values

pub returns : goal.returns
returns c =
    let answers = c.fill_answers in
    let nodes = rw (c.in_ok-shape.ensures.shape.0, c.in_ok-shape.ensures.shape.1) at c.nodes.ensures in
    let values = c.fill_values in
    let a = c.args in
    ratios_done a.cell.dimension a.cell.order a.cell.rows a.cell.side a.floor a.centre.now
    a.node_polynomials.now a.carbon_monoxide.now a.nitrogen.now a.oxygen.now a.points.now a.values.now
    a.factors.now a.answers.now a.ratios.now _ c.in_ok-shape.ensures.number refl _ _ _ _ _ _ _
    nodes values.ensures answers.ensures
