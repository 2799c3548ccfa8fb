-- `chebyshev::polynomials::fill_polynomials` meets its contract. The loop keeps: the columns before j are filled, and the rest is as it
-- was. Assumes nothing.
use mathlib.Core.Path.{◌≡◌, ◌∙◌}
use native.Mathlib.Omega.{arith}
use Rattle.polynomial_columns.specs.Recurrence.{T}
use Rattle.chebyshev.proofs.Columns.{column_room, values_filled, columns_all}
use Rattle.chebyshev.proofs.polynomials.fill_polynomials.Goals as goal

pub polynomial_column-requires : goal.polynomial_column-requires
polynomial_column-requires c =
    let l = c.loop-j in column_room l.j c.args.order _ _ c.loop-j-test.true (l.auto.tn ∙ c.requires)

pub loop-j-preserved : goal.loop-j-preserved
loop-j-preserved c =
    let a = c.args in
    let l = c.loop-j in
    c.polynomial_column.ensures
    ∙ values_filled _ a.points.now a.order l.j c.loop-j-test.true a.tn.now l.tn c.requires l.invariant

pub returns : goal.returns
returns c =
    let a = c.args in
    let l = c.loop-j in
    let all : l.j ≡ a.order = omega arith in
    l.invariant ∙ columns_all _ a.points.now T a.order l.j a.tn.now c.requires all
