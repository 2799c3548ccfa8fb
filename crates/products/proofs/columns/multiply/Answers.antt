-- `products::columns::multiply` meets its contract: by the dimension. Assumes nothing.
use mathlib.Core.Path.{◌≡◌, ◌∙◌}
use native.Mathlib.Omega.{arith}
use Rattle.common.proofs.Fill.{fill_all, tabulate_cong}
use Rattle.products.proofs.Products.{product_one, product_two, product_three}
use Rattle.products.proofs.columns.multiply.Goals as goal

pub returns-then-dimension-eq1 : goal.returns-then-dimension-eq1
returns-then-dimension-eq1 c =
    let a = c.args in
    c.copy_column.ensures ∙ fill_all a.rows _ a.column.now c.requires.5
    ∙ tabulate_cong a.rows _ _ (λ i _. product_one a.dimension a.first.now a.second.now a.third.now
    c.if-dimension-eq1.true i)

pub returns-then-dimension-eq2 : goal.returns-then-dimension-eq2
returns-then-dimension-eq2 c =
    let a = c.args in
    c.multiply_two.ensures
    ∙ tabulate_cong a.rows _ _ (λ i _. product_two a.dimension a.first.now a.second.now a.third.now
    c.if-dimension-eq2.true i)

pub returns-else-dimension-eq2 : goal.returns-else-dimension-eq2
returns-else-dimension-eq2 c =
    let a = c.args in
    let last : a.dimension ≡ 3 = omega (
      arith,
      c.requires.0,
      c.requires.1,
      c.if-dimension-eq1.false,
      c.if-dimension-eq2.false,
    ) in
    c.multiply_three.ensures
    ∙ tabulate_cong a.rows _ _ (λ i _. product_three a.dimension a.first.now a.second.now a.third.now last i)
