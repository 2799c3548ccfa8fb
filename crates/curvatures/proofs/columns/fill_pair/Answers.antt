-- `curvatures::columns::fill_pair` meets its contract: by whether the pair has one axis or two. Assumes nothing.
use mathlib.Core.Path.{◌∙◌}
use Prim.Native.Nat.{◌^◌}
use lib.Arith.{lt_of_le-ne}
use Rattle.curvatures.proofs.Products.{pair_one, pair_sources, pair_two}
use Rattle.curvatures.proofs.columns.fill_pair.Goals as goal

pub fill_products-requires : goal.fill_products-requires
fill_products-requires c =
    let a = c.args in (
      pair_sources a.grid.shape.dimension a.grid.shape.order a.grid.rows a.factors.now a.slopes.now a.bends.now a.grid.shape.taken.dimension_most c.requires.0
          a.pair _ c.third_axis.ensures (lt_of_le-ne c.requires.1 c.if-pair.false) c.requires.2,
      c.requires.3,
    )

pub returns-then-pair : goal.returns-then-pair
returns-then-pair c =
    let a = c.args in
    c.fill_started.ensures
    ∙ pair_one a.grid.shape.dimension a.grid.shape.order a.grid.rows a.factors.now a.slopes.now a.bends.now a.grid.shape.taken.dimension_most c.requires.0
    a.pair c.if-pair.true (a.grid.shape.order ^ a.grid.shape.dimension)

pub returns-else-pair : goal.returns-else-pair
returns-else-pair c =
    let a = c.args in
    c.fill_products.ensures
    ∙ pair_two a.grid.shape.dimension a.grid.shape.order a.grid.rows a.factors.now a.slopes.now a.bends.now a.grid.shape.taken.dimension_most c.requires.0
    a.pair _ c.third_axis.ensures (lt_of_le-ne c.requires.1
    c.if-pair.false) c.requires.2
    (a.grid.shape.order ^ a.grid.shape.dimension)
