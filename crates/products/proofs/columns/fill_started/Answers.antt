-- `products::columns::fill_started` meets its contract: the sources in their order. Assumes nothing.
use mathlib.Core.Path.{◌∙◌}
use Prim.Native.Nat.{◌^◌}
use Rattle.products.proofs.Products.{sources, started_columns}
use Rattle.products.proofs.columns.fill_started.Goals as goal

pub fill_products-requires : goal.fill_products-requires
fill_products-requires c =
    let a = c.args in (
      sources a.grid.shape.dimension a.grid.shape.order a.grid.rows a.axis _ _ a.starts.now a.factors.now
          a.grid.shape.taken c.requires.0 c.second_axis.ensures c.third_axis.ensures c.requires.1 c.requires.2,
      c.requires.3,
    )

pub returns : goal.returns
returns c =
    let a = c.args in
    c.fill_products.ensures ∙ started_columns a.grid.shape.dimension a.grid.shape.order a.grid.rows a.axis _ _
    a.starts.now a.factors.now
    a.grid.shape.taken c.requires.0 c.second_axis.ensures
    c.third_axis.ensures (a.grid.shape.order ^ a.grid.shape.dimension)
