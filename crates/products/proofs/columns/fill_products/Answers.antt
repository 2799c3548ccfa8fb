-- `products::columns::fill_products` meets its contract. The loop keeps `Stepping`: the columns of the nodes before `node` are
-- filled. Assumes nothing.
use mathlib.Core.Path.{refl, ◌∙◌}
use Prim.Native.Nat.{◌+◌, ◌*◌, ◌^◌, ◌<◌, ◌≤◌}
use native.Mathlib.Nat.{zero-add}
use native.Mathlib.Omega.{arith}
use lib.ListN.{length}
use Rattle.common.specs.Matrices.{cell}
use Rattle.common.proofs.Fill.{part_length}
use Rattle.common.proofs.Matrices.{column_fits, columns_filled}
use Rattle.common.proofs.Steps.{stepping_done, column_lent}
use Rattle.axes.proofs.Stretches.{stepping_first, stepping_next}
use Rattle.products.specs.Products.{three, product_of}
use Rattle.products.proofs.columns.fill_products.Goals.{In-loop-node}
use Rattle.products.proofs.columns.fill_products.Invariants.{columns_of}
use Rattle.products.proofs.columns.fill_products.Goals as goal

-- the node is one of those that there are, and its column has its place
below : (c : In-loop-node) → let g = c.args.grid in c.loop-node.node < g.shape.order ^ g.shape.dimension
below c = rw (← c.nodes-node-end.ensures) c.loop-node-test.true

room : (c : In-loop-node) → c.loop-node.node * c.args.grid.rows + c.args.grid.rows ≤ length c.loop-node.out
room c =
    let g = c.args.grid in
    omega (
      arith,
      column_fits c.loop-node.node (g.shape.order ^ g.shape.dimension) g.rows _ (below c) refl,
      c.loop-node.invariant.long,
      c.requires.1,
    )

pub loop-node-init : goal.loop-node-init
loop-node-init c =
    let a = c.args in
    let D = a.grid.shape.dimension in
    let p = a.grid.shape.order in
    let P = a.grid.rows in
    stepping_first 0 (p ^ D) P (columns_of D p P a.axes.first a.axes.second a.axes.third a.first.now a.second.now a.third.now) a.out.now

pub overflow_mul-at : goal.overflow_mul-at
overflow_mul-at c = omega (arith, room (goal.at.overflow_mul-at c).In-loop-node, c.loop-node.invariant.long, c.well_formed)

pub overflow_add-end : goal.overflow_add-end
overflow_add-end c = omega (arith, room (goal.at.overflow_add-end c).In-loop-node, c.loop-node.invariant.long, c.well_formed)

pub slice_bounds-fill_product-end : goal.slice_bounds-fill_product-end
slice_bounds-fill_product-end c = omega (arith, room (goal.at.slice_bounds-fill_product-end c).In-loop-node)

pub fill_product-requires : goal.fill_product-requires
fill_product-requires c =
    (c.requires.0, part_length _ _ c.args.grid.rows _ refl (room (goal.at.fill_product-requires c).In-loop-node))

pub loop-node-preserved : goal.loop-node-preserved
loop-node-preserved c =
    let a = c.args in
    let D = a.grid.shape.dimension in
    let p = a.grid.shape.order in
    let P = a.grid.rows in
    let l = c.loop-node in
    let columns = product_of D p P (three a.axes.first a.axes.second a.axes.third) (three a.first.now a.second.now a.third.now) in
    stepping_next 0 (p ^ D) P (cell P columns) a.out.now _ _ l.node
    (column_lent P (p ^ D) columns a.out.now l.out _ l.node _ _ c.requires.1 (rw (zero-add (l.node * P)) at l.invariant)
    (below (goal.at.loop-node-preserved c).In-loop-node) c.fill_product.ensures (λ i _. refl))

pub shape_of-out : goal.shape_of-out
shape_of-out c = c.loop-node.invariant.long

pub returns : goal.returns
returns c =
    let a = c.args in
    let D = a.grid.shape.dimension in
    let p = a.grid.shape.order in
    let P = a.grid.rows in
    let all : p ^ D ≤ c.loop-node.node = rw (← c.nodes-node-end.ensures) c.loop-node-test.false in
    stepping_done 0 (p ^ D) P (columns_of D p P a.axes.first a.axes.second a.axes.third a.first.now a.second.now a.third.now) _ _ _ _
    c.loop-node.invariant all ∙ columns_filled P _ (p ^ D) a.out.now c.requires.1
