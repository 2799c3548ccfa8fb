-- `products::columns::fill_product` meets its contract: the product of the node's columns. Assumes nothing.
use mathlib.Core.Path.{refl, ◌∙◌}
use Prim.Native.Nat.{◌+◌, ◌≤◌}
use native.Mathlib.Omega.{arith}
use lib.ListN.{length}
use Rattle.common.proofs.Fill.{part_length}
use Rattle.products.proofs.Products.{source_axes, source_room, product_lent}
use Rattle.products.proofs.columns.fill_product.Goals.{After-place_of-c}
use Rattle.products.proofs.columns.fill_product.Goals as goal

-- the three columns have their places
rooms : (c : After-place_of-c) →
    let a = c.args in
    (c.place_of-a.result + a.grid.rows ≤ length a.first.now) ×
    (c.place_of-b.result + a.grid.rows ≤ length a.second.now)
    × (c.place_of-c.result + a.grid.rows ≤ length a.third.now)
rooms c =
    let room = source_room _ _ _ _ _ _ _ _ _ c.args.grid.shape.taken.order_least c.requires.0 c.args.node in (
      rw c.place_of-a.ensures room.0,
      rw c.place_of-b.ensures room.1,
      rw c.place_of-c.ensures
          room.2,
    )

pub place_of-a-requires : goal.place_of-a-requires
place_of-a-requires c = (source_axes _ _ _ _ _ _ _ _ _ c.args.grid.shape.taken.order_least c.requires.0).0

pub place_of-b-requires : goal.place_of-b-requires
place_of-b-requires c = (source_axes _ _ _ _ _ _ _ _ _ c.args.grid.shape.taken.order_least c.requires.0).1

pub place_of-c-requires : goal.place_of-c-requires
place_of-c-requires c = (source_axes _ _ _ _ _ _ _ _ _ c.args.grid.shape.taken.order_least c.requires.0).2

pub overflow_add-a_end : goal.overflow_add-a_end
overflow_add-a_end c = omega (arith, rooms (goal.at.overflow_add-a_end c).After-place_of-c, c.well_formed)

pub overflow_add-b_end : goal.overflow_add-b_end
overflow_add-b_end c = omega (arith, rooms (goal.at.overflow_add-b_end c).After-place_of-c, c.well_formed)

pub overflow_add-c_end : goal.overflow_add-c_end
overflow_add-c_end c = omega (arith, rooms (goal.at.overflow_add-c_end c).After-place_of-c, c.well_formed)

pub slice_bounds-multiply-end : goal.slice_bounds-multiply-end
slice_bounds-multiply-end c = omega (arith, rooms (goal.at.slice_bounds-multiply-end c).After-place_of-c)

pub slice_bounds-multiply-end-2 : goal.slice_bounds-multiply-end-2
slice_bounds-multiply-end-2 c = omega (arith, rooms (goal.at.slice_bounds-multiply-end-2 c).After-place_of-c)

pub slice_bounds-multiply-end-3 : goal.slice_bounds-multiply-end-3
slice_bounds-multiply-end-3 c = omega (arith, rooms (goal.at.slice_bounds-multiply-end-3 c).After-place_of-c)

pub offset_bounds-first-a : goal.offset_bounds-first-a
offset_bounds-first-a c = omega (arith, rooms (goal.at.offset_bounds-first-a c).After-place_of-c, c.well_formed)

pub offset_bounds-second-b : goal.offset_bounds-second-b
offset_bounds-second-b c = omega (arith, rooms (goal.at.offset_bounds-second-b c).After-place_of-c, c.well_formed)

pub offset_bounds-third-c : goal.offset_bounds-third-c
offset_bounds-third-c c = omega (arith, rooms (goal.at.offset_bounds-third-c c).After-place_of-c, c.well_formed)

pub multiply-requires : goal.multiply-requires
multiply-requires c =
    let P = c.args.grid.rows in (
      c.args.grid.shape.taken.dimension_least,
      c.args.grid.shape.taken.dimension_most,
      part_length _ _ P _ refl (rooms (goal.at.multiply-requires c).After-place_of-c).0,
      part_length _ _ P _ refl (rooms (goal.at.multiply-requires c).After-place_of-c).1,
      part_length _ _ P _ refl (rooms (goal.at.multiply-requires c).After-place_of-c).2,
      c.requires.1,
    )

pub returns : goal.returns
returns c =
    let a = c.args in
    c.multiply.ensures ∙ product_lent a.grid.shape.dimension a.grid.shape.order a.grid.rows a.node _ _ _
    a.first.now a.second.now a.third.now _ _ _
    c.place_of-a.ensures c.place_of-b.ensures c.place_of-c.ensures
