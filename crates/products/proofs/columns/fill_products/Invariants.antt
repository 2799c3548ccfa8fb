-- `products::columns::fill_products` meets its contract. The loop keeps `Stepping`: the columns of the nodes before `node` are
-- filled. Assumes nothing.
use mathlib.Core.List.{List}
use Prim.Native.Nat.{ℕ, ◌+◌, ◌*◌, ◌^◌}
use lib.Ieee.{Float}
use Rattle.common.specs.Matrices.{cell}
use Rattle.common.proofs.Steps.{Stepping}
use Rattle.products.specs.Products.{three, product_of}
use Rattle.products.proofs.columns.fill_products.Given as goal

-- the columns, by their places
abbrev pub columns_of : (D p P f s t : ℕ) → (a b c : List Float) → ℕ → Float
columns_of D p P f s t a b c = cell P (product_of D p P (three f s t) (three a b c))

abbrev pub invariant-loop-node : goal.invariant-loop-node
invariant-loop-node l =
    let D = l.grid.shape.dimension in
    let p = l.grid.shape.order in
    let P = l.grid.rows in
    Stepping 0 (p ^ D) P (columns_of D p P l.axes.first l.axes.second l.axes.third l.first l.second l.third) l.initial.out l.out l.node
    (0 + l.node * P)
