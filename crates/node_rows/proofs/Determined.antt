-- The contract of this crate determines what its call leaves. Assumes nothing.
use mathlib.Core.Path.{◌≡◌}
use mathlib.Core.List.{List}
use Prim.Native.Nat.{ℕ}
use lib.Ieee.{Float}
use Rattle.common.specs.Lists.{tabulate}
use Rattle.common.proofs.Determined.{coincide}
use Rattle.node_rows.specs.Rows.{node}

fill_nodes_determined : (order : ℕ) (exit exit' : List Float) → exit ≡ tabulate order (node order) →
    exit' ≡ tabulate order (node order) → exit ≡ exit'
fill_nodes_determined order exit exit' = coincide exit exit' (tabulate order (node order))
