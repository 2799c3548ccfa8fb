-- `operators::fill_operators` meets its contract. The loop keeps: the columns before c are filled, and the rest is as it was.
-- Assumes nothing.
use mathlib.Core.Path.{◌≡◌}
use Prim.Native.Nat.{◌*◌}
use lib.ListN.{length}
use Rattle.common.specs.Lists.{stretch}
use Rattle.common.specs.Matrices.{cell}
use Rattle.operators.specs.Operators.{operator}
use Rattle.operators.proofs.fill_operators.Given as goal

abbrev pub invariant-loop-c : goal.invariant-loop-c
invariant-loop-c l =
    let order = length l.nodes in
    l.operators ≡ stretch 0 (l.c * order) (cell order (operator order l.nodes l.polynomials)) l.initial.operators
