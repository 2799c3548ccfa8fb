-- `operators::sum_column` meets its contract. The loop keeps: each row has the sum of its first k terms, and t and next are T k
-- and T (k + 1) at the child's node. Assumes nothing.
use mathlib.Core.Path.{◌≡◌}
use Prim.Native.Nat.{◌+◌}
use Rattle.common.specs.Lists.{stretch}
use Rattle.polynomial_columns.specs.Recurrence.{T}
use Rattle.operators.specs.Working.{part_of}
use Rattle.operators.proofs.sum_column.Given as goal

abbrev pub invariant-loop-k : goal.invariant-loop-k
invariant-loop-k l =
    (l.t ≡ T l.k l.x) × (l.next ≡ T (l.k + 1) l.x)
    × (l.operators ≡ stretch l.at l.order (part_of l.order l.polynomials l.x l.k) l.initial.operators)
