-- `axes::sum_column` meets its contract. The loop keeps: each row has the sum of its first k terms. Assumes nothing.
use mathlib.Core.Path.{◌≡◌}
use lib.ListN.{length}
use Rattle.common.specs.Lists.{stretch}
use Rattle.common.specs.Floats.{sums}
use Rattle.axes.specs.Axes.{term_of}
use Rattle.axes.proofs.sum_column.Given as goal

abbrev pub invariant-loop-k : goal.invariant-loop-k
invariant-loop-k l =
    (length l.out ≡ length l.initial.out) ×
    (l.out ≡ stretch l.at l.rows (λ i. sums l.k (term_of l.order l.rows l.polynomials l.node_polynomials l.node i)) l.initial.out)
