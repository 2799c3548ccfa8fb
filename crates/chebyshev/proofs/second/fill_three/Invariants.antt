-- `chebyshev::second::fill_three` meets its contract. The loop keeps: the columns before j are filled in three buffers, and the rest is as
-- it was. Assumes nothing.
use mathlib.Core.Path.{◌≡◌}
use Prim.Native.Nat.{◌*◌}
use lib.Ieee.{nan}
use lib.ListN.{length, get_or}
use Rattle.common.specs.Lists.{stretch}
use Rattle.common.specs.Matrices.{cell}
use Rattle.polynomial_columns.specs.Recurrence.{T, T', T''}
use Rattle.chebyshev.proofs.second.fill_three.Given as goal

abbrev pub invariant-loop-j : goal.invariant-loop-j
invariant-loop-j l =
    let rows = length l.points in
    let at = l.j * rows in
    (l.tn ≡ stretch 0 at (cell rows (λ i k. T k (get_or l.points i nan))) l.initial.tn)
    × (l.dtn ≡ stretch 0 at (cell rows (λ i k. T' k (get_or l.points i nan))) l.initial.dtn)
    × (l.ddtn ≡ stretch 0 at (cell rows (λ i k. T'' k (get_or l.points i nan))) l.initial.ddtn)
