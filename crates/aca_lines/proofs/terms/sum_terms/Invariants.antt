-- `aca_lines::terms::sum_terms` meets its contract. The loop keeps: each entry has the sum of its first l terms. Assumes nothing.
use mathlib.Core.Path.{◌≡◌}
use Prim.Native.Nat.{◌≤◌}
use lib.ListN.{length}
use Rattle.common.specs.Floats.{times, sums}
use Rattle.common.specs.Lists.{stretch}
use Rattle.common.specs.Matrices.{matrix}
use Rattle.aca_lines.proofs.terms.sum_terms.Given as goal

abbrev pub invariant-loop-l : goal.invariant-loop-l
invariant-loop-l l =
    (l.n ≡ length l.initial.line) × (l.l ≤ l.k) × (length l.line ≡ length l.initial.line) ×
    (l.line ≡ stretch 0 l.n (λ i. sums l.l (λ s. times (matrix l.n l.terms i s) (matrix l.stride l.factors l.at s))) l.initial.line)
