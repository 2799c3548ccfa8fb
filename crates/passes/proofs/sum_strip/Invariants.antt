-- `passes::sum_strip` meets its contract. The loop keeps: each sum has its first s terms. Assumes nothing.
use mathlib.Core.Path.{◌≡◌}
use Rattle.common.specs.Lists.{tabulate}
use Rattle.passes.specs.Working.{summed}
use Rattle.passes.proofs.sum_strip.Given as goal

abbrev pub invariant-loop-s : goal.invariant-loop-s
invariant-loop-s l = l.sums ≡ tabulate 4 (summed l.s l.values l.from l.strip)
