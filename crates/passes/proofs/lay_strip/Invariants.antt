-- `passes::lay_strip` meets its contract. The loop keeps: the first k rows are laid. Assumes nothing.
use Rattle.common.specs.Matrices.{matrix}
use Rattle.passes.specs.Passes.{directed}
use Rattle.passes.specs.Working.{StripOf}
use Rattle.passes.proofs.lay_strip.Given as goal

abbrev pub invariant-loop-k : goal.invariant-loop-k
invariant-loop-k l = StripOf l.order (directed l.transpose (matrix l.order l.block)) l.first l.k l.strip
