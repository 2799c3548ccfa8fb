-- `passes::add_column` meets its contract. The loop keeps `Filling`: k sums are added to. Assumes nothing.
use Rattle.common.proofs.Fill.{Filling}
use Rattle.passes.specs.Working.{added}
use Rattle.passes.proofs.add_column.Given as goal

abbrev pub invariant-loop-k : goal.invariant-loop-k
invariant-loop-k l = Filling 0 4 (added l.value l.strip l.at l.initial.sums) l.initial.sums l.sums l.k
