-- `distances::blocks::fill_block` meets its contract. The loop keeps `Stepping`: the columns of the first targets are filled. Assumes
-- nothing.
use Rattle.common.specs.Matrices.{cell}
use Rattle.common.proofs.Steps.{Stepping}
use Rattle.distances.specs.Working.{between}
use Rattle.distances.proofs.blocks.fill_block.Given as goal

abbrev pub invariant-loop-target : goal.invariant-loop-target
invariant-loop-target l =
    Stepping 0 l.rows l.rows (cell l.rows (between l.dimension l.rows l.sources l.targets)) l.initial.block l.block l.target l.at
