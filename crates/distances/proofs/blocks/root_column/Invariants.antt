-- `distances::blocks::root_column` meets its contract. The loop keeps `Filling`: i rows have their roots. Assumes nothing.
use lib.Ieee.{nan}
use lib.ListN.{get_or}
use Rattle.common.proofs.Fill.{Filling}
use Rattle.roots.specs.Values.{root}
use Rattle.distances.proofs.blocks.root_column.Given as goal

abbrev pub invariant-loop-i : goal.invariant-loop-i
invariant-loop-i l = Filling 0 l.rows (λ j. root (get_or l.initial.column j nan)) l.initial.column l.column l.i
