-- `distances::blocks::square_column` meets its contract. The loop keeps `Filling`: i rows have their squares. Assumes nothing.
use lib.Ieee.{nan}
use lib.ListN.{get_or}
use Rattle.common.proofs.Fill.{Filling}
use Rattle.distances.specs.Distances.{apart}
use Rattle.distances.proofs.blocks.square_column.Given as goal

abbrev pub invariant-loop-i : goal.invariant-loop-i
invariant-loop-i l = Filling 0 l.rows (λ j. apart (get_or l.sources j nan) l.coordinate) l.initial.column l.column l.i
