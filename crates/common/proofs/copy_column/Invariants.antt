-- `common::copy_column` meets its contract. The loop keeps `Filling`: i rows are copied. Assumes nothing.
use Prim.Native.Nat.{◌-◌}
use lib.Ieee.{nan}
use lib.ListN.{get_or}
use Rattle.common.proofs.Fill.{Filling}
use Rattle.common.proofs.copy_column.Given as goal

abbrev pub invariant-loop-i : goal.invariant-loop-i
invariant-loop-i l = Filling l.at l.rows (λ j. get_or l.source j nan) l.initial.column l.column l.i

abbrev pub decreases-loop-i : goal.decreases-loop-i
decreases-loop-i l = l.rows - l.i
