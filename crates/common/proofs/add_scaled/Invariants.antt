-- `common::add_scaled` meets its contract. The loop keeps `Filling`: i rows have their sums. Assumes nothing.
use Prim.Native.Nat.{◌+◌, ◌-◌}
use lib.Ieee.{nan}
use lib.ListN.{get_or}
use Rattle.common.specs.Floats.{plus, times}
use Rattle.common.proofs.Fill.{Filling}
use Rattle.common.proofs.add_scaled.Given as goal

abbrev pub invariant-loop-i : goal.invariant-loop-i
invariant-loop-i l = Filling l.at l.rows
    (λ j. plus (get_or l.initial.column (l.at + j) nan) (times (get_or l.source (l.from + j) nan) l.factor)) l.initial.column l.column l.i

abbrev pub decreases-loop-i : goal.decreases-loop-i
decreases-loop-i l = l.rows - l.i
