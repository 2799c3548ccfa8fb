-- `operators::scale_column` meets its contract. The loop keeps `Filling`: i rows are scaled. Assumes nothing.
use Prim.Native.Nat.{◌+◌}
use lib.Ieee.{nan}
use lib.ListN.{get_or}
use Rattle.common.specs.Floats.{minus, times}
use Rattle.common.proofs.Fill.{Filling}
use Rattle.operators.proofs.scale_column.Given as goal

abbrev pub invariant-loop-i : goal.invariant-loop-i
invariant-loop-i l = Filling l.at l.rows
    (λ j. minus (times (get_or l.initial.operators (l.at + j) nan) l.factor) l.offset) l.initial.operators l.operators l.i
