-- `common::fill_with` meets its contract. The loop keeps `Filling`: i rows hold the value. Assumes nothing.
use Prim.Native.Nat.{◌-◌}
use Rattle.common.proofs.Fill.{Filling}
use Rattle.common.proofs.fill_with.Given as goal

abbrev pub invariant-loop-i : goal.invariant-loop-i
invariant-loop-i l = Filling l.at l.rows (λ j. l.value) l.initial.column l.column l.i

abbrev pub decreases-loop-i : goal.decreases-loop-i
decreases-loop-i l = l.rows - l.i
