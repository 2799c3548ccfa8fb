-- `roots::whole::lowered` meets its contract. The loop keeps that m is below the square of one more than the number, which falls.
-- Assumes nothing.
use Prim.Native.Nat.{◌+◌, ◌*◌, ◌<◌, ◌^◌}
use Rattle.roots.proofs.whole.lowered.Given as goal

abbrev pub invariant-loop-root : goal.invariant-loop-root
invariant-loop-root l = (l.m < (l.root + 1) * (l.root + 1)) × (l.root < 2 ^ 29)

abbrev pub decreases-loop-root : goal.decreases-loop-root
decreases-loop-root l = l.root
