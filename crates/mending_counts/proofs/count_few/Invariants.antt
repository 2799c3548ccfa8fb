-- `mending_counts::count_few` meets its contract. The loop's invariant: the bytes before this one are counted. Assumes nothing.
use mathlib.Core.Path.{◌≡◌}
use Prim.Native.Nat.{◌≤◌}
use lib.ListN.{take}
use Rattle.mending_counts.specs.Occurrences.{occurs}
use Rattle.mending_counts.proofs.count_few.Given as goal

abbrev pub invariant-loop-x : goal.invariant-loop-x
invariant-loop-x l = (l.count ≤ l.x-index) × (l.count ≡ occurs l.letter (take l.x-index l.part))
