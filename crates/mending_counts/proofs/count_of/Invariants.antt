-- `mending_counts::count_of` meets its contract. The loop's invariant: the parts before this one are counted. Assumes nothing.
use mathlib.Core.Path.{◌≡◌}
use Prim.Native.Nat.{◌*◌, ◌≤◌}
use lib.ListN.{take}
use Rattle.mending_counts.specs.Occurrences.{occurs}
use Rattle.mending_counts.proofs.count_of.Given as goal

abbrev pub invariant-loop-part : goal.invariant-loop-part
invariant-loop-part l = (l.count ≤ 240 * l.part-index) × (l.count ≡ occurs l.letter (take (240 * l.part-index) l.text))
