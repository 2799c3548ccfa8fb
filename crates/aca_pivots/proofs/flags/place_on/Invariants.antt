-- `aca_pivots::flags::place_on` meets its contract. The loop keeps: what is held is the best of the entries below `from`, which is the
-- first place of a word. Assumes nothing.
use mathlib.Core.Path.{◌≡◌}
use Prim.Native.Nat.{◌-◌, ◌%◌, ◌<◌, ◌≤◌}
use Rattle.aca_pivots.specs.Flags.{is_on}
use Rattle.aca_pivots.specs.Largest.{best}
use Rattle.aca_pivots.proofs.flags.place_on.Given as goal

abbrev pub invariant-loop-from : goal.invariant-loop-from
invariant-loop-from l =
    (l.from ≤ l.n) × (l.from < l.n → l.from % 64 ≡ 0) × (l.largest ≡ best l.from l.entries (is_on l.flags.words))

abbrev pub decreases-loop-from : goal.decreases-loop-from
decreases-loop-from l = l.n - l.from
