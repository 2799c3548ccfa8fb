-- `aca_pivots::flags::best_in` meets its contract. The loop keeps: what is held is the best on from `from` to k. Assumes nothing.
use mathlib.Core.Path.{◌≡◌}
use Prim.Native.Nat.{◌-◌, ◌%◌, ◌≤◌}
use Rattle.aca_pivots.specs.Working.{Extended}
use Rattle.aca_pivots.proofs.flags.best_in.Given as goal

abbrev pub invariant-loop-k : goal.invariant-loop-k
invariant-loop-k l =
    (l.from ≤ l.k) × (l.k ≤ l.fours) × ((l.fours - l.k) % 4 ≡ 0) × Extended l.entries l.word l.from l.k l.initial.largest l.largest

abbrev pub decreases-loop-k : goal.decreases-loop-k
decreases-loop-k l = l.fours - l.k
