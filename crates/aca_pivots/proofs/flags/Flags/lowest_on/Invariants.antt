-- `aca_pivots::flags::Flags::lowest_on` meets its contract. The loop keeps that every flag below k is off. Assumes nothing.
use mathlib.Core.Path.{◌≡◌}
use mathlib.Core.Bool.{false}
use Prim.Native.Nat.{ℕ, ◌-◌, ◌<◌}
use Rattle.aca_pivots.specs.Flags.{is_on}
use Rattle.aca_pivots.proofs.flags.Flags.lowest_on.Given as goal

abbrev pub invariant-loop-k : goal.invariant-loop-k
invariant-loop-k l = (i : ℕ) → i < l.k → is_on l.self.words i ≡ false

abbrev pub decreases-loop-k : goal.decreases-loop-k
decreases-loop-k l = l.most - l.k
