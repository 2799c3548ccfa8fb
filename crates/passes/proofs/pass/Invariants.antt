-- `passes::pass` meets its contract. The loop keeps: the rows before r are filled, and the rest is as it was. Assumes nothing.
use mathlib.Core.Path.{◌≡◌}
use Prim.Native.Nat.{ℕ, ◌-◌, ◌*◌, ◌≤◌}
use lib.Ieee.{Float}
use Rattle.common.specs.Floats.{inner}
use Rattle.common.specs.Lists.{stretch}
use Rattle.common.specs.Matrices.{cell, matrix}
use Rattle.passes.specs.Passes.{directed}
use Rattle.passes.proofs.pass.Given as goal

abbrev pub invariant-loop-r : goal.invariant-loop-r
invariant-loop-r l =
    let output : ℕ → ℕ → Float =
    λ c r'. inner l.order (λ s. matrix l.order l.values s c) (directed l.transpose (matrix l.order l.block) r') in
    (l.r ≤ l.order) × (l.at ≡ l.r * l.width) × (l.out ≡ stretch 0 l.at (cell l.width output) l.initial.out)

abbrev pub decreases-loop-r : goal.decreases-loop-r
decreases-loop-r l = l.order - l.r
