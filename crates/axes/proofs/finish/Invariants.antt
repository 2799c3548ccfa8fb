-- `axes::finish` meets its contract. The loop keeps `Filling`, of whatever the closure computes: k sums are finished. Assumes nothing.
use mathlib.Core.Path.{◌≡◌}
use Prim.Native.Nat.{◌+◌}
use lib.Ieee.{Float, nan}
use lib.ListN.{get_or}
use Rattle.common.proofs.Fill.{Filling}
use Rattle.axes.proofs.finish.Given as goal

abbrev pub invariant-loop-k : goal.invariant-loop-k
invariant-loop-k g l =
    (f : Float → Float) → ((x y : Float) → goal.F-post g l.made_of x y → y ≡ f x) →
    Filling l.at l.count (λ j. f (get_or l.initial.sums (l.at + j) nan)) l.initial.sums l.sums l.k
