-- `bends::evaluate_axis` meets its contract: a call that was lent three stretches has filled them. Assumes nothing.
use mathlib.Core.Path.{◌≡◌, ap}
use Prim.Native.Nat.{ℕ, ◌+◌, ◌-◌, ◌*◌}
use lib.ListN.{length, take, drop}
use Rattle.common.specs.Matrices.{column_major}
use Rattle.common.proofs.Fill.{stretch_part, part_length}
use Rattle.chebyshev.proofs.Seconds.{second_filled}
use Rattle.bends.proofs.Rooms.{second_taken}
use Rattle.bends.proofs.evaluate_axis.Goals.{After-evaluate_second_derivatives}
use Rattle.bends.proofs.evaluate_axis.Goals as goal

-- how long the three stretches are
lengths : (c : After-evaluate_second_derivatives) →
    let a = c.args in
    let m = a.grid.shape.order * a.grid.rows in
    let n = a.at + c.on_axis.result - a.at in
    (length (take n (drop a.at a.factors.now)) ≡ m) × (length (take n (drop a.at a.slopes.now)) ≡ m) ×
    (length (take n (drop a.at a.bends.now)) ≡ m)
lengths c =
    let a = c.args in
    let m = a.grid.shape.order * a.grid.rows in
    let end : a.at + c.on_axis.result ≡ a.at + m = ap (λ (k : ℕ). a.at + k) c.on_axis.ensures in (
      part_length a.at _ m a.factors.now end c.requires.factors,
      part_length a.at _ m a.slopes.now end c.requires.slopes,
      part_length a.at _ m a.bends.now end c.requires.bends,
    )

pub unwrap-requires : goal.unwrap-requires
unwrap-requires c =
    let a = c.args in
    let is = a.grid.shape.taken in
    let long = lengths (goal.at.unwrap-requires c).After-evaluate_second_derivatives in
    second_taken a.grid.shape.order a.grid.rows a.points.now _ _ _ _ _ _ _ is.order_least is.order_most a.grid.few c.requires.points
    long.0 long.1 long.2 c.evaluate_second_derivatives.ensures

pub returns : goal.returns
unfolding column_major
returns c =
    let a = c.args in
    let is = a.grid.shape.taken in
    let p = a.grid.shape.order in
    let P = a.grid.rows in
    let m = p * P in
    let long = lengths (goal.at.returns c).After-evaluate_second_derivatives in
    let t = second_filled p P a.points.now _ _ _ _ _ _ _ is.order_least is.order_most a.grid.few c.requires.points
    long.0 long.1 long.2 c.evaluate_second_derivatives.ensures in
    rw c.on_axis.ensures (
      stretch_part a.at _ a.factors.now m _ c.requires.factors t.0,
      stretch_part a.at _ a.slopes.now m _ c.requires.slopes t.1,
      stretch_part a.at _ a.bends.now m _ c.requires.bends t.2,
    )
