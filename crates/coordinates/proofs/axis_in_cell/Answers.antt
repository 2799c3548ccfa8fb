-- `coordinates::axis_in_cell` meets its contract. The loop keeps: whether the first i points are in the cell. Assumes nothing.
use mathlib.Core.Path.{◌≡◌, refl, sym, ap, ◌∙◌}
use mathlib.Core.Bool.{Bool}
use Prim.Native.Nat.{ℕ, ◌+◌}
use native.Mathlib.Omega.{arith}
use lib.Ieee.{nan}
use lib.ListN.{get_or}
use Rattle.common.specs.Tests.{each}
use Rattle.common.proofs.Tests.{each_next}
use Rattle.coordinates.specs.Coordinates.{coordinate_in, in_cell}
use Rattle.coordinates.proofs.axis_in_cell.Goals as goal

pub loop-i-init : goal.loop-i-init
unfolding each
loop-i-init c = refl

pub loop-i-preserved : goal.loop-i-preserved
loop-i-preserved c =
    let l = c.loop-i in
    let a = c.args in
    let is-in : ℕ → Bool = λ j. in_cell (coordinate_in a.side a.centre (get_or a.points.now (a.at + j) nan)) in
    let this : c.is_in_cell-are_in.result ≡ is-in l.i = c.is_in_cell-are_in.ensures ∙ ap in_cell c.scale-x.ensures in
    rw (l.invariant, this) (sym (each_next l.i is-in))

pub returns : goal.returns
returns c =
    let l = c.loop-i in
    let all : l.i ≡ c.args.rows = omega arith in
    rw all at l.invariant
