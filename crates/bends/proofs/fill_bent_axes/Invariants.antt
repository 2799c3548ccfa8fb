-- `bends::fill_bent_axes` meets its contract. The loop keeps: the stretches of the axes before `axis` are filled, and the room is that of
-- the axis before. Assumes nothing.
use mathlib.Core.Path.{◌≡◌}
use Prim.Native.Nat.{◌+◌, ◌*◌}
use lib.ListN.{length}
use Rattle.axes.specs.Axes.{S, S'}
use Rattle.bends.specs.Bends.{S''}
use Rattle.bends.specs.Working.{room_after}
use Rattle.bends.proofs.Loops.{AxesDone}
use Rattle.bends.proofs.fill_bent_axes.Given as goal

abbrev pub invariant-loop-axis : goal.invariant-loop-axis
invariant-loop-axis l =
    let D = l.grid.shape.dimension in
    let p = l.grid.shape.order in
    let P = l.grid.rows in
    let at = 0 + l.axis * (p * P) in
    record {
      room : l.room ≡ room_after l.axis p P l.points l.initial.room;
      long : length l.room ≡ length l.initial.room;
      factors : AxesDone (S p l.node_polynomials) D p P l.points l.initial.factors l.factors l.axis at;
      slopes : AxesDone (S' p l.grid.side l.node_polynomials) D p P l.points l.initial.slopes l.slopes l.axis at;
      bends : AxesDone (S'' p l.grid.side l.node_polynomials) D p P l.points l.initial.bends l.bends l.axis at;
    }
