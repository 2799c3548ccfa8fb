-- `turn_tables::fill` meets its contract. The loop keeps `Walked`: the nodes before this row are stored, and the row's image is at hand.
-- The measure is the nodes that are left. Assumes nothing.
use Rattle.std.proofs.Common.{◌-◌, length, not, eqb}
use Rattle.turn_tables.proofs.Walks.{Walked}
use Rattle.turn_tables.proofs.fill.Given as goal

abbrev pub invariant-loop-node : goal.invariant-loop-node
invariant-loop-node g l =
    Walked (not (eqb g.row.INVERSE 0)) l.fn.shape.dimension l.fn.shape.order l.case l.initial.table l.table l.node l.row l.image l.plane

abbrev pub decreases-loop-node : goal.decreases-loop-node
decreases-loop-node g l = length l.initial.table - l.node
