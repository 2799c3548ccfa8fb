-- `nodes::sets::mirror_nodes` meets its contract. The loop keeps `Filling`: i nodes are mirrored. Assumes nothing.
use Prim.Native.Nat.{◌/◌}
use lib.ListN.{length}
use Rattle.common.proofs.Fill.{Filling}
use Rattle.nodes.specs.Sets.{mirrored}
use Rattle.nodes.proofs.sets.mirror_nodes.Given as goal

abbrev pub invariant-loop-i : goal.invariant-loop-i
invariant-loop-i l =
    let order = length l.initial.nodes in Filling 0 (order / 2) (mirrored order) l.initial.nodes l.nodes l.i
