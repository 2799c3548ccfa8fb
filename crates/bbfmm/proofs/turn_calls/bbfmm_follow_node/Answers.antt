-- `bbfmm::turn_calls::bbfmm_follow_node` meets its contract: the vector's entries are read back from their bits. Assumes nothing.
use mathlib.Core.Path.{◌∙◌}
use mir.Facts.{to_z-of_z}
use Rattle.bbfmm.proofs.turn_calls.bbfmm_follow_node.Goals as goal

pub returns : goal.returns
returns c =
    rw c.told_number.ensures (c.follow_node_told.ensures ∙ rw (to_z-of_z c.ranges.x, to_z-of_z c.ranges.y, to_z-of_z c.ranges.z))
