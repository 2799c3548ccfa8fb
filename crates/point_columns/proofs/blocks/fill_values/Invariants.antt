-- `point_columns::blocks::fill_values` meets its contract. The loop keeps `Filling`: i values are stored. Assumes nothing.
use lib.Ieee.{nan}
use lib.ListN.{length, get_or}
use Rattle.common.proofs.Fill.{Filling}
use Rattle.point_columns.specs.Working.{on_axis}
use Rattle.point_columns.proofs.blocks.fill_values.Given as goal

abbrev pub invariant-loop-i : goal.invariant-loop-i
invariant-loop-i l = Filling 0 (length l.nodes)
    (λ j. on_axis l.is_source l.side l.away (get_or l.nodes j nan)) l.initial.values l.values l.i
