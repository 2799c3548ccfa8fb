-- `point_columns::columns::fill_runs` meets its contract. The loop keeps `Stepping`: the runs of the first i values are filled. Assumes
-- nothing.
use Rattle.common.proofs.Steps.{Stepping}
use Rattle.point_columns.specs.Working.{cycled}
use Rattle.point_columns.proofs.columns.fill_runs.Given as goal

abbrev pub invariant-loop-i : goal.invariant-loop-i
invariant-loop-i l = Stepping l.at l.order l.run (cycled l.run l.values) l.initial.points l.points l.i l.to
