-- `polynomial_columns::next_columns` meets its contract. The loop keeps `Filling` of both buffers: i rows hold the next values, and
-- the columns before are as they were. Assumes nothing.
use lib.ListN.{length}
use Rattle.common.proofs.Fill.{Filling}
use Rattle.polynomial_columns.specs.Working.{later_T, later_T'}
use Rattle.polynomial_columns.proofs.next_columns.Given as goal

abbrev pub invariant-loop-i : goal.invariant-loop-i
invariant-loop-i l =
    let rows = length l.points in
    Filling l.at rows (later_T rows l.points l.initial.tn l.at) l.initial.tn l.tn l.i
    × Filling l.at rows (later_T' rows l.points l.initial.tn l.initial.dtn l.at) l.initial.dtn l.dtn l.i
