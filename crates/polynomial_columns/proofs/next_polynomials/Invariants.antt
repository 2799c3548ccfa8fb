-- `polynomial_columns::next_polynomials` meets its contract. The loop keeps `Filling`: i rows hold the next value, and the columns
-- before are as they were. Assumes nothing.
use lib.ListN.{length}
use Rattle.common.proofs.Fill.{Filling}
use Rattle.polynomial_columns.specs.Working.{later_T}
use Rattle.polynomial_columns.proofs.next_polynomials.Given as goal

abbrev pub invariant-loop-i : goal.invariant-loop-i
invariant-loop-i l =
    let rows = length l.points in
    Filling l.at rows (later_T rows l.points l.initial.tn l.at) l.initial.tn l.tn l.i
