-- `products::columns::multiply_three` meets its contract. The loop keeps `Filling`: i rows have their products. Assumes nothing.
use lib.Ieee.{nan}
use lib.ListN.{get_or}
use Rattle.common.specs.Floats.{times}
use Rattle.common.proofs.Fill.{Filling}
use Rattle.products.proofs.columns.multiply_three.Given as goal

abbrev pub invariant-loop-i : goal.invariant-loop-i
invariant-loop-i l = Filling 0 l.rows (λ j. times (times (get_or l.first j nan) (get_or l.second j nan))
    (get_or l.third j nan)) l.initial.column l.column l.i
