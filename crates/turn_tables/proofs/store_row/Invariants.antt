-- `turn_tables::store_row` meets its contract. The loop keeps `Storing`: i stores are made, and `to` is the next image. Assumes nothing.
use Rattle.std.proofs.Common.{◌+◌}
use Rattle.turn_tables.specs.Working.{stepped}
use Rattle.turn_tables.proofs.Walks.{Storing, place_of, value_of}
use Rattle.turn_tables.proofs.store_row.Given as goal

abbrev pub invariant-loop-i : goal.invariant-loop-i
invariant-loop-i g l =
    Storing (place_of g.row.INVERSE (λ j. l.node + j) (stepped l.image l.step)) (value_of g.row.INVERSE (λ j. l.node + j) (stepped l.image l.step))
    l.image l.step l.order l.initial.table l.table l.to l.i
