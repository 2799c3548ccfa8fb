-- `turn_tables::start_of` meets its contract. The loop keeps: the start is the number of the image's indices so far. Assumes nothing.
use Rattle.std.proofs.Common.{◌≡◌, ◌≤◌}
use Rattle.common.specs.Digits.{from_digits}
use Rattle.turn_tables.specs.Turned.{turned_index}
use Rattle.turn_tables.proofs.start_of.Given as goal

abbrev pub invariant-loop-axis : goal.invariant-loop-axis
invariant-loop-axis l =
    (l.axis ≤ l.shape.dimension) × (l.start ≡ from_digits l.shape.order l.axis (turned_index l.shape.dimension l.shape.order l.case 0))
