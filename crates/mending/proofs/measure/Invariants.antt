-- `mending::measure` meets its contract. The loop's invariant: what is left of the room is what is left after the lines of the records
-- before this one. Assumes nothing.
use Prim.Native.Nat.{◌*◌}
use lib.ListN.{drop}
use Rattle.records.proofs.Answers.{Measured}
use Rattle.mending.specs.Mending.{text}
use Rattle.mending.proofs.measure.Given as goal

abbrev pub invariant-loop-i : goal.invariant-loop-i
invariant-loop-i l = Measured (text l.input) l.room l.left (text (drop (l.i * 8) l.input))
