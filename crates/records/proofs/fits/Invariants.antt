-- `records::fits` meets its contract. The loop's invariant: what is left of the room is what is left after the lines of the records
-- before this one. Assumes nothing.
use Prim.Native.Nat.{◌*◌}
use lib.ListN.{drop}
use Rattle.records.specs.Text.{text}
use Rattle.records.proofs.Answers.{Measured}
use Rattle.records.proofs.fits.Given as goal

abbrev pub invariant-loop-record : goal.invariant-loop-record
invariant-loop-record l = Measured (text l.input) l.room l.left (text (drop (4 * l.record-index) l.input))
