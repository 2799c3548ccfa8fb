-- `records::put_records` meets its contract. The loop's invariant: the text of the records before this one is put. Assumes nothing.
use mathlib.Core.Path.{◌≡◌}
use Prim.Native.Nat.{◌*◌}
use lib.ListN.{drop}
use Rattle.records.specs.Text.{text}
use Rattle.records.proofs.Answers.{Reached}
use Rattle.records.proofs.put_records.Given as goal

abbrev pub invariant-loop-record : goal.invariant-loop-record
invariant-loop-record l = record {
  same : l.line.bytes.ghost_name ≡ l.initial.line.bytes.ghost_name;
  reached : Reached (text l.input) l.initial.line.to l.initial.line.bytes.now l.line.bytes.now l.line.to
      (text (drop (4 * l.record-index) l.input));
}
