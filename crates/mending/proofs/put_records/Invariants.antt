-- `mending::put_records` meets its contract. The loop's invariant: both the output and the text have what belongs to the records before
-- this one. Assumes nothing.
use mathlib.Core.Path.{◌≡◌}
use Prim.Native.Nat.{◌*◌}
use lib.ListN.{drop}
use Rattle.records.proofs.Answers.{Reached}
use Rattle.mending.specs.Mending.{mended_file, text}
use Rattle.mending.proofs.put_records.Given as goal

abbrev pub invariant-loop-i : goal.invariant-loop-i
invariant-loop-i l = record {
  same : l.line.bytes.ghost_name ≡ l.initial.line.bytes.ghost_name;
  mended : Reached (mended_file l.input) 0 l.initial.output l.output (l.i * 8) (mended_file (drop (l.i * 8) l.input));
  said : Reached (text l.input) l.initial.line.to l.initial.line.bytes.now l.line.bytes.now l.line.to (text (drop (l.i * 8) l.input));
}
