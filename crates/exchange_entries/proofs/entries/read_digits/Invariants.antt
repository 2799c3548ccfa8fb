-- `exchange_entries::entries::read_digits` meets its contract. The loop keeps `Scanning`; since the line holds a number, each byte before
-- its end is a digit, and the number stays small. Assumes nothing.
use Prim.Native.Nat.{◌<◌}
use Rattle.exchange_entries.proofs.Scans.{Scanning}
use Rattle.exchange_entries.proofs.entries.read_digits.Given as goal

abbrev pub invariant-loop-i : goal.invariant-loop-i
invariant-loop-i l = (l.from < l.i) × Scanning l.text l.from l.n l.i
