-- `exchange_entries::entries::scan_digits` meets its contract. The loop keeps `Scanning`; each way out is one law on it. Assumes nothing.
use Prim.Native.Nat.{◌<◌}
use Rattle.exchange_entries.proofs.Scans.{Scanning}
use Rattle.exchange_entries.proofs.entries.scan_digits.Given as goal

abbrev pub invariant-loop-i : goal.invariant-loop-i
invariant-loop-i l = (l.from < l.i) × Scanning l.text l.from l.n l.i
