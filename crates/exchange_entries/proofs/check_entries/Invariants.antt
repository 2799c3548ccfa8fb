-- `exchange_entries::check_entries` meets its contract. The loop keeps what the lines from `at` on say. Assumes nothing.
use mathlib.Core.Path.{◌≡◌}
use Prim.Native.Nat.{◌+◌, ◌-◌, ◌≤◌}
use lib.ListN.{length, drop}
use Rattle.exchange_format.specs.Lines.{lines}
use Rattle.exchange_format.specs.Reading.{entries}
use Rattle.exchange_entries.specs.Working.{checked}
use Rattle.exchange_entries.proofs.check_entries.Given as goal

abbrev pub invariant-loop-i : goal.invariant-loop-i
invariant-loop-i l = (l.at ≤ length l.text) × (l.from.line + l.i ≤ l.at + 2) ×
    (checked (entries (l.from.line + l.i) (l.count - l.i) (lines (drop l.at l.text))) ≡
    checked (entries l.from.line l.count (lines (drop l.from.at l.text))))
