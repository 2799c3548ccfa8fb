-- `exchange_lines::find_size` meets its contract. The loop keeps what the lines from `at` on say. Assumes nothing.
use mathlib.Core.Path.{◌≡◌}
use Prim.Native.Nat.{◌+◌, ◌-◌, ◌≤◌}
use lib.ListN.{length, drop}
use Rattle.exchange_format.specs.Lines.{lines}
use Rattle.exchange_format.specs.Reading.{size_line}
use Rattle.exchange_lines.proofs.find_size.Given as goal

abbrev pub invariant-loop-at : goal.invariant-loop-at
invariant-loop-at l = (l.at ≤ length l.text) × (l.k ≤ l.at + 2) ×
    (size_line l.k (lines (drop l.at l.text)) ≡ size_line 2 (lines (drop l.from l.text)))

abbrev pub decreases-loop-at : goal.decreases-loop-at
decreases-loop-at l = length l.text - l.at
