-- `exchange_entries::fill_block` meets its contract. The loop keeps `Filling`, and which lines are left. Assumes nothing.
use mathlib.Core.Path.{◌≡◌}
use Prim.Native.Nat.{◌≤◌}
use lib.ListN.{length, drop}
use Rattle.common.proofs.Fill.{Filling}
use Rattle.exchange_format.specs.Lines.{lines}
use Rattle.exchange_entries.specs.Working.{value_at}
use Rattle.exchange_entries.proofs.fill_block.Given as goal

abbrev pub invariant-loop-place : goal.invariant-loop-place
invariant-loop-place l =
    Filling 0 (length l.initial.block) (value_at (lines (drop l.from l.text))) l.initial.block l.block l.place-index ×
    (l.at ≤ length l.text) × (lines (drop l.at l.text) ≡ drop l.place-index (lines (drop l.from l.text)))
