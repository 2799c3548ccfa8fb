-- `exchange_writing::measure` meets its contract. The loop keeps what the entries from place i on add to the sum, or their first fault.
-- Assumes nothing.
use Rattle.std.proofs.Common.{◌≡◌, ◌+◌, ◌*◌, ◌≤◌, drop}
use Rattle.exchange_format.specs.Writing.{wholes}
use Rattle.exchange_writing.specs.Working.{measured}
use Rattle.exchange_writing.proofs.Spellings.{added}
use Rattle.exchange_writing.proofs.measure.Given as goal

abbrev pub invariant-loop-i : goal.invariant-loop-i
invariant-loop-i l = (l.sum ≤ 22 * l.i) × (added l.sum (measured (wholes (3 + l.i) (drop l.i l.block))) ≡ measured (wholes 3 l.block))
