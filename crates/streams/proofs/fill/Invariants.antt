-- `streams::fill` is safe and ends. The loop's invariant: what was read so far lies within the block. The measure is what is left of the
-- block. Assumes nothing.
use Rattle.std.proofs.Common.{length, ◌-◌, ◌≤◌, ◌≡◌}
use Rattle.streams.proofs.fill.Given as goal

abbrev pub invariant-loop-count : goal.invariant-loop-count
invariant-loop-count g l = (l.count ≤ length l.block) × (length l.block ≡ length l.initial.block)

abbrev pub decreases-loop-count : goal.decreases-loop-count
decreases-loop-count g l = length l.initial.block - l.count
