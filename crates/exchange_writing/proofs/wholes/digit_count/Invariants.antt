-- `exchange_writing::wholes::digit_count` meets its contract. The loop keeps that the digits counted and those of the rest are the
-- number's. Assumes nothing.
use Rattle.std.proofs.Common.{◌≡◌, ◌+◌, ◌^◌, ◌<◌, length}
use Rattle.text.specs.Text.{decimal}
use Rattle.exchange_writing.proofs.wholes.digit_count.Given as goal

abbrev pub invariant-loop-rest : goal.invariant-loop-rest
invariant-loop-rest l = (l.rest < 2 ^ 64) × (l.count + length (decimal l.rest) ≡ length (decimal l.n))

abbrev pub decreases-loop-rest : goal.decreases-loop-rest
decreases-loop-rest l = l.rest
