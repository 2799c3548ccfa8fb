-- `records::signed` meets its contract: the machine's signed numbers are read back from their bits.
-- Assumes nothing.
use native.Mathlib.Omega.{arith}
use Rattle.records.proofs.SignedBytes.{signed_low, signed_fits, signed_high}
use Rattle.records.proofs.signed.Goals as goal

pub overflow_sub-result : goal.overflow_sub-result
overflow_sub-result c = signed_fits c.args.b (omega arith)

pub returns-then-b-lt128 : goal.returns-then-b-lt128
returns-then-b-lt128 c = signed_low c.args.b c.if-b-lt128.true

pub returns-else-b-lt128 : goal.returns-else-b-lt128
returns-else-b-lt128 c = signed_high c.args.b c.if-b-lt128.false (omega arith)
