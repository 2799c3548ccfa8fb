-- `exchange_writing::wholes::digit_count` meets its contract. The loop keeps that the digits counted and those of the rest are the
-- number's. Assumes nothing.
use Rattle.std.proofs.Common.{arith}
use Rattle.text.proofs.Numbers.{decimal_length}
use Rattle.exchange_writing.proofs.Lengths.{decimal_part}
use Rattle.exchange_writing.proofs.wholes.digit_count.Goals as goal

pub loop-rest-init : goal.loop-rest-init
loop-rest-init c = (omega (arith, c.ranges.n.fits), omega arith)

pub overflow_add-count : goal.overflow_add-count
overflow_add-count c = let l = c.loop-rest in omega (arith, l.invariant.1, decimal_length c.args.n)

pub loop-rest-preserved : goal.loop-rest-preserved
loop-rest-preserved c =
    let l = c.loop-rest in
    (omega arith, omega (arith, l.invariant.1, decimal_part l.rest c.loop-rest-test.true l.invariant.0))

pub overflow_add-result : goal.overflow_add-result
overflow_add-result c =
    let l = c.loop-rest in
    omega (arith, l.invariant.1, c.few_digits.ensures, decimal_length c.args.n)

pub returns : goal.returns
returns c = let l = c.loop-rest in omega (arith, l.invariant.1, c.few_digits.ensures)
