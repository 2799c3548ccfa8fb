-- `exchange_writing::wholes::line_length` meets its contract. Assumes nothing.
use Rattle.std.proofs.Common.{arith}
use Rattle.text.proofs.Numbers.{decimal_length}
use Rattle.exchange_writing.proofs.Lengths.{length_minus, length_plain}
use Rattle.exchange_writing.proofs.wholes.line_length.Goals as goal

pub overflow_add-result : goal.overflow_add-result
overflow_add-result c = omega (arith, c.digit_count-digits.ensures, decimal_length c.args.whole.size)

pub returns-then-whole : goal.returns-then-whole
returns-then-whole c =
    let w = c.args.whole in
    length_minus w.is_negative w.size c.digit_count-digits.result c.if-whole.true c.digit_count-digits.ensures

pub overflow_add-result-else-whole : goal.overflow_add-result-else-whole
overflow_add-result-else-whole c = omega (arith, c.digit_count-digits.ensures, decimal_length c.args.whole.size)

pub returns-else-whole : goal.returns-else-whole
returns-else-whole c =
    let w = c.args.whole in
    length_plain w.is_negative w.size c.digit_count-digits.result c.if-whole.false c.digit_count-digits.ensures
