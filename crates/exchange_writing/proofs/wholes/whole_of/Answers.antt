-- `exchange_writing::wholes::whole_of` meets its contract: the number without its minus. Assumes nothing.
use Rattle.std.proofs.Common.{◌∙◌}
use lib.Ieee.{of_bits}
use Rattle.exchange_writing.proofs.Floats.{number_minus, number_plain, number_minus_not, number_plain_not}
use Rattle.exchange_writing.proofs.wholes.whole_of.Goals as goal

pub returns-in_err-size : goal.returns-in_err-size
unfolding of_bits
returns-in_err-size c = c.from_residual.ensures ∙ number_minus_not c.args.x c.if-x.true c.in_err-size.ensures

pub returns-then-x : goal.returns-then-x
unfolding of_bits
returns-then-x c = number_minus c.args.x c.if-x.true c.in_ok-size.size c.in_ok-size.ensures

pub returns-in_err-size-2 : goal.returns-in_err-size-2
unfolding of_bits
returns-in_err-size-2 c =
    c.from_residual-in_err-size-2.ensures ∙ number_plain_not c.args.x c.if-x.false c.in_err-size-2.ensures

pub returns : goal.returns
unfolding of_bits
returns c = number_plain c.args.x c.if-x.false c.in_ok-size-2.size c.in_ok-size-2.ensures
