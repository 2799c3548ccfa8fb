-- `exchange_entries::entries::float_of` meets its contract: a number up to 2^53 with its sign fits 64 bits, and is a float. Assumes
-- nothing.
use Rattle.exchange_entries.proofs.Signs.{plain_bits, negated_fits, negated_bits, plain_float, negated_float}
use Rattle.exchange_entries.proofs.entries.float_of.Goals as goal

pub overflow_sub-result : goal.overflow_sub-result
overflow_sub-result c = negated_fits c.args.n c.requires

pub int_to_float-result : goal.int_to_float-result
int_to_float-result c = rw (negated_bits c.args.n c.requires) (negated_float c.args.n c.requires)

pub returns-then-is_negative : goal.returns-then-is_negative
returns-then-is_negative c = rw (c.if-is_negative.true, negated_bits c.args.n c.requires)

pub int_to_float-result-2 : goal.int_to_float-result-2
int_to_float-result-2 c = rw (plain_bits c.args.n c.requires) (plain_float c.args.n c.requires)

pub returns : goal.returns
returns c = rw (c.if-is_negative.false, plain_bits c.args.n c.requires)
