-- `turn_tables::reverse` meets its contract: each return by its test. Assumes nothing.
use Rattle.std.proofs.Common.{arith}
use Rattle.turn_tables.specs.Turned.{reversed}
use Rattle.turn_tables.proofs.reverse.Goals as goal

pub overflow_sub-result-then-is_reversed : goal.overflow_sub-result-then-is_reversed
overflow_sub-result-then-is_reversed c = omega (arith, c.requires)

pub returns-then-is_reversed : goal.returns-then-is_reversed
unfolding reversed
returns-then-is_reversed c = rw c.if-is_reversed.true

pub returns-else-is_reversed : goal.returns-else-is_reversed
unfolding reversed
returns-else-is_reversed c = rw c.if-is_reversed.false
