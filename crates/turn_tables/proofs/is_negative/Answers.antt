-- `turn_tables::is_negative` meets its contract: the sign case's digit. Assumes nothing.
use native.Mathlib.Nat.{one-le-pow}
use Rattle.std.proofs.Common.{arith}
use Rattle.common.specs.Digits.{digit}
use Rattle.turn_tables.specs.Turned.{negative}
use Rattle.common.proofs.Factorials.{factorial_pos}
use Rattle.turn_tables.proofs.is_negative.Goals as goal

pub nonzero_div-result : goal.nonzero_div-result
nonzero_div-result c = rw c.factorial_of.ensures (factorial_pos c.args.dimension)

pub nonzero_div-result-2 : goal.nonzero_div-result-2
nonzero_div-result-2 c = rw c.power-weight.ensures (one-le-pow _ 2 (omega arith))

pub returns : goal.returns
unfolding negative digit
returns c = rw (c.factorial_of.ensures, c.power-weight.ensures)
