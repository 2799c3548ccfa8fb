-- `turn_tables::other_axis` meets its contract: by its test. Assumes nothing.
use Rattle.std.proofs.Common.{le-ltb, lt-ltb}
use Rattle.vectors.specs.Order.{skip}
use Rattle.turn_tables.proofs.other_axis.Goals as goal

pub returns-then-a-first : goal.returns-then-a-first
unfolding skip
returns-then-a-first c = let a = c.args in rw (lt-ltb a.a a.first c.if-a-first.true)

pub returns-else-a-first : goal.returns-else-a-first
unfolding skip
returns-else-a-first c = let a = c.args in rw (le-ltb a.a a.first c.if-a-first.false)
