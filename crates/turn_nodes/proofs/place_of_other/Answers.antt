-- `turn_nodes::place_of_other` meets its contract: by its test. Assumes nothing.
use borrow.Author.Tests.{eq-eqb, ne_eqb}
use Rattle.turn_nodes.proofs.place_of_other.Goals as goal

pub returns-then-other-k : goal.returns-then-other-k
returns-then-other-k c = let a = c.args in rw (eq-eqb a.other a.k c.if-other-k.true)

pub returns-else-other-k : goal.returns-else-other-k
returns-else-other-k c = let a = c.args in rw (ne_eqb a.other a.k c.if-other-k.false)
