-- `turn_nodes::is_reversed` meets its contract: by the axis. Assumes nothing.
use Rattle.turn_nodes.proofs.Indices.{negative_third}
use Rattle.turn_nodes.proofs.is_reversed.Goals as goal

pub returns-then-axis-eq0 : goal.returns-then-axis-eq0
returns-then-axis-eq0 c = rw c.if-axis-eq0.true

pub returns-then-axis-eq1 : goal.returns-then-axis-eq1
returns-then-axis-eq1 c = rw c.if-axis-eq1.true

pub returns : goal.returns
returns c =
    let a = c.args in
    negative_third a.turn a.axis c.if-axis-eq0.false c.if-axis-eq1.false
