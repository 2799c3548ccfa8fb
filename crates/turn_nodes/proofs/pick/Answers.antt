-- `turn_nodes::pick` meets its contract: by the axis. Assumes nothing.
use mathlib.Core.Path.{◌≡◌}
use native.Mathlib.Omega.{arith}
use Rattle.turn_nodes.proofs.pick.Goals as goal

pub returns-then-axis-eq0 : goal.returns-then-axis-eq0
returns-then-axis-eq0 c = rw c.if-axis-eq0.true

pub returns-then-axis-eq1 : goal.returns-then-axis-eq1
returns-then-axis-eq1 c = rw c.if-axis-eq1.true

pub returns : goal.returns
returns c =
    let third : c.args.axis ≡ 2 = omega (arith, c.requires, c.if-axis-eq0.false, c.if-axis-eq1.false) in
    rw third
