-- `turn_nodes::origin_index` meets its contract: 0 past the dimension, or the index that comes to the axis. Assumes nothing.
use native.Mathlib.Omega.{arith}
use borrow.Author.Tests.{lt-ltb, le-ltb}
use Rattle.vectors.proofs.Orders.{axis_below}
use Rattle.turn_nodes.specs.Working.{origin_index}
use Rattle.turn_nodes.proofs.origin_index.Goals as goal

pub returns-then-dimension-m : goal.returns-then-dimension-m
unfolding origin_index
returns-then-dimension-m c = let a = c.args in rw (le-ltb a.m a.dimension c.if-dimension-m.true)

pub axis_of-requires : goal.axis_of-requires
axis_of-requires c = let h = c.requires in (h.0, h.1, c.if-dimension-m.false)

pub pick-requires : goal.pick-requires
pick-requires c =
    let below = axis_below c.args.dimension c.args.k c.args.m c.requires.1 c.if-dimension-m.false in
    omega (arith, c.axis_of.ensures, below, c.requires.0)

pub returns : goal.returns
unfolding origin_index
returns c =
    rw (c.pick.ensures, c.axis_of.ensures, lt-ltb c.args.m c.args.dimension c.if-dimension-m.false)
