-- `turn_nodes::image_index` meets its contract: 0 past the dimension, or the index that comes to the axis. Assumes nothing.
use native.Mathlib.Omega.{arith}
use borrow.Author.Tests.{lt-ltb, le-ltb}
use Rattle.vectors.proofs.Orders.{place_below}
use Rattle.turn_nodes.specs.Working.{image_index}
use Rattle.turn_nodes.proofs.image_index.Goals as goal

pub returns-then-dimension-axis : goal.returns-then-dimension-axis
unfolding image_index
returns-then-dimension-axis c = let a = c.args in rw (le-ltb a.axis a.shape.dimension c.if-dimension-axis.true)

pub place_of-requires : goal.place_of-requires
place_of-requires c = let h = c.requires in (h.shape.dimension_most, h.order, c.if-dimension-axis.false)

pub pick-index-requires : goal.pick-index-requires
pick-index-requires c =
    let below = place_below c.args.shape.dimension c.args.turn.order c.args.axis c.requires.order c.if-dimension-axis.false in
    omega (arith, c.place_of.ensures, below, c.requires.shape.dimension_most)

pub reverse-requires : goal.reverse-requires
reverse-requires c =
    rw c.pick-index.ensures (c.requires.below c.place_of.result)

pub returns : goal.returns
unfolding image_index
returns c =
    rw (
      c.reverse.ensures,
      c.is_reversed.ensures,
      c.pick-index.ensures,
      c.place_of.ensures,
      lt-ltb c.args.axis c.args.shape.dimension c.if-dimension-axis.false,
    )
