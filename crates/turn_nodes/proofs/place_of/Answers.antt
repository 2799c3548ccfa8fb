-- `turn_nodes::place_of` meets its contract: each return by the tests that led there. Assumes nothing.
use mathlib.Core.Path.{◌∙◌}
use native.Mathlib.Omega.{arith}
use Rattle.turn_nodes.proofs.Indices.{place_same, place_other, place_first, place_low, place_high}
use Rattle.turn_nodes.proofs.place_of.Goals as goal

pub returns-then-axis-k : goal.returns-then-axis-k
returns-then-axis-k c =
    place_same c.args.dimension c.args.k c.args.axis c.requires.0 c.requires.1 c.requires.2 c.if-dimension-lt3.true c.if-axis-k.true

pub returns-then-dimension-lt3 : goal.returns-then-dimension-lt3
returns-then-dimension-lt3 c =
    place_other c.args.dimension c.args.k c.args.axis c.requires.0 c.requires.1 c.requires.2 c.if-dimension-lt3.true c.if-axis-k.false

pub returns-then-axis-first : goal.returns-then-axis-first
returns-then-axis-first c =
    place_first c.args.dimension c.args.k c.args.axis c.requires.0 c.requires.1 c.requires.2 c.if-dimension-lt3.false c.if-axis-first.true

pub returns-then-axis-first-2 : goal.returns-then-axis-first-2
returns-then-axis-first-2 c =
    c.place_of_other.ensures ∙ place_low c.args.dimension c.args.k c.args.axis c.requires.0 c.requires.1 c.requires.2
    c.if-dimension-lt3.false c.if-axis-first.false c.if-axis-first-2.true

pub overflow_sub-axis : goal.overflow_sub-axis
overflow_sub-axis c = omega (arith, c.if-axis-first.false, c.if-axis-first-2.false)

pub returns : goal.returns
returns c =
    c.place_of_other-2.ensures ∙ place_high c.args.dimension c.args.k c.args.axis c.requires.0 c.requires.1 c.requires.2
    c.if-dimension-lt3.false c.if-axis-first.false c.if-axis-first-2.false
