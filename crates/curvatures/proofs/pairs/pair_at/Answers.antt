-- `curvatures::pairs::pair_at` meets its contract: each return by the tests that led there. Assumes nothing.
use Rattle.curvatures.proofs.AxisPairs.{begins_with_0, begins_with_1, begins_with_2, count_most}
use native.Mathlib.Omega.{arith}
use Rattle.curvatures.proofs.pairs.pair_at.Goals as goal

pub returns-then-q-dimension : goal.returns-then-q-dimension
returns-then-q-dimension c = begins_with_0 c.args.dimension c.args.q c.requires.1 c.if-q-dimension.true

pub overflow_add-q : goal.overflow_add-q
overflow_add-q c = omega (arith, c.requires.2, count_most c.args.dimension c.requires.1)

pub overflow_add-result : goal.overflow_add-result
overflow_add-result c = omega (arith, c.requires.2, count_most c.args.dimension c.requires.1)

pub returns-then-q-dimension-2 : goal.returns-then-q-dimension-2
returns-then-q-dimension-2 c =
    begins_with_1 c.args.dimension c.args.q c.requires.1 c.if-q-dimension.false c.if-q-dimension-2.true

pub returns : goal.returns
returns c =
    begins_with_2 c.args.dimension c.args.q c.requires.0 c.requires.1 c.if-q-dimension-2.false c.requires.2
