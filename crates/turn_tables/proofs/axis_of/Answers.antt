-- `turn_tables::axis_of` meets its contract: each return by the tests that led there. Assumes nothing.
use Rattle.std.proofs.Common.{◌%◌, ◌<◌, ◌∙◌, mod-lt, arith}
use Rattle.turn_tables.proofs.Decode.{few_orders, axis_same, axis_other, axis_first, axis_second, axis_third}
use Rattle.turn_tables.proofs.axis_of.Goals as goal

pub returns-then-m-eq0 : goal.returns-then-m-eq0
returns-then-m-eq0 c =
    axis_same c.args.dimension c.args.k c.args.m c.requires.0 c.requires.1 c.requires.2 c.if-dimension-lt3.true c.if-m-eq0.true

pub overflow_sub-result : goal.overflow_sub-result
overflow_sub-result c =
    few_orders c.args.dimension c.args.k c.args.m c.requires.0 c.requires.1 c.requires.2 c.if-dimension-lt3.true

pub returns-then-dimension-lt3 : goal.returns-then-dimension-lt3
returns-then-dimension-lt3 c =
    axis_other c.args.dimension c.args.k c.args.m c.requires.0 c.requires.1 c.requires.2 c.if-dimension-lt3.true c.if-m-eq0.false

pub returns-then-m-eq0-2 : goal.returns-then-m-eq0-2
returns-then-m-eq0-2 c =
    axis_first c.args.dimension c.args.k c.args.m c.requires.0 c.requires.1 c.requires.2 c.if-dimension-lt3.false c.if-m-eq0-2.true

pub other_axis-requires : goal.other_axis-requires
other_axis-requires c = mod-lt c.args.k (omega arith)

pub returns-then-m-eq1 : goal.returns-then-m-eq1
returns-then-m-eq1 c =
    c.other_axis.ensures ∙ axis_second c.args.dimension c.args.k c.args.m c.requires.0 c.requires.1 c.requires.2
    c.if-dimension-lt3.false c.if-m-eq0-2.false c.if-m-eq1.true

pub overflow_sub-k : goal.overflow_sub-k
overflow_sub-k c =
    let k = c.args.k in let less : k % 2 < 2 = mod-lt k (omega arith) in omega (arith, less)

pub other_axis-requires-2 : goal.other_axis-requires-2
other_axis-requires-2 c = omega arith

pub returns : goal.returns
returns c =
    c.other_axis-2.ensures ∙ axis_third c.args.dimension c.args.k c.args.m c.requires.0 c.requires.1 c.requires.2
    c.if-dimension-lt3.false c.if-m-eq0-2.false c.if-m-eq1.false
