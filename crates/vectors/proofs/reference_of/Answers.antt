-- `vectors::reference_of` meets its contract: each return by the tests that led there. Assumes nothing.
use Rattle.vectors.proofs.Sizes.{reference_near, reference_one, reference_two, reference_three}
use Rattle.vectors.proofs.reference_of.Goals.{After-smallest_of-small}
use Rattle.vectors.proofs.reference_of.Goals as goal

pub returns-then-large-lt2 : goal.returns-then-large-lt2
returns-then-large-lt2 c =
    reference_near c.args.dimension c.args.s c.requires.0 c.requires.1 c.largest_of-large.result c.largest_of-large.ensures
    c.if-large-lt2.true

pub returns-then-dimension-lt2 : goal.returns-then-dimension-lt2
returns-then-dimension-lt2 c =
    reference_one c.args.dimension c.args.s c.requires.0 c.requires.1 c.largest_of-large.result c.largest_of-large.ensures
    c.if-large-lt2.false c.if-dimension-lt2.true

pub returns-then-dimension-lt3 : goal.returns-then-dimension-lt3
returns-then-dimension-lt3 c =
    reference_two c.args.dimension c.args.s c.requires.0 c.requires.1 c.largest_of-large.result c.largest_of-large.ensures
    c.smallest_of-small.result c.smallest_of-small.ensures c.if-large-lt2.false c.if-dimension-lt2.false c.if-dimension-lt3.true

pub returns : goal.returns
returns c =
    reference_three c.args.dimension c.args.s c.requires.0 c.requires.1 c.largest_of-large.result c.largest_of-large.ensures
    c.smallest_of-small.result c.smallest_of-small.ensures c.if-large-lt2.false c.if-dimension-lt3.false
