-- `turn::follow::indices_of` meets its contract: by the dimension. Assumes nothing.
use mathlib.Core.Path.{◌≡◌}
use native.Mathlib.Omega.{arith}
use Rattle.turn.proofs.Follows.{indices_one, indices_two, indices_three}
use Rattle.turn.proofs.follow.indices_of.Goals as goal

pub returns-then-shape-lt2 : goal.returns-then-shape-lt2
returns-then-shape-lt2 c =
    let one : c.args.shape.dimension ≡ 1 = omega (arith, c.args.shape.taken.dimension_least, c.if-shape-lt2.true) in
    indices_one c.args.shape.dimension c.args.shape.order c.args.node one

pub returns-then-shape-lt3 : goal.returns-then-shape-lt3
returns-then-shape-lt3 c =
    let two : c.args.shape.dimension ≡ 2 = omega (arith, c.if-shape-lt2.false, c.if-shape-lt3.true) in
    indices_two c.args.shape.dimension c.args.shape.order c.args.node two

pub returns : goal.returns
returns c =
    let three : c.args.shape.dimension ≡ 3 = omega (arith, c.args.shape.taken.dimension_most, c.if-shape-lt3.false) in
    indices_three c.args.shape.dimension c.args.shape.order c.args.node three
