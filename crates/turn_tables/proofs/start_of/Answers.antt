-- `turn_tables::start_of` meets its contract. The loop keeps: the start is the number of the image's indices so far. Assumes nothing.
use Rattle.std.proofs.Common.{◌≡◌, ◌+◌, ◌*◌, ◌≤◌, refl, arith}
use Rattle.common.specs.Digits.{from_digits}
use Rattle.turn_tables.specs.Turned.{turned_index, turned}
use Rattle.turn_tables.proofs.Walks.{start_next, start_most}
use Rattle.turn_tables.proofs.start_of.Goals.{After-reverse-index}
use Rattle.turn_tables.proofs.start_of.Goals as goal

-- one turn: the next start, and its bound
module _ (c : After-reverse-index) where
  next : c.loop-axis.start * c.args.shape.order + c.reverse-index.result
      ≡ from_digits c.args.shape.order (c.loop-axis.axis + 1)
      (turned_index c.args.shape.dimension c.args.shape.order c.args.case 0)
  next =
      let a = c.args in
      start_next a.shape.dimension a.shape.order a.case a.shape.taken c.loop-axis.axis c.loop-axis.start
      c.reverse-index.result
      c.is_negative.result c.loop-axis.invariant.1 c.is_negative.ensures c.reverse-index.ensures

  most : c.loop-axis.start * c.args.shape.order + c.reverse-index.result ≤ 4096
  most =
      let a = c.args in
      rw next (start_most a.shape.dimension a.shape.order a.case a.shape.taken (c.loop-axis.axis + 1) (omega arith))

pub loop-axis-init : goal.loop-axis-init
unfolding from_digits
loop-axis-init c = (omega arith, refl)

pub overflow_mul-start : goal.overflow_mul-start
overflow_mul-start c = omega (arith, most (goal.at.overflow_mul-start c).After-reverse-index)

pub overflow_add-start : goal.overflow_add-start
overflow_add-start c = omega (arith, most (goal.at.overflow_add-start c).After-reverse-index)

pub loop-axis-preserved : goal.loop-axis-preserved
loop-axis-preserved c = (omega arith, next (goal.at.loop-axis-preserved c).After-reverse-index)

pub returns : goal.returns
unfolding turned
returns c =
    let done : c.loop-axis.axis ≡ c.args.shape.dimension = omega arith in
    rw done at c.loop-axis.invariant.1
