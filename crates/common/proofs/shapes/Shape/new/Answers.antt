-- `common::shapes::Shape::new` meets its contract: each return by the tests that led there. Assumes nothing.
use mathlib.Core.Path.{sym, ◌∙◌}
use borrow.Author.Tests.{lt-leb, le-leb}
use Rattle.common.specs.Refusals.{shape_number}
use Rattle.common.proofs.Cases.{inside}
use Rattle.common.proofs.Numbers.{handed_on}
use Rattle.common.proofs.Limits.{order_taken}
use Rattle.common.proofs.shapes.Shape.new.Goals.{then-dimension-lt1-via-then-dimension-lt1}
use Rattle.common.proofs.shapes.Shape.new.Goals.{then-dimension-lt1-via-else-dimension-lt1+then-dimension-gt3}
use Rattle.common.proofs.shapes.Shape.new.Goals as goal

pub returns-then-dimension-lt1-clause-number : goal.returns-then-dimension-lt1-clause-number
unfolding shape_number
returns-then-dimension-lt1-clause-number c =
    let d = c.args.dimension in
    elim c.then-dimension-lt1.branch [
      | then-dimension-lt1-via-then-dimension-lt1 w ↦ rw (lt-leb 1 d w.if-dimension-lt1.true)
      | then-dimension-lt1-via-else-dimension-lt1+then-dimension-gt3 w ↦
          rw (le-leb 1 d w.if-dimension-lt1.false, lt-leb d 3 w.if-dimension-gt3.true)
    ]

pub returns-in_err-check_order-clause-number : goal.returns-in_err-check_order-clause-number
unfolding shape_number
returns-in_err-check_order-clause-number c =
    rw (inside 1 3 c.args.dimension c.if-dimension-lt1.false c.if-dimension-gt3.false)
    (handed_on _ _ c.from_residual.ensures.1 ∙ c.in_err-check_order.ensures)

pub invariant_of-result : goal.invariant_of-result
invariant_of-result c =
    let o = order_taken c.args.order (sym c.in_ok-check_order.ensures) in
    record {
      taken =
          record {
            dimension_least = c.if-dimension-lt1.false;
            dimension_most = c.if-dimension-gt3.false;
            order_least = o.0;
            order_most = o.1;
          };
    }

pub returns-clause-number : goal.returns-clause-number
unfolding shape_number
returns-clause-number c =
    rw (inside 1 3 c.args.dimension c.if-dimension-lt1.false c.if-dimension-gt3.false)
    c.in_ok-check_order.ensures
