-- `transfer::transfer_axes` meets its contract: one, two or three passes, by the dimension. Assumes nothing.
use mathlib.Core.Path.{◌∙◌}
use native.Mathlib.Omega.{arith}
use Rattle.transfer.specs.Tensor.{along}
use Rattle.transfer.proofs.Axes.{axes_one, axes_two, axes_three, pass_ready}
use Rattle.transfer.proofs.transfer_axes.Goals as goal

pub overflow_sub-shape : goal.overflow_sub-shape
overflow_sub-shape c = c.args.shape.taken.dimension_least

pub overflow_sub-top : goal.overflow_sub-top
overflow_sub-top c = omega (arith, c.args.shape.taken.dimension_least)

pub power-width-requires : goal.power-width-requires
power-width-requires c = let t = c.args.shape.taken in (t.order_most, omega (arith, t.dimension_most))

pub transfer_axis-requires : goal.transfer_axis-requires
transfer_axis-requires c =
    let t = c.args.shape.taken in
    pass_ready c.args.shape.dimension c.args.shape.order _ _ _ _ _ t c.requires.0 c.power-width.ensures (omega (arith, t.dimension_most))
    c.requires.1 c.requires.2

pub returns-then-shape-lt2 : goal.returns-then-shape-lt2
returns-then-shape-lt2 c =
    let a = c.args in
    axes_one (λ w. along a.shape.order w a.child a.transpose a.operators.now) a.shape.dimension _ _ c.power-width.ensures a.first.now
    a.second.now _ (omega (arith, a.shape.taken.dimension_least)) c.transfer_axis.ensures

pub transfer_axis-requires-2 : goal.transfer_axis-requires-2
transfer_axis-requires-2 c =
    let t = c.args.shape.taken in
    pass_ready c.args.shape.dimension c.args.shape.order _ _ _ _ _ t c.requires.0 c.power-width.ensures (omega (arith, t.dimension_most))
    (c.transfer_axis.auto.out ∙ c.requires.2) c.requires.1

pub returns-then-shape-lt3 : goal.returns-then-shape-lt3
returns-then-shape-lt3 c =
    let a = c.args in
    axes_two (λ w. along a.shape.order w a.child a.transpose a.operators.now) a.shape.dimension _ _ c.power-width.ensures a.first.now
    a.second.now _ _ (omega arith) c.transfer_axis.ensures c.transfer_axis-2.ensures

pub transfer_axis-requires-3 : goal.transfer_axis-requires-3
transfer_axis-requires-3 c =
    let t = c.args.shape.taken in
    pass_ready c.args.shape.dimension c.args.shape.order _ _ _ _ _ t c.requires.0 c.power-width.ensures (omega arith)
    (c.transfer_axis-2.auto.out ∙ c.requires.1) (c.transfer_axis.auto.out ∙ c.requires.2)

pub returns : goal.returns
returns c =
    let a = c.args in
    axes_three (λ w. along a.shape.order w a.child a.transpose a.operators.now) a.shape.dimension _ _ c.power-width.ensures a.first.now
    a.second.now _ _ _ (omega (arith, a.shape.taken.dimension_most)) c.transfer_axis.ensures c.transfer_axis-2.ensures
    c.transfer_axis-3.ensures
