-- `axes::fill_factors` meets its contract: the closure makes S of a sum. Assumes nothing.
use borrow.Author.Rules.{rules}
use Rattle.axes.specs.Axes.{factor_of}
use Rattle.axes.proofs.fill_factors.Goals as goal

pub returns : goal.returns
unfolding factor_of
returns c =
    c.fill_columns.ensures (factor_of c.args.grid.shape.order) (λ x y e. rw (← c.float_of-nodes.ensures) (search rules))
