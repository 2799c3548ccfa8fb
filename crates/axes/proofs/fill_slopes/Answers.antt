-- `axes::fill_slopes` meets its contract: the closure makes S' of a sum. Assumes nothing.
use borrow.Author.Rules.{rules}
use Rattle.axes.specs.Axes.{slope_of}
use Rattle.axes.proofs.fill_slopes.Goals as goal

pub returns : goal.returns
unfolding slope_of
returns c =
    let grid = c.args.grid in
    c.fill_columns.ensures (slope_of grid.shape.order grid.side) (λ x y e. rw (← c.float_of.ensures) (search rules))
