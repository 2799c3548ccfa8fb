-- `bends::fill_bends` meets its contract: the closure makes S'' of a sum. Assumes nothing.
use borrow.Author.Rules.{rules}
use Rattle.bends.specs.Bends.{bend_of}
use Rattle.bends.proofs.fill_bends.Goals as goal

pub returns : goal.returns
unfolding bend_of
returns c =
    let grid = c.args.grid in
    c.fill_columns.ensures (bend_of grid.shape.order grid.side) (λ x y e. rw (← c.float_of.ensures) (search rules))
