-- `coefficients::columns::fill_gradients` meets its contract: filled, or left as they were. Assumes nothing.
use Rattle.axes.proofs.Stretches.{wanted_yes, wanted_no}
use Rattle.coefficients.proofs.columns.fill_gradients.Goals as goal

pub fill_axes_columns-requires : goal.fill_axes_columns-requires
fill_axes_columns-requires c =
    let w = c.if-with_gradients.true in
    (rw w at c.requires.0, c.requires.1, rw w at c.requires.2)

pub returns-then-with_gradients : goal.returns-then-with_gradients
returns-then-with_gradients c =
    let a = c.args in
    wanted_yes a.with_gradients _ _ _ c.if-with_gradients.true c.fill_axes_columns.ensures

pub returns-else-with_gradients : goal.returns-else-with_gradients
returns-else-with_gradients c = wanted_no c.args.with_gradients _ _ c.if-with_gradients.false
