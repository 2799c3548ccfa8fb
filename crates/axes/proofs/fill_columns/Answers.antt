-- `axes::fill_columns` meets its contract: what is made of the sums, where they stood. Assumes nothing.
use Rattle.axes.proofs.Stretches.{made_of_stored}
use Rattle.axes.proofs.fill_columns.Goals as goal

pub returns : goal.returns
returns g c = λ f h.
    let a = c.args in
    made_of_stored f a.at _ _ a.out.now _ _ c.requires.fits.room c.sum_columns.ensures
    (rw c.on_axis.ensures at (c.finish.ensures f h))
