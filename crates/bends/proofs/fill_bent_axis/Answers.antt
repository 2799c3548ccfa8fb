-- `bends::fill_bent_axis` meets its contract: found, kept, summed. Assumes nothing.
use Rattle.bends.proofs.Rooms.{room_right, factors_right, slopes_right, bends_right}
use Rattle.bends.proofs.fill_bent_axis.Goals as goal

pub returns : goal.returns
returns c =
    let a = c.args in
    let p = a.grid.shape.order in
    let P = a.grid.rows in
    let x = a.points.now in
    let t = a.node_polynomials.now in
    let side = a.grid.side in
    let f = a.factors.now in
    let d = a.slopes.now in
    let b = a.bends.now in
    let fits = c.requires.fits in
    let e = c.evaluate_axis.ensures in
    let r = rw c.on_axis.ensures at c.keep_three.ensures in
    let n = c.sum_axis.ensures in (
      room_right a.at p P side t x f d b _ _ _ _ fits.factors fits.slopes fits.bends e.0 e.1 e.2 r,
      factors_right a.at p P side t x f d b _ _ _ _ fits.factors fits.slopes fits.bends e.0 e.1 e.2 r _ n.0,
      slopes_right a.at p P side t x f d b _ _ _ _ fits.factors fits.slopes fits.bends e.0 e.1 e.2 r _ n.1,
      bends_right a.at p P side t x f d b _ _ _ _ fits.factors fits.slopes fits.bends e.0 e.1 e.2 r _ n.2,
    )
