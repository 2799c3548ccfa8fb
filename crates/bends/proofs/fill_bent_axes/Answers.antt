-- `bends::fill_bent_axes` meets its contract. The loop keeps: the stretches of the axes before `axis` are filled, and the room is that of
-- the axis before. Assumes nothing.
use borrow.Author.Rules.{rules}
use mathlib.Core.Path.{refl}
use native.Mathlib.Omega.{arith}
use Rattle.axes.specs.Axes.{S, S'}
use Rattle.bends.specs.Bends.{S''}
use Rattle.bends.specs.Working.{room_after}
use Rattle.bends.proofs.Loops.{axis_first, axis_more, axes_done, room_more, room_done}
use Rattle.bends.proofs.fill_bent_axes.Goals as goal

pub loop-axis-init : goal.loop-axis-init
unfolding room_after
loop-axis-init c =
    let a = c.args in
    let g = a.grid in
    let D = g.shape.dimension in
    let p = g.shape.order in
    let P = g.rows in
    let x = a.points.now in
    let n = a.node_polynomials.now in
    record {
      room = refl;
      long = refl;
      factors = axis_first (S p n) D p P x a.factors.now;
      slopes = axis_first (S' p g.side n) D p P x a.slopes.now;
      bends = axis_first (S'' p g.side n) D p P x a.bends.now;
    }

pub loop-axis-preserved : goal.loop-axis-preserved
loop-axis-preserved c =
    let a = c.args in
    let l = c.loop-axis in
    let g = a.grid in
    let D = g.shape.dimension in
    let p = g.shape.order in
    let P = g.rows in
    let x = a.points.now in
    let n = a.node_polynomials.now in
    let m = c.loop-axis-test.true in
    let is = l.invariant in
    let call = rw c.on_axis-count.ensures at c.fill_bent_axis.ensures in
    record {
      room = room_more p P x a.room.now _ l.axis _ refl call.0;
      long = search rules;
      factors = axis_more (S p n) D p P x a.factors.now c.requires.factors l.factors _ l.axis is.factors m call.1;
      slopes = axis_more (S' p g.side n) D p P x a.slopes.now c.requires.slopes l.slopes _ l.axis is.slopes m call.2;
      bends = axis_more (S'' p g.side n) D p P x a.bends.now c.requires.bends l.bends _ l.axis is.bends m call.3;
    }

pub returns : goal.returns
returns c =
    let l = c.loop-axis in
    let a = c.args in
    let g = a.grid in
    let D = g.shape.dimension in
    let p = g.shape.order in
    let P = g.rows in
    let x = a.points.now in
    let n = a.node_polynomials.now in
    let is = l.invariant in
    let done = c.loop-axis-test.false in (
      room_done D p P x a.room.now _ l.axis g.shape.taken.dimension_least (omega arith) is.room,
      axes_done (S p n) D p P x a.factors.now c.requires.factors _ l.axis _ is.factors done,
      axes_done (S' p g.side n) D p P x a.slopes.now c.requires.slopes _ l.axis _ is.slopes done,
      axes_done (S'' p g.side n) D p P x a.bends.now c.requires.bends _ l.axis _ is.bends done,
    )
