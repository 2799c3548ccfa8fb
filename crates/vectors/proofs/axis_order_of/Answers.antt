-- `vectors::axis_order_of` meets its contract: each return by the compares that led there. Assumes nothing.
use mathlib.Core.Path.{◌∙◌}
use native.Mathlib.Omega.{arith}
use borrow.Author.Tests.{lt-ltb, le-ltb}
use Rattle.vectors.proofs.Sizes.{axis_order_by, axis_order_by_lem}
use Rattle.vectors.proofs.axis_order_of.Goals as goal

pub returns-then-dimension-lt2 : goal.returns-then-dimension-lt2
unfolding axis_order_by
returns-then-dimension-lt2 c = rw (lt-ltb c.args.dimension 2 c.if-dimension-lt2.true) at
    (axis_order_by_lem c.args.dimension c.args.s c.requires)

pub returns-then-dimension-lt3 : goal.returns-then-dimension-lt3
unfolding axis_order_by
returns-then-dimension-lt3 c =
    let d = c.args.dimension in
    c.swapped.ensures ∙ rw (le-ltb d 2 c.if-dimension-lt2.false, lt-ltb d 3 c.if-dimension-lt3.true) at
    (axis_order_by_lem d c.args.s c.requires)

pub returns-then-s-2 : goal.returns-then-s-2
unfolding axis_order_by
returns-then-s-2 c =
    let d = c.args.dimension in
    let x = c.args.s in
    rw (
      le-ltb d 2 (omega arith),
      le-ltb d 3 (omega arith),
      lt-ltb x.0 x.1 c.if-s.true,
      lt-ltb x.1 x.2
          c.if-s-2.true,
    ) at
    (axis_order_by_lem d x c.requires)

pub returns-then-s : goal.returns-then-s
unfolding axis_order_by
returns-then-s c =
    let d = c.args.dimension in
    let x = c.args.s in
    rw c.swapped-then-s.ensures
    (rw (
      le-ltb d 2 (omega arith),
      le-ltb d 3 (omega arith),
      lt-ltb x.0 x.1 c.if-s.true,
      le-ltb x.1
          x.2 c.if-s-2.false,
    ) at (axis_order_by_lem d x c.requires))

pub returns-then-s-3 : goal.returns-then-s-3
unfolding axis_order_by
returns-then-s-3 c =
    let d = c.args.dimension in
    let x = c.args.s in
    rw (
      le-ltb d 2 (omega arith),
      le-ltb d 3 (omega arith),
      le-ltb x.0 x.1 c.if-s.false,
      lt-ltb x.0 x.2
          c.if-s-3.true,
    ) at
    (axis_order_by_lem d x c.requires)

pub returns : goal.returns
unfolding axis_order_by
returns c =
    let d = c.args.dimension in
    let x = c.args.s in
    c.swapped-2.ensures ∙ rw (
      le-ltb d 2 (omega arith),
      le-ltb d 3 (omega arith),
      le-ltb x.0 x.1 c.if-s.false,
      le-ltb x.0 x.2
          c.if-s-3.false,
    ) at
    (axis_order_by_lem d x c.requires)
