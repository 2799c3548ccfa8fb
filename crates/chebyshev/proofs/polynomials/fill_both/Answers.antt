-- `chebyshev::polynomials::fill_both` meets its contract. The loop keeps: the columns before j are filled in both buffers, and the rest
-- is as it was. Assumes nothing.
use mathlib.Core.Path.{◌≡◌, ◌∙◌}
use native.Mathlib.Omega.{arith}
use Rattle.polynomial_columns.specs.Recurrence.{T, T'}
use Rattle.chebyshev.proofs.Columns.{column_room, values_filled, slopes_filled, columns_all}
use Rattle.chebyshev.proofs.polynomials.fill_both.Goals as goal

pub both_columns-requires : goal.both_columns-requires
both_columns-requires c =
    let l = c.loop-j in
    let below = c.loop-j-test.true in (
      column_room l.j c.args.order _ _ below (l.auto.tn ∙ c.requires.0),
      column_room l.j c.args.order _ _ below (l.auto.dtn ∙ c.requires.1),
    )

pub loop-j-preserved : goal.loop-j-preserved
loop-j-preserved c =
    let a = c.args in
    let l = c.loop-j in
    let x = a.points.now in
    let r = c.requires in
    let e = c.both_columns.ensures in
    let below = c.loop-j-test.true in (
      e.0 ∙ values_filled _ x a.order l.j below a.tn.now l.tn r.0 l.invariant.0,
      e.1 ∙ slopes_filled _ x a.order l.j below a.tn.now l.tn r.0 l.invariant.0 a.dtn.now l.dtn r.1 l.invariant.1,
    )

pub returns : goal.returns
returns c =
    let a = c.args in
    let l = c.loop-j in
    let x = a.points.now in
    let all : l.j ≡ a.order = omega arith in (
      l.invariant.0 ∙ columns_all _ x T a.order l.j a.tn.now c.requires.0 all,
      l.invariant.1 ∙ columns_all _ x T' a.order l.j a.dtn.now c.requires.1 all,
    )
