-- `operators::fill_operators` meets its contract. The loop keeps: the columns before c are filled, and the rest is as it was.
-- Assumes nothing.
use mathlib.Core.Path.{◌≡◌, refl, ap, ◌∙◌}
use Prim.Native.Nat.{◌+◌, ◌*◌, ◌≤◌}
use native.Mathlib.Omega.{arith}
use lib.ListN.{length}
use Rattle.common.specs.Floats.{over, one₆₄, two₆₄}
use Rattle.common.proofs.Matrices.{column_fits}
use Rattle.operators.proofs.Columns.{column_done, columns_all}
use Rattle.operators.proofs.fill_operators.Goals.{In-loop-c}
use Rattle.operators.proofs.fill_operators.Goals as goal

-- the column has its place
fits : (i : In-loop-c) → let order = length i.args.nodes.now in i.loop-c.c * order + order ≤ length i.loop-c.operators
fits i =
    let order = length i.args.nodes.now in
    rw (i.loop-c.auto.operators, i.requires.2) (column_fits i.loop-c.c (order + order) order _ i.loop-c-test.true refl)

pub float_of-factor-requires : goal.float_of-factor-requires
float_of-factor-requires c = omega (arith, c.requires.0)

pub float_of-offset-requires : goal.float_of-offset-requires
float_of-offset-requires c = omega (arith, c.requires.0)

pub overflow_mul-at : goal.overflow_mul-at
overflow_mul-at c = omega (arith, fits (goal.at.overflow_mul-at c).In-loop-c, c.well_formed)

pub sum_column-requires : goal.sum_column-requires
sum_column-requires c = (c.requires.1, fits (goal.at.sum_column-requires c).In-loop-c)

pub scale_column-requires : goal.scale_column-requires
scale_column-requires c = omega (arith, fits (goal.at.scale_column-requires c).In-loop-c, c.sum_column.auto)

pub loop-c-preserved : goal.loop-c-preserved
loop-c-preserved c =
    let l = c.loop-c in
    let a = c.args in
    c.scale_column.ensures
    ∙ column_done (length a.nodes.now) a.nodes.now a.polynomials.now a.operators.now l.operators _ l.c _ _ _ c.loop-c-test.true
    c.requires.2 c.child_node-x.ensures (ap (over two₆₄) c.float_of-factor.ensures) (ap (over one₆₄) c.float_of-offset.ensures)
    l.invariant c.sum_column.ensures l.auto.operators

pub returns : goal.returns
returns c =
    let l = c.loop-c in
    let a = c.args in
    let order = length a.nodes.now in
    let all : l.c ≡ order + order = omega arith in
    l.invariant ∙ columns_all order a.nodes.now a.polynomials.now a.operators.now l.c c.requires.2 all
