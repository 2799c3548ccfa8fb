-- `polynomial_columns::polynomial_column` meets its contract: by the column's number. Assumes nothing.
use mathlib.Core.Path.{refl, ◌∙◌}
use lib.ListN.{length}
use Prim.Native.Nat.{◌*◌}
use native.Mathlib.Omega.{arith}
use Rattle.polynomial_columns.proofs.Numbers.{column_end, two_before, is_first, is_second, is_later, in_place}
use Rattle.polynomial_columns.proofs.polynomial_column.Goals as goal

pub overflow_mul-at : goal.overflow_mul-at
overflow_mul-at c = omega (arith, column_end c.args.j _ _ c.requires, c.well_formed)

pub fill_with-requires : goal.fill_with-requires
fill_with-requires c = column_end c.args.j _ _ c.requires

pub copy_column-requires : goal.copy_column-requires
copy_column-requires c = (omega arith, column_end c.args.j _ _ c.requires)

pub next_polynomials-requires : goal.next_polynomials-requires
next_polynomials-requires c =
    let a = c.args in
    (two_before a.j _ _ refl c.if-j-eq0.false c.if-j-eq1.false, column_end a.j _ _ c.requires)

pub returns-then-j-eq0 : goal.returns-then-j-eq0
returns-then-j-eq0 c =
    let a = c.args in
    let rows = length a.points.now in
    let at = a.j * rows in
    c.fill_with.ensures ∙ in_place at rows a.tn.now _ _ (is_first _ _ _ a.j c.if-j-eq0.true)

pub returns-then-j-eq1 : goal.returns-then-j-eq1
returns-then-j-eq1 c =
    let a = c.args in
    let rows = length a.points.now in
    let at = a.j * rows in
    c.copy_column.ensures ∙ in_place at rows a.tn.now _ _ (is_second _ _ _ a.j c.if-j-eq1.true)

pub returns-else-j-eq1 : goal.returns-else-j-eq1
returns-else-j-eq1 c =
    let a = c.args in
    let rows = length a.points.now in
    let at = a.j * rows in
    c.next_polynomials.ensures ∙ in_place at rows a.tn.now _ _ (is_later _ _ _ a.j c.if-j-eq0.false c.if-j-eq1.false)
