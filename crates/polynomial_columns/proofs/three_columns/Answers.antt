-- `polynomial_columns::three_columns` meets its contract: by the column's number. Assumes nothing.
use mathlib.Core.Path.{◌≡◌, refl, ◌∙◌}
use Prim.Native.Nat.{◌*◌}
use lib.ListN.{length}
use native.Mathlib.Omega.{arith}
use Rattle.polynomial_columns.proofs.Numbers.{column_end, two_before, is_later, is_early, in_place}
use Rattle.polynomial_columns.proofs.three_columns.Goals as goal

pub overflow_mul-at : goal.overflow_mul-at
overflow_mul-at c = omega (arith, column_end c.args.j _ _ c.requires.0, c.well_formed)

pub fill_with-requires : goal.fill_with-requires
fill_with-requires c = column_end c.args.j _ _ c.requires.2

pub next_three-requires : goal.next_three-requires
next_three-requires c =
    let a = c.args in
    let later = c.if-j-lt2.false in (
      two_before a.j _ _ refl (λ z. omega (arith, later)) (λ z. omega (arith, later)),
      column_end a.j _ _ c.requires.0,
      column_end a.j _ _ c.requires.1,
      column_end a.j _ _ c.requires.2,
    )

pub returns-then-j-lt2 : goal.returns-then-j-lt2
returns-then-j-lt2 c =
    let a = c.args in
    let rows = length a.points.now in
    let at = a.j * rows in (
      c.both_columns.ensures.0,
      c.both_columns.ensures.1,
      c.fill_with.ensures ∙ in_place at rows a.ddtn.now _ _ (is_early _ _ a.j c.if-j-lt2.true),
    )

pub returns-else-j-lt2 : goal.returns-else-j-lt2
returns-else-j-lt2 c =
    let a = c.args in
    let rows = length a.points.now in
    let at = a.j * rows in
    let later = c.if-j-lt2.false in
    let not_first : a.j ≡ 0 → ⊥ = λ z. omega (arith, later) in
    let not_second : a.j ≡ 1 → ⊥ = λ z. omega (arith, later) in
    let e = c.next_three.ensures in (
      e.0 ∙ in_place at rows a.tn.now _ _ (is_later _ _ _ a.j not_first not_second),
      e.1 ∙ in_place at rows a.dtn.now _ _ (is_later _ _ _ a.j not_first not_second),
      e.2 ∙ in_place at rows a.ddtn.now _ _ (is_later _ _ _ a.j not_first not_second),
    )
