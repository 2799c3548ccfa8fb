-- `passes::lay_row` meets its contract: the row as it stands, or the column that it is transposed. Assumes nothing.
use mathlib.Core.Path.{refl, ◌∙◌}
use native.Mathlib.Nat.{mul-le-mul, one-mul}
use native.Mathlib.Omega.{arith}
use lib.Arith.{digits_lt}
use Rattle.common.proofs.Rows.{row_fits}
use Rattle.common.proofs.Stores.{stores_cong}
use Rattle.passes.proofs.Strips.{row_transposed, row_standing}
use Rattle.passes.proofs.lay_row.Goals as goal

pub overflow_mul-r : goal.overflow_mul-r
overflow_mul-r c =
    let a = c.args in
    omega (arith, mul-le-mul {n₁ = a.r} {m₁ = a.order} {n₂ = 16} {m₂ = 16} (omega (arith, c.requires)) c.requires.0)

pub copy_spaced-requires : goal.copy_spaced-requires
copy_spaced-requires c =
    let a = c.args in
    (λ k h. rw (one-mul k, c.requires.3) (digits_lt c.requires.1 h), row_fits 4 a.order a.lane _ c.requires.2 (omega (arith, c.requires)))

pub copy_spaced-requires-else-transpose : goal.copy_spaced-requires-else-transpose
copy_spaced-requires-else-transpose c =
    let a = c.args in (
      row_fits a.order a.order a.r _ c.requires.1 (omega (arith, c.requires.3)),
      row_fits 4 a.order a.lane _ c.requires.2
          (omega (arith, c.requires)),
    )

pub returns-then-transpose : goal.returns-then-transpose
returns-then-transpose c =
    let a = c.args in
    c.copy_spaced.ensures ∙ stores_cong _ _ _ _ a.order _ (λ k _. refl)
    (λ k _. row_transposed a.order a.r a.block.now a.transpose c.if-transpose.true k)

pub returns-else-transpose : goal.returns-else-transpose
returns-else-transpose c =
    let a = c.args in
    c.copy_spaced-else-transpose.ensures ∙ stores_cong _ _ _ _ a.order _ (λ k _. refl)
    (λ k _. row_standing a.order a.r a.block.now a.transpose c.if-transpose.false k)
