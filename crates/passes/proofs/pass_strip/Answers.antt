-- `passes::pass_strip` meets its contract. The loop keeps: the first c columns have their sums. Assumes nothing.
use mathlib.Core.Path.{◌≡◌, refl, ap, ◌∙◌}
use mathlib.Core.List.{List}
use Prim.Native.Nat.{◌+◌, ◌*◌}
use native.Mathlib.Nat.{not-suc-le-zero}
use native.Mathlib.Omega.{arith}
use lib.Ieee.{Float, nan}
use lib.ListN.{length, get_or}
use Rattle.common.proofs.Matrices.{column_fits, by_entries}
use Rattle.common.proofs.Rows.{row_fits, rows_more}
use Rattle.passes.specs.Working.{summed}
use Rattle.passes.proofs.Strips.{column_sum}
use Rattle.passes.proofs.pass_strip.Goals as goal

pub loop-c-init : goal.loop-c-init
loop-c-init c = λ i j b. absurd (not-suc-le-zero b)

pub sum_strip-requires : goal.sum_strip-requires
sum_strip-requires c =
    let l = c.loop-c in (
      c.requires.0,
      rw c.requires.2 (column_fits l.c c.args.width c.args.order _ c.loop-c-test.true refl),
      refl,
    )

pub copy_spaced-requires : goal.copy_spaced-requires
copy_spaced-requires c =
    let l = c.loop-c in
    let long : length l.out ≡ c.args.rows * c.args.width = l.auto.out ∙ c.requires.3 in
    let four : length c.sum_strip.new.sums
    ≡ 4 = ap length c.sum_strip.ensures in (
      λ k h. omega (arith, c.requires.1),
      row_fits c.args.width c.args.rows l.c (length l.out)
          c.loop-c-test.true (omega arith),
    )

pub loop-c-preserved : goal.loop-c-preserved
loop-c-preserved c =
    let l = c.loop-c in
    let a = c.args in
    let made = c.sum_strip.ensures in
    let long : length l.out ≡ a.rows * a.width = l.auto.out ∙ c.requires.3 in
    λ i j b b'. ap (λ (o : List Float). get_or o (j * a.width + i) nan) c.copy_spaced.ensures
    ∙ rows_more a.width a.rows (λ i. summed a.order a.values.now (i * a.order) a.strip.now) l.out nan l.c _
    c.loop-c-test.true (omega arith) l.invariant
    (λ k h. column_sum a.order a.values.now a.strip.now _ _ l.c k (omega (arith, c.requires.1)) refl made)
    i j b b'

pub returns : goal.returns
returns c =
    let l = c.loop-c in
    let a = c.args in
    by_entries a.width (λ i. summed a.order a.values.now (i * a.order) a.strip.now) a.rows l.out nan
    (l.auto.out ∙ c.requires.3)
    (λ i j b b'. l.invariant i j (omega arith) b')
