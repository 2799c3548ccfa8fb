-- `products::columns::multiply_two` meets its contract. The loop keeps `Filling`: i rows have their products. Assumes nothing.
use mathlib.Core.Path.{refl, sym, ◌∙◌}
use native.Mathlib.Nat.{zero-add}
use native.Mathlib.Omega.{arith}
use lib.Ieee.{nan}
use lib.ListN.{get_or}
use Rattle.common.specs.Floats.{times}
use Rattle.common.proofs.Fill.{filling_none, filling_more, filling_done, fill_all}
use Rattle.products.proofs.columns.multiply_two.Goals as goal

pub loop-i-init : goal.loop-i-init
loop-i-init c = let a = c.args in filling_none 0 a.rows (λ j. times (get_or a.first.now j nan) (get_or a.second.now j nan)) _

pub loop-i-preserved : goal.loop-i-preserved
loop-i-preserved c =
    let a = c.args in
    filling_more 0 a.rows (λ j. times (get_or a.first.now j nan) (get_or a.second.now j nan)) _ _ _ _ nan _
    c.loop-i.invariant c.loop-i-test.true (omega (arith, c.requires.2)) (sym (zero-add _)) refl

pub shape_of-column : goal.shape_of-column
shape_of-column c = c.loop-i.invariant.long

pub returns : goal.returns
returns c =
    let a = c.args in
    filling_done 0 a.rows (λ j. times (get_or a.first.now j nan) (get_or a.second.now j nan)) _ _ _ c.loop-i.invariant
    c.loop-i-test.false ∙ fill_all a.rows (λ j. times (get_or a.first.now j nan) (get_or a.second.now j nan)) _ c.requires.2
