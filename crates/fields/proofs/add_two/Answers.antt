-- `fields::add_two` meets its contract. The loop keeps `Filling`: i points have both terms. Assumes nothing.
use mathlib.Core.Path.{refl, sym, ap}
use Prim.Native.Nat.{ℕ}
use native.Mathlib.Nat.{zero-add}
use native.Mathlib.Omega.{arith}
use lib.Ieee.{nan}
use lib.ListN.{get_or}
use Rattle.common.proofs.Fill.{filling_none, changing_more, filling_done}
use Rattle.fields.specs.Working.{with_two}
use Rattle.fields.proofs.add_two.Goals as goal

pub loop-i-init : goal.loop-i-init
loop-i-init c = filling_none _ _ _ _

pub loop-i-preserved : goal.loop-i-preserved
loop-i-preserved c =
    let a = c.args in
    let l = c.loop-i in
    changing_more 0 a.count _ a.gas.now (with_two a.values.now a.at a.next a.first a.second l.i) _ _ _ nan _
    l.invariant c.loop-i-test.true (omega (arith, c.requires.2)) (sym (zero-add l.i))
    (ap (λ (k : ℕ). with_two a.values.now a.at a.next a.first a.second l.i (get_or a.gas.now k nan))
    (sym (zero-add l.i))) refl

pub shape_of-gas : goal.shape_of-gas
shape_of-gas c = c.loop-i.invariant.long

pub returns : goal.returns
returns c = filling_done _ _ _ _ _ _ c.loop-i.invariant c.loop-i-test.false
