-- `passes::add_column` meets its contract. The loop keeps `Filling`: k sums are added to. Assumes nothing.
use mathlib.Core.Path.{refl}
use Prim.Native.Nat.{◌+◌}
use native.Mathlib.Omega.{arith}
use lib.Ieee.{nan}
use lib.ListN.{get_or}
use Rattle.common.specs.Floats.{plus, times}
use Rattle.common.proofs.Fill.{filling_none, changing_front, filling_whole}
use Rattle.passes.specs.Working.{added}
use Rattle.passes.proofs.add_column.Goals as goal

pub loop-k-init : goal.loop-k-init
loop-k-init c = let a = c.args in filling_none 0 4 (added a.value a.strip.now a.at a.sums.now) _

pub loop-k-preserved : goal.loop-k-preserved
loop-k-preserved c =
    let l = c.loop-k in
    let a = c.args in
    changing_front 4 (added a.value a.strip.now a.at a.sums.now)
    (λ x. plus x (times a.value (get_or a.strip.now (a.at + l.k) nan))) _ _ _ nan _ l.invariant c.loop-k-test.true
    (omega arith) refl refl

pub returns : goal.returns
returns c =
    let a = c.args in
    filling_whole 4 (added a.value a.strip.now a.at a.sums.now) _ _ _ c.loop-k.invariant c.loop-k-test.false (omega arith)
