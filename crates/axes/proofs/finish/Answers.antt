-- `axes::finish` meets its contract. The loop keeps `Filling`, of whatever the closure computes: k sums are finished. Assumes nothing.
use mathlib.Core.Path.{refl}
use Prim.Native.Nat.{◌+◌}
use lib.Ieee.{nan}
use lib.ListN.{get_or}
use Rattle.common.proofs.Fill.{filling_none, changing_more, filling_done}
use Rattle.axes.proofs.finish.Goals as goal

pub loop-k-init : goal.loop-k-init
loop-k-init g c = λ f h. let a = c.args in filling_none a.at a.count (λ j. f (get_or a.sums.now (a.at + j) nan)) _

pub loop-k-preserved : goal.loop-k-preserved
loop-k-preserved g c = λ f h.
    let a = c.args in
    changing_more a.at a.count (λ j. f (get_or a.sums.now (a.at + j) nan)) _ f _ _ _ nan _ (c.loop-k.invariant f h) c.loop-k-test.true
    c.requires.room refl refl (h _ _ c.made_of.ensures)

pub returns : goal.returns
returns g c = λ f h.
    let a = c.args in
    filling_done a.at a.count (λ j. f (get_or a.sums.now (a.at + j) nan)) _ _ _ (c.loop-k.invariant f h) c.loop-k-test.false
