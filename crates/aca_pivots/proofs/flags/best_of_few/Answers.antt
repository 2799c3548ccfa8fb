-- `aca_pivots::flags::best_of_few` meets its contract. The loop keeps: what is held is the best on from `from` to k. Assumes nothing.
use mathlib.Core.Path.{◌≡◌}
use Prim.Native.Nat.{◌+◌}
use native.Mathlib.Omega.{arith}
use Rattle.aca_pivots.proofs.Words.{extended_on}
use Rattle.aca_pivots.proofs.flags.best_of_few.Goals as goal

pub loop-k-init : goal.loop-k-init
loop-k-init c = λ on said held. held

pub loop-k-preserved : goal.loop-k-preserved
loop-k-preserved c =
    let l = c.loop-k in
    extended_on _ _ _ l.k (l.k + 1) _ _ _ (omega arith) (omega arith) l.invariant c.better_in-largest.ensures

pub returns : goal.returns
returns c =
    let end : c.loop-k.k ≡ c.args.end = omega arith in
    rw end at c.loop-k.invariant
