-- `common::dot` meets its contract. The loop keeps: the sum is that of the first s products. Assumes nothing.
use Rattle.std.proofs.Common.{◌≡◌, refl, arith}
use Rattle.common.specs.Floats.{times, sums, spaced}
use Rattle.common.proofs.Sums.{sums_more}
use Rattle.common.proofs.dot.Goals as goal

pub loop-s-init : goal.loop-s-init
unfolding sums
loop-s-init c = refl

pub loop-s-preserved : goal.loop-s-preserved
loop-s-preserved c =
    let a = c.args in
    sums_more (λ k. times (spaced a.a.now a.i a.di k) (spaced a.b.now a.j a.dj k)) c.loop-s.s _ c.loop-s.invariant

pub returns : goal.returns
returns c = let e : c.loop-s.s ≡ c.args.n = omega arith in rw e at c.loop-s.invariant
