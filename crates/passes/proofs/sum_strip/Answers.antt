-- `passes::sum_strip` meets its contract. The loop keeps: each sum has its first s terms. Assumes nothing.
use mathlib.Core.Path.{◌≡◌, refl, ◌∙◌}
use native.Mathlib.Omega.{arith}
use Rattle.common.specs.Floats.{sums}
use Rattle.passes.proofs.Strips.{sum_more}
use Rattle.passes.proofs.sum_strip.Goals as goal

pub loop-s-init : goal.loop-s-init
unfolding sums
loop-s-init c = c.requires.2

pub add_column-requires : goal.add_column-requires
add_column-requires c =
    let l = c.loop-s in
    omega (arith, c.requires.0)

pub loop-s-preserved : goal.loop-s-preserved
loop-s-preserved c =
    let l = c.loop-s in
    let a = c.args in
    c.add_column.ensures ∙ sum_more a.values.now a.strip.now l.sums a.from l.s _ refl l.invariant

pub returns : goal.returns
returns c = let all : c.loop-s.s ≡ c.args.order = omega arith in rw all at
    c.loop-s.invariant
