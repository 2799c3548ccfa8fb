-- `choices::cutoff::first_below` meets its contract. The loop keeps: the squares from place `at` on are summed, and `at` is the first place
-- found from there on. Assumes nothing.
use mathlib.Core.Path.{◌≡◌, sym}
use Prim.Native.Nat.{◌-◌}
use native.Mathlib.Omega.{arith}
use lib.Ieee.{nan}
use lib.ListN.{get_or, drop}
use Rattle.common.specs.Floats.{plus, times}
use Rattle.choices.specs.Cutoff.{squares}
use Rattle.choices.proofs.Tails.{squares_none, squares_more, first_none, first_here, first_after}
use Rattle.choices.proofs.cutoff.first_below.Goals.{In-loop-at}
use Rattle.choices.proofs.cutoff.first_below.Goals as goal

-- inside the loop: one square more
more : (c : In-loop-at) → let values = c.args.values.now in let x = get_or values (c.loop-at.at - 1) nan in
    plus c.loop-at.sum (times x x) ≡ squares (drop (c.loop-at.at - 1) values)
more c = squares_more c.args.values.now c.loop-at.at c.loop-at-test.true c.loop-at.auto.at c.loop-at.invariant.0

pub loop-at-init : goal.loop-at-init
loop-at-init c = let a = c.args in (squares_none a.values.now, first_none a.bound a.values.now)

pub returns-then-not-sum-bound : goal.returns-then-not-sum-bound
returns-then-not-sum-bound c =
    let a = c.args in
    let l = c.loop-at in
    let sum = more (goal.at.returns-then-not-sum-bound c).In-loop-at in
    first_after a.values.now l.at c.loop-at-test.true l.auto.at a.bound sum c.if-not-sum-bound.true l.invariant.1

pub loop-at-preserved : goal.loop-at-preserved
loop-at-preserved c =
    let a = c.args in
    let l = c.loop-at in
    let sum = more (goal.at.loop-at-preserved c).In-loop-at in
    (sum, first_here a.values.now l.at c.loop-at-test.true l.auto.at a.bound sum c.if-not-sum-bound.false)

pub returns : goal.returns
returns c =
    let none : c.loop-at.at ≡ 0 = omega arith in
    sym (rw none at c.loop-at.invariant.1)
