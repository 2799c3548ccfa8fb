-- `roots::whole::floor_root` meets its contract: a step of Newton's gives a number that is at least the root. Assumes nothing.
use Prim.Native.Nat.{◌+◌, ◌*◌, ◌/◌, ◌^◌, ◌≤◌}
use native.Mathlib.Omega.{arith}
use Rattle.roots.proofs.Newton.{square_le, Step, step}
use Rattle.roots.proofs.whole.floor_root.Goals.{After-guess-near}
use Rattle.roots.proofs.whole.floor_root.Goals as goal

stepped : (c : After-guess-near) → let a = c.args in Step a.m a.digits a.odd c.guess-near.result
stepped c =
    let a = c.args in
    step a.m a.digits a.odd c.guess-near.result c.requires c.guess-near.ensures.low c.guess-near.ensures.high

pub guess-near-requires : goal.guess-near-requires
guess-near-requires c = omega (arith, c.requires.high)

pub overflow_add-root : goal.overflow_add-root
overflow_add-root c = let s = stepped (goal.at.overflow_add-root c).After-guess-near in rw s.cut (omega arith)

pub overflow_mul-root : goal.overflow_mul-root
overflow_mul-root c =
    let s = stepped (goal.at.overflow_mul-root c).After-guess-near in
    let a = c.args in
    let small : (c.guess-near.result * 2 ^ a.odd + a.digits / c.guess-near.result) / 2 ≤ 2 ^ 29 = omega arith in
    rw s.cut (omega (arith, square_le _ (2 ^ 29) small))

pub returns-then-root-m : goal.returns-then-root-m
returns-then-root-m c = let s = stepped (goal.at.returns-then-root-m c).After-guess-near in record { below = c.if-root-m.true; above = rw s.cut s.above }

pub lowered-requires : goal.lowered-requires
lowered-requires c = let s = stepped (goal.at.lowered-requires c).After-guess-near in record { above = rw s.cut s.above; small = rw s.cut (omega arith) }

pub returns : goal.returns
returns c = record { below = c.lowered.ensures.below; above = c.lowered.ensures.above }
