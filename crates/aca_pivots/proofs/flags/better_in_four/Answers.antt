-- `aca_pivots::flags::better_in_four` meets its contract: one entry after the other. Assumes nothing.
use Prim.Native.Nat.{◌+◌}
use native.Mathlib.Omega.{arith}
use mathlib.Core.Path.{◌≡◌}
use Rattle.aca_pivots.proofs.Words.{extended_on}
use Rattle.aca_pivots.proofs.flags.better_in_four.Goals as goal

pub returns : goal.returns
returns c =
    let k = c.args.k in
    let two : k + 1 + 1 ≡ k + 2 = omega arith in
    let three : k + 2 + 1 ≡ k + 3 = omega arith in
    let four : k + 3 + 1 ≡ k + 4 = omega arith in
    let first = c.better_in-one.ensures in
    let next = rw two at c.better_in-two.ensures in
    let second = extended_on _ _ k (k + 1) (k + 2) _ _ _ (omega arith) (omega arith) first next in
    let later = rw three at c.better_in-three.ensures in
    let third = extended_on _ _ k (k + 2) (k + 3) _ _ _ (omega arith) (omega arith) second later in
    extended_on _ _ k (k + 3) (k + 4) _ _ _ (omega arith) (omega arith) third (rw four at c.better_in.ensures)
