-- `aca_pivots::flags::best_in` meets its contract. The loop keeps: what is held is the best on from `from` to k. Assumes nothing.
use mathlib.Core.Path.{◌≡◌}
use Prim.Native.Nat.{◌+◌, ◌-◌, ◌%◌}
use native.Mathlib.Omega.{arith}
use Rattle.aca_pivots.proofs.Words.{extended_on, extended_none}
use Rattle.aca_pivots.proofs.flags.best_in.Goals as goal

pub returns-then-word-eq0 : goal.returns-then-word-eq0
returns-then-word-eq0 c =
    let a = c.args in
    rw c.if-word-eq0.true (extended_none a.entries.now a.from a.end a.held c.requires.0)

pub loop-k-init : goal.loop-k-init
loop-k-init c = let p = c.requires in (omega arith, omega (arith, p.0), omega (arith, p.0), λ on said held. held)

pub loop-k-preserved : goal.loop-k-preserved
loop-k-preserved c =
    let l = c.loop-k in
    let all = extended_on _ _ _ l.k (l.k + 4) _ _ _ l.invariant.0 (omega arith) l.invariant.3 c.better_in_four-largest.ensures in
    let less = c.loop-k-test.true in
    (omega (arith, l.invariant.0), omega (arith, less, l.invariant.2), omega (arith, less, l.invariant.2), all)

pub returns : goal.returns
returns c =
    let l = c.loop-k in
    let a = c.args in
    let fours : a.end - (a.end - a.from) % 4 ≡ l.k = omega (arith, c.loop-k-test.false, l.invariant.1) in
    let few = rw fours at c.best_of_few.ensures in
    extended_on _ _ _ l.k _ _ _ _ l.invariant.0 (omega (arith, fours)) l.invariant.3 few
