-- `aca_pivots::flags::Flags::lowest_on` meets its contract. The loop keeps that every flag below k is off. Assumes nothing.
use mathlib.Core.Path.{sym, ◌∙◌}
use native.Mathlib.Omega.{arith}
use Rattle.common.proofs.Cases.{by_lt}
use Rattle.common.proofs.Tests.{lowest_is, lowest_none}
use Rattle.aca_pivots.proofs.Unused.{off_between, next_further}
use Rattle.aca_pivots.proofs.flags.Flags.lowest_on.Goals as goal

pub loop-k-init : goal.loop-k-init
loop-k-init c = c.requires.2

pub is_on-requires : goal.is_on-requires
is_on-requires c = omega (arith, c.loop-k-test.true, c.requires.1)

pub returns-then-is_on : goal.returns-then-is_on
returns-then-is_on c =
    let l = c.loop-k in
    lowest_is c.args.most _ l.k c.loop-k-test.true (sym c.is_on.ensures ∙ c.if-is_on.true) l.invariant

pub next_place-k-requires : goal.next_place-k-requires
next_place-k-requires c = omega (arith, c.loop-k-test.true, c.requires.1)

pub loop-k-smaller : goal.loop-k-smaller
loop-k-smaller c =
    let k = c.loop-k.k in
    let further = next_further c.args.self.now.words k in
    rw c.next_place-k.ensures (omega (arith, c.loop-k-test.true, further))

pub loop-k-preserved : goal.loop-k-preserved
loop-k-preserved c =
    let l = c.loop-k in
    let flags = c.args.self.now.words in
    let off = sym c.is_on.ensures ∙ c.if-is_on.false in
    λ i b. by_lt i l.k (λ below _. l.invariant i below) (λ from _. off_between flags l.k i off from (rw c.next_place-k.ensures at b))

pub returns : goal.returns
returns c =
    let l = c.loop-k in
    lowest_none c.args.most _ (λ i b. l.invariant i (omega (arith, b, c.loop-k-test.false)))
