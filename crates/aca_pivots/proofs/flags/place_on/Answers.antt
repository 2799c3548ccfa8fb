-- `aca_pivots::flags::place_on` meets its contract. The loop keeps: what is held is the best of the entries below `from`, which is the
-- first place of a word. Assumes nothing.
use mathlib.Core.Path.{◌≡◌, refl}
use native.Mathlib.Omega.{arith}
use lib.ListN.{length}
use Rattle.aca_pivots.specs.Largest.{best}
use Rattle.aca_pivots.proofs.Largest.{place_found}
use Rattle.aca_pivots.proofs.Words.{by_word}
use Rattle.aca_pivots.proofs.flags.place_on.Goals as goal

pub loop-from-init : goal.loop-from-init
unfolding best
loop-from-init c = (omega arith, λ _. refl, refl)

pub loop-from-preserved : goal.loop-from-preserved
loop-from-preserved c =
    let a = c.args in
    let l = c.loop-from in
    let first = l.invariant.1 c.loop-from-test.true in
    let end = c.min-end.ensures in (
      omega (arith, end),
      λ more. omega (arith, end, first, more),
      by_word a.entries.now a.flags.now.words l.from _ _ _ first (omega (arith, end)) c.best_in-largest.ensures l.invariant.2,
    )

pub returns : goal.returns
returns c =
    let entries = c.args.entries.now in
    let l = c.loop-from in
    let all : l.from ≡ length entries = omega (arith, c.loop-from-test.false, l.invariant.0) in
    place_found entries _ l.largest (rw all at l.invariant.2)
