-- `aca_pivots::search::better` meets its contract: entry k is larger and counts, does not count, or is not larger. Assumes nothing.
use borrow.Author.Tests.{eq-eqb, ne_eqb}
use Rattle.aca_pivots.specs.Largest.{counts}
use Rattle.aca_pivots.proofs.Largest.{taken, passed, masked}
use Rattle.aca_pivots.proofs.search.better.Goals.{then-not-held-s-via-then-not-held-s}
use Rattle.aca_pivots.proofs.search.better.Goals.{then-not-held-s-via-else-not-held-s+then-mask-k-ne1}
use Rattle.aca_pivots.proofs.search.better.Goals as goal

pub returns-then-not-held-s : goal.returns-then-not-held-s
unfolding counts
returns-then-not-held-s c =
    let held_is = c.requires.held_value in
    let size_is = c.size_of-s.ensures in
    elim c.then-not-held-s.branch [
      | then-not-held-s-via-then-not-held-s w ↦ passed _ _ _ held_is size_is w.if-not-held-s.true
      | then-not-held-s-via-else-not-held-s+then-mask-k-ne1 w ↦ masked _ _ _ held_is size_is (ne_eqb _ _ w.if-mask-k-ne1.true)
    ]

pub returns : goal.returns
unfolding counts
returns c =
    let size_is = c.size_of-s.ensures in
    taken _ _ _ c.requires.held_value size_is (eq-eqb _ _ c.if-mask-k-ne1.false) c.if-not-held-s.false
