-- `aca_pivots::flags::better_in` meets its contract: entry k is larger and counts, does not count, or is not larger. Assumes nothing.
use Rattle.aca_pivots.proofs.Words.{extended_taken, extended_masked, extended_passed}
use Rattle.aca_pivots.proofs.flags.better_in.Goals.{then-not-held-s-via-then-not-held-s}
use Rattle.aca_pivots.proofs.flags.better_in.Goals.{then-not-held-s-via-else-not-held-s+then-word-k-ne1}
use Rattle.aca_pivots.proofs.flags.better_in.Goals as goal

pub returns-then-not-held-s : goal.returns-then-not-held-s
returns-then-not-held-s c =
    let a = c.args in
    let size_is = c.size_of-s.ensures in
    elim c.then-not-held-s.branch [
      | then-not-held-s-via-then-not-held-s w ↦ extended_passed a.entries.now a.word a.k size_is w.if-not-held-s.true
      | then-not-held-s-via-else-not-held-s+then-word-k-ne1 w ↦
          extended_masked a.entries.now a.word a.k size_is w.if-word-k-ne1.true
    ]

pub returns : goal.returns
returns c =
    let a = c.args in
    extended_taken a.entries.now a.word a.k c.size_of-s.ensures c.if-word-k-ne1.false
    c.if-not-held-s.false
