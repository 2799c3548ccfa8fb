-- `mending_counts::count_few` meets its contract. The loop's invariant: the bytes before this one are counted. Assumes nothing.
use native.Mathlib.Omega.{arith}
use borrow.Author.Rules.{rules}
use Rattle.mending_counts.specs.Occurrences.{occurs}
use Rattle.mending_counts.proofs.Occurring.{occurs_same, occurs_other}
use Rattle.mending_counts.proofs.count_few.Goals.{then-x-letter, else-x-letter}
use Rattle.mending_counts.proofs.count_few.Goals as goal

pub loop-x-init : goal.loop-x-init
unfolding occurs
loop-x-init c = search rules

pub loop-x-preserved : goal.loop-x-preserved
loop-x-preserved c =
    let l = c.loop-x in
    let a = c.args in
    elim c.if-x-letter.branch [
      | then-x-letter w ↦
          (omega arith, rw w.count-is (occurs_same a.letter a.part.now l.x-index (omega arith) l.invariant.1 w.if-x-letter.true))
      | else-x-letter w ↦
          (omega arith, rw w.count-is (occurs_other a.letter a.part.now l.x-index (omega arith) l.invariant.1 w.if-x-letter.false))
    ]
