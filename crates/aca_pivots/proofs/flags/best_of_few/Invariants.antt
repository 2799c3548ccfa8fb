-- `aca_pivots::flags::best_of_few` meets its contract. The loop keeps: what is held is the best on from `from` to k. Assumes nothing.
use Rattle.aca_pivots.specs.Working.{Extended}
use Rattle.aca_pivots.proofs.flags.best_of_few.Given as goal

abbrev pub invariant-loop-k : goal.invariant-loop-k
invariant-loop-k l = Extended l.entries l.word l.from l.k l.initial.largest l.largest
