-- `exchange_writing::putting::put_digits` meets its contract. The loop keeps `Storing`. Assumes nothing.
use Rattle.exchange_writing.proofs.Digits.{Storing}
use Rattle.exchange_writing.proofs.putting.put_digits.Given as goal

abbrev pub invariant-loop-rest : goal.invariant-loop-rest
invariant-loop-rest l = Storing l.n l.to l.initial.text l.text l.rest l.i

abbrev pub decreases-loop-rest : goal.decreases-loop-rest
decreases-loop-rest l = l.rest
