-- `exchange_told::tell_sizes` meets its contract: each arm by its variant. Assumes nothing.
use Rattle.exchange_told.specs.Working.{values_told}
use Rattle.exchange_told.proofs.tell_sizes.Goals as goal

pub returns-in-Err : goal.returns-in-Err
unfolding values_told
returns-in-Err c = rw (c.in-Err.is, c.with_line.ensures)

pub returns-in-Ok : goal.returns-in-Ok
unfolding values_told
returns-in-Ok c = rw c.in-Ok.is c.tell.ensures
