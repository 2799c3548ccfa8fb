-- `exchange_told::with_line` meets its contract: the lesser line is the one that is told. Assumes nothing.
use Rattle.exchange_told.specs.Exchanged.{with_line}
use Rattle.exchange_told.proofs.with_line.Goals as goal

pub returns : goal.returns
unfolding with_line
returns c = rw (c.number.ensures, c.min-told.ensures)
