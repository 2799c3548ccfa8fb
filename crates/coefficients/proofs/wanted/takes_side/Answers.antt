-- `coefficients::wanted::takes_side` meets its contract, arm by arm. Assumes nothing.
use Rattle.coefficients.proofs.wanted.takes_side.Goals as goal

pub returns-in-Gradients : goal.returns-in-Gradients
returns-in-Gradients c = rw (c.in-Gradients.is, c.is_cell.ensures)
