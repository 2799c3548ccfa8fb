-- `vectors::digits_of` meets its contract: a digit is below 8. Assumes nothing.
use Rattle.vectors.proofs.Held.{shifted_below}
use Rattle.vectors.proofs.digits_of.Goals as goal

pub check_digits-requires : goal.check_digits-requires
check_digits-requires c = (
  rw c.shifted.ensures (shifted_below _),
  rw c.shifted-2.ensures (shifted_below _),
  rw c.shifted-3.ensures (shifted_below _),
)
