-- `exchange_told::tell` meets its contract: by the slice's length. Assumes nothing.
use Rattle.std.proofs.Common.{ℕ, List, ap}
use borrow.Author.Tests.{eq-eqb, ne_eqb}
use Rattle.exchange_told.proofs.tell.Goals as goal

pub returns-then-lent-values : goal.returns-then-lent-values
returns-then-lent-values c = rw (ne_eqb _ _ c.if-lent-values.true, c.with_line.ensures)

pub returns : goal.returns
returns c = rw (eq-eqb _ _ c.if-lent-values.false) (ap (λ (l : List ℕ). (0, l)) c.copy_from_slice.ensures.after)
