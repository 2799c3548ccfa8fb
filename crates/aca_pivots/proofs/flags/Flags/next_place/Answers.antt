-- `aca_pivots::flags::Flags::next_place` meets its contract. Assumes nothing.
use borrow.Author.Tests.{eq-eqb, ne_eqb}
use Rattle.aca_pivots.proofs.flags.Flags.next_place.Goals as goal

pub returns-then-self-at-eq0 : goal.returns-then-self-at-eq0
returns-then-self-at-eq0 c = rw (eq-eqb _ _ c.if-self-at-eq0.true)

pub returns : goal.returns
returns c = rw (ne_eqb _ _ c.if-self-at-eq0.false)
