-- `aca_pivots::search::pivot_at` meets its contract. Assumes nothing.
use Rattle.aca_pivots.proofs.Largest.{at_entry, past_entries}
use Rattle.aca_pivots.proofs.search.pivot_at.Goals as goal

pub returns-then-place-entries : goal.returns-then-place-entries
returns-then-place-entries c =
    let a = c.args in
    at_entry a.entries.now a.place c.if-place-entries.true c.size_of.ensures

pub returns : goal.returns
returns c = let a = c.args in past_entries a.entries.now a.place c.if-place-entries.false
