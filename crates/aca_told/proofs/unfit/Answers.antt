-- `aca_told::unfit` meets its contract: each return by its tests. Assumes nothing.
use borrow.Author.Tests.{le-leb, lt-leb}
use Rattle.common.specs.Refusals.{most_entries}
use Rattle.aca_told.specs.Working.{unfit_number}
use Rattle.aca_told.proofs.unfit.Goals.{then-rows-gt-MOST_ENTRIES-via-then-rows-gt-MOST_ENTRIES}
use Rattle.aca_told.proofs.unfit.Goals.{then-rows-gt-MOST_ENTRIES-via-else-rows-gt-MOST_ENTRIES+then-columns-gt-MOST_ENTRIES}
use Rattle.aca_told.proofs.unfit.Goals as goal

pub returns-then-rows-gt-MOST_ENTRIES : goal.returns-then-rows-gt-MOST_ENTRIES
unfolding unfit_number
returns-then-rows-gt-MOST_ENTRIES c =
    elim c.then-rows-gt-MOST_ENTRIES.branch [
      | then-rows-gt-MOST_ENTRIES-via-then-rows-gt-MOST_ENTRIES w ↦ rw (lt-leb _ most_entries w.if-rows-gt-MOST_ENTRIES.true)
      | then-rows-gt-MOST_ENTRIES-via-else-rows-gt-MOST_ENTRIES+then-columns-gt-MOST_ENTRIES w ↦
          rw (
            le-leb _ most_entries w.if-rows-gt-MOST_ENTRIES.false,
            lt-leb _ most_entries w.if-columns-gt-MOST_ENTRIES.true,
          )
    ]

pub returns : goal.returns
unfolding unfit_number
returns c =
    rw (
      le-leb _ most_entries c.if-rows-gt-MOST_ENTRIES.false,
      le-leb _ most_entries c.if-columns-gt-MOST_ENTRIES.false,
    )
