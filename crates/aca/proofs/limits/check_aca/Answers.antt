-- `aca::limits::check_aca` meets its contract: each return by the tests that led there. Assumes nothing.
use mathlib.Core.Path.{sym, ◌∙◌}
use borrow.Author.Tests.{le-leb, lt-leb}
use Rattle.common.specs.Refusals.{most_entries}
use Rattle.aca.specs.Runs.{aca_number}
use Rattle.aca.proofs.limits.check_aca.Goals.{then-rows-gt-MOST_ENTRIES-via-then-rows-gt-MOST_ENTRIES}
use Rattle.aca.proofs.limits.check_aca.Goals.{then-rows-gt-MOST_ENTRIES-via-else-rows-gt-MOST_ENTRIES+then-columns-gt-MOST_ENTRIES}
use Rattle.aca.proofs.limits.check_aca.Goals as goal

pub returns-then-rows-gt-MOST_ENTRIES : goal.returns-then-rows-gt-MOST_ENTRIES
unfolding aca_number
returns-then-rows-gt-MOST_ENTRIES c =
    elim c.then-rows-gt-MOST_ENTRIES.branch [
      | then-rows-gt-MOST_ENTRIES-via-then-rows-gt-MOST_ENTRIES w ↦ rw (lt-leb _ most_entries w.if-rows-gt-MOST_ENTRIES.true)
      | then-rows-gt-MOST_ENTRIES-via-else-rows-gt-MOST_ENTRIES+then-columns-gt-MOST_ENTRIES w ↦
          rw (
            le-leb _ most_entries w.if-rows-gt-MOST_ENTRIES.false,
            lt-leb _ most_entries w.if-columns-gt-MOST_ENTRIES.true,
          )
    ]

pub returns-then-fits : goal.returns-then-fits
unfolding aca_number
returns-then-fits c =
    rw (
      le-leb _ most_entries c.if-rows-gt-MOST_ENTRIES.false,
      le-leb _ most_entries c.if-columns-gt-MOST_ENTRIES.false,
      sym c.fits.ensures ∙ c.if-fits.true,
    )

pub returns : goal.returns
unfolding aca_number
returns c =
    rw (
      le-leb _ most_entries c.if-rows-gt-MOST_ENTRIES.false,
      le-leb _ most_entries c.if-columns-gt-MOST_ENTRIES.false,
      sym c.fits.ensures ∙ c.if-fits.false,
    )
