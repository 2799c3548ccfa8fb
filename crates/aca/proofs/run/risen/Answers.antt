-- `aca::run::risen` meets its contract: below the lowest unread row all are read. Assumes nothing.
use mathlib.Core.Path.{sym, subst}
use Prim.Native.Nat.{ℕ}
use Rattle.common.proofs.Tests.{lowest_most, lowest_least}
use Rattle.aca_pivots.specs.Flags.{is_on}
use Rattle.aca_progress.specs.Working.{RowsKnown}
use Rattle.aca.proofs.run.risen.Goals as goal

pub lowest_on-requires : goal.lowest_on-requires
lowest_on-requires c = let k = c.requires in (k.low_most, k.tall, k.below)

pub returns-then-restart : goal.returns-then-restart
returns-then-restart c =
    let a = c.args in
    subst (λ (low : ℕ). RowsKnown low a.rows a.row_flags.now.words) (sym c.lowest_on.ensures)
    (record {
      some = c.requires.some;
      tall = c.requires.tall;
      low_most = lowest_most a.rows (is_on a.row_flags.now.words);
      below = lowest_least a.rows (is_on a.row_flags.now.words);
    })
