-- `node_rows::fill_row` meets its contract: the table is the one of the specs, computed from its bits. Assumes nothing.
use mathlib.Core.Path.{refl, ◌∙◌}
use Rattle.node_rows.specs.Rows.{bits, entry}
use Rattle.node_rows.proofs.Rows.{row_copied}
use Rattle.node_rows.proofs.fill_row.Goals as goal

pub returns : goal.returns
unfolding bits entry
returns g c = c.copy_column.ensures ∙ row_copied _ _ _ c.requires.0 c.requires.1 refl c.requires.2
